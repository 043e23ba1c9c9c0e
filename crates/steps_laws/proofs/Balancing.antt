-- The account of a sound configuration balances.
use Rattle.std.proofs.Common.{◌≡◌, ℕ, zero, suc, ◌+◌, Bool, true, false, cond, List, [], ◌∷◌, take, Some, None, Option, refl, ap, ◌∙◌, arith, is_some}
use Rattle.std.specs.List.{count_by, slice_get}
use Rattle.std.proofs.lemmas.List.{take_all}
use Rattle.tables.specs.Layout.{Content}
use Rattle.rules.specs.Words.{passes}
use Rattle.syntax.specs.Rows.{given, when}
use Rattle.outside.specs.declared.value.Sort.{Sort}
use Rattle.outside.specs.Outsides.{Waits}
use Rattle.steps.specs.declared.records.CallRecord.{CallRecord}
use Rattle.steps.specs.Account.{count_to}
use Rattle.steps.specs.Configurations.{Configuration}
use Rattle.steps.specs.Crossing.{result_sort}
use Rattle.steps.specs.Sound.{Sound, waiting_sort}
use Rattle.steps.specs.States.{is_outside}
use Rattle.steps.proofs.Counting.{counted, passing}
use Rattle.steps_laws.specs.Laws.{Balanced, Balances, account_over}

module _ {A : Type 0} (p : A → Bool) where
  passing_more : (xs : List A) (k : ℕ) → passing p (take (suc k) xs) ≡ cond {A = ℕ} (passes (slice_get xs k) p) 1 0 + passing p (take k xs)
  passing_more [] zero = refl
  passing_more [] (suc k) = refl
  passing_more (x ∷ xs) zero = refl
  passing_more (x ∷ xs) (suc k) =
      let ih = passing_more xs k in
      let a : passing p (take (suc (suc k)) (x ∷ xs)) ≡ cond {A = ℕ} (p x) 1 0 + passing p (take (suc k) xs) = refl in
      let b : passing p (take (suc k) (x ∷ xs)) ≡ cond {A = ℕ} (p x) 1 0 + passing p (take k xs) = refl in
      omega arith

  pub counts_to : (xs : List A) (q : ℕ → Bool) → ((k : ℕ) → q (suc k) ≡ passes (slice_get xs k) p) → (k : ℕ) → count_to k q ≡ passing p (take k xs)
  counts_to [] q same zero = refl
  counts_to (x ∷ xs) q same zero = refl
  counts_to xs q same (suc k) =
      let ih = counts_to xs q same k in
      let more = passing_more xs k in
      let one : cond {A = ℕ} (q (suc k)) 1 0 ≡ cond {A = ℕ} (passes (slice_get xs k) p) 1 0 = ap (λ (b : Bool). cond {A = ℕ} b 1 0) (same k) in
      let all : count_to (suc k) q ≡ cond {A = ℕ} (q (suc k)) 1 0 + count_to k q = refl in
      omega arith

module _ (m : Content) (c : Configuration) (waits : Waits) (sound : Sound m c waits) where
  abbrev is_out : CallRecord → Bool
  is_out x = is_outside x.state

  some_when : (b : Bool) (s : Sort) → is_some (when b (Some s)) ≡ b
  some_when true s = refl
  some_when false s = refl

  pub waits_if : (o : Option CallRecord) → is_some (given o (waiting_sort m)) ≡ passes o is_out
  waits_if None = refl
  waits_if (Some x) = some_when (is_outside x.state) (result_sort m x)

  -- as many calls wait as are out
  waiting_are_out : count_to 128 (λ n. is_some (waits n)) ≡ count_by is_out c.calls
  waiting_are_out =
      counts_to is_out c.calls (λ n. is_some (waits n)) (λ k. ap is_some (sound.outside (suc k)) ∙ waits_if (slice_get c.calls k)) 128
      ∙ ap (passing is_out) (take_all 128 c.calls sound.order.few) ∙ counted is_out c.calls

  pub balanced : Balanced (account_over c waits)
  balanced = let same = waiting_are_out in let before = sound.order.balance in omega arith

pub balances : (m : Content) → Balances m
balances m c waits sound = balanced m c waits sound
