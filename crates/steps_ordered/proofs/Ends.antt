-- What a choice ends, told by its number.
use Rattle.std.proofs.Common.{◌≡◌, ℕ, zero, suc, Bool, true, false, cond, Some, None, Ok, Err, Option, IfOk, refl, sym, ap, arith}
use Rattle.std.specs.Prelude.{◌&&◌, ◌==◌}
use Rattle.std.proofs.lemmas.Bool.{ne_eqb}
use Rattle.std.proofs.Math.Bool.{and-false}
use Rattle.tables.specs.Layout.{Content}
use Rattle.outside.specs.declared.value.Reply.{Reply}
use Rattle.steps.specs.Configurations.{Configuration}
use Rattle.steps.specs.Outcomes.{Observation, Outcome, Transition}
use Rattle.steps.specs.Steps.{reply_step, step}
use Rattle.steps_ordered.specs.Ending.{Finish, at_return, finish_by_reply, finish_of, replies_counted, returns, returns_counted}

-- what holds of every transition
if_ok : (o : Outcome) (P : Transition → Type 0) → ((d : Transition) → P d) → IfOk o P
if_ok (Ok d) P each = each d
if_ok (Err e) P each = tt

module _ (m : Content) (c : Configuration) (seen : Observation) where
  -- choice n returns call k if that is call n, at a return
  pub returns_by : (n k : ℕ) → returns (finish_of m c seen n) k ≡ (n == k && at_return m c n)
  returns_by zero k = by_reply seen.next
    where
      by_reply : (o : Option Reply) → returns (finish_by_reply o) k ≡ (0 == k && false)
      by_reply None = sym (and-false (0 == k))
      by_reply (Some r) = sym (and-false (0 == k))
  returns_by (suc n) k = by_return (at_return m c (suc n))
    where
      by_return : (b : Bool) → returns (cond b (Finish.return (suc n)) Finish.nothing) k ≡ (suc n == k && b)
      by_return true = by_number (suc n == k)
        where
          by_number : (b : Bool) → b ≡ (b && true)
          by_number true = refl
          by_number false = refl
      by_return false = sym (and-false (suc n == k))

  -- a return is counted at a return
  pub returns_counted_by : (n : ℕ) → returns_counted (finish_of m c seen n) ≡ cond (at_return m c n) 1 0
  returns_counted_by zero = by_reply seen.next
    where
      by_reply : (o : Option Reply) → returns_counted (finish_by_reply o) ≡ 0
      by_reply None = refl
      by_reply (Some r) = refl
  returns_counted_by (suc n) = by_return (at_return m c (suc n))
    where
      by_return : (b : Bool) → returns_counted (cond b (Finish.return (suc n)) Finish.nothing) ≡ cond b 1 0
      by_return true = refl
      by_return false = refl

  -- a reply is counted by an accepted choice 0
  pub replies_counted_by : (n : ℕ) → IfOk (step m c seen n) (λ d. replies_counted (finish_of m c seen n) ≡ cond (n == 0) 1 0)
  replies_counted_by zero = by_reply seen.next
    where
      by_reply : (o : Option Reply) → IfOk (reply_step m c o) (λ d. replies_counted (finish_by_reply o) ≡ 1)
      by_reply None = tt
      by_reply (Some r) = if_ok (reply_step m c (Some r)) (λ d. replies_counted (finish_by_reply (Some r)) ≡ 1) (λ d. refl)
  replies_counted_by (suc n) = if_ok (step m c seen (suc n)) (λ d. replies_counted (finish_of m c seen (suc n)) ≡ cond (suc n == 0) 1 0)
      (λ d. by_return (at_return m c (suc n)))
    where
      by_return : (b : Bool) → replies_counted (cond b (Finish.return (suc n)) Finish.nothing) ≡ cond (suc n == 0) 1 0
      by_return true = sym (ap (λ (z : Bool). cond {A = ℕ} z 1 0) (ne_eqb (suc n) 0 (λ e. omega arith)))
      by_return false = sym (ap (λ (z : Bool). cond {A = ℕ} z 1 0) (ne_eqb (suc n) 0 (λ e. omega arith)))
