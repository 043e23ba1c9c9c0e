-- How many calls pass a test, after a with_item and after a push.
use Rattle.std.proofs.Common.{◌≡◌, ℕ, zero, suc, ◌+◌, Bool, true, false, cond, List, [], ◌∷◌, ◌++◌, length, Some, refl, ap, arith}
use Rattle.std.specs.List.{count_by, slice_get}
use Rattle.std.specs.Prelude.{slice_set}
use Rattle.std.proofs.lemmas.List.{length-append}
use Rattle.std.proofs.lemmas.List.Recursion.{is_count_by}
use Rattle.std.proofs.lemmas.Option.{none-some}
use Rattle.rules.proofs.Rows.{known}
use Rattle.steps.specs.Configurations.{item_at}
use Rattle.steps.specs.Changes.{with_item_at}

module _ {A : Type 0} where
  length_set : (xs : List A) (n : ℕ) (y : A) → length (slice_set xs n y) ≡ length xs
  length_set [] n y = refl
  length_set (x ∷ xs) zero y = refl
  length_set (x ∷ xs) (suc n) y = ap (λ (k : ℕ). suc k) (length_set xs n y)

  pub length_put : (xs : List A) (n : ℕ) (y : A) → length (with_item_at xs n y) ≡ length xs
  length_put xs zero y = refl
  length_put xs (suc n) y = length_set xs n y

  pub length_push : (xs : List A) (y : A) → length (xs ++ y ∷ []) ≡ length xs + 1
  length_push xs y = length-append xs (y ∷ [])

  module _ (p : A → Bool) where
    -- the same number, counted from the end
    abbrev pub passing : List A → ℕ
    passing [] = 0
    passing (x ∷ xs) = cond (p x) 1 0 + passing xs

    pub counted : (xs : List A) → passing xs ≡ count_by p xs
    counted = is_count_by passing p refl (λ x xs. step (p x) xs)
      where
        step : (b : Bool) (xs : List A) → cond b 1 0 + passing xs ≡ cond b (1 + passing xs) (passing xs)
        step true xs = refl
        step false xs = omega arith

    passing_set : (xs : List A) (n : ℕ) (x y : A) → slice_get xs n ≡ Some x → passing (slice_set xs n y) + cond (p x) 1 0 ≡ passing xs + cond (p y) 1 0
    passing_set [] n x y e = absurd (none-some x e)
    passing_set (z ∷ xs) zero x y e =
        let same : z ≡ x = known e in
        let one : cond {A = ℕ} (p z) 1 0 ≡ cond {A = ℕ} (p x) 1 0 = ap (λ (w : A). cond {A = ℕ} (p w) 1 0) same in
        let set : passing (slice_set (z ∷ xs) 0 y) ≡ cond (p y) 1 0 + passing xs = refl in
        let all : passing (z ∷ xs) ≡ cond (p z) 1 0 + passing xs = refl in
        omega arith
    passing_set (z ∷ xs) (suc n) x y e =
        let ih = passing_set xs n x y e in
        let set : passing (slice_set (z ∷ xs) (suc n) y) ≡ cond (p z) 1 0 + passing (slice_set xs n y) = refl in
        let all : passing (z ∷ xs) ≡ cond (p z) 1 0 + passing xs = refl in
        omega arith

    passing_push : (xs : List A) (y : A) → passing (xs ++ y ∷ []) ≡ passing xs + cond (p y) 1 0
    passing_push [] y =
        let one : passing (y ∷ []) ≡ cond (p y) 1 0 + 0 = refl in
        let none : passing [] ≡ 0 = refl in
        omega arith
    passing_push (z ∷ xs) y =
        let ih = passing_push xs y in
        let more : passing (z ∷ (xs ++ y ∷ [])) ≡ cond (p z) 1 0 + passing (xs ++ y ∷ []) = refl in
        let all : passing (z ∷ xs) ≡ cond (p z) 1 0 + passing xs = refl in
        omega arith

    pub count_put : (xs : List A) (n : ℕ) (x y : A) → item_at xs n ≡ Some x → count_by p (with_item_at xs n y) + cond (p x) 1 0 ≡ count_by p xs + cond (p y) 1 0
    count_put xs zero x y e = absurd (none-some x e)
    count_put xs (suc n) x y e =
        let set = passing_set xs n x y e in
        let a = counted (slice_set xs n y) in
        let b = counted xs in
        omega arith

    pub count_push : (xs : List A) (y : A) → count_by p (xs ++ y ∷ []) ≡ count_by p xs + cond (p y) 1 0
    count_push xs y = let more = passing_push xs y in let a = counted (xs ++ y ∷ []) in let b = counted xs in omega arith
