-- Items that stand under numbers from 1 on: after another is put under a number, and after one more.
use Rattle.std.proofs.Common.{◌≡◌, ℕ, zero, suc, ◌+◌, ◌⊎◌, List, [], ◌∷◌, ◌++◌, length, get_or, Some, refl, sym, ap, ◌∙◌, inl, inr, arith}
use Rattle.std.specs.Prelude.{slice_set, ◌==◌}
use Rattle.std.specs.List.{slice_get}
use Rattle.std.proofs.lemmas.Bool.{cases_Bool, cases_lt, eq-eqb, eqb-true, true≢false}
use Rattle.std.proofs.lemmas.List.{length-append}
use Rattle.std.proofs.lemmas.Option.{none-some, slice_get_within, slice_get-get_or}
use Rattle.rules.proofs.Rows.{known, some_of}
use Rattle.evaluation.proofs.TypedValues.{slice_left, slice_last}
use Rattle.steps.specs.Configurations.{item_at}
use Rattle.steps.specs.Changes.{with_item_at}

pub same_or : (n k : ℕ) → (k ≡ n) ⊎ (k ≡ n → ⊥)
same_or n k = elim (cases_Bool (k == n)) [
  | inl hit ↦ inl (eqb-true k n hit)
  | inr miss ↦ inr (λ e. true≢false (sym (eq-eqb k n e) ∙ miss))
]

module _ {A : Type 0} where
  pub set_here : (xs : List A) (i : ℕ) (x y : A) → slice_get xs i ≡ Some x → slice_get (slice_set xs i y) i ≡ Some y
  set_here [] i x y e = absurd (none-some x e)
  set_here (z ∷ xs) zero x y e = refl
  set_here (z ∷ xs) (suc i) x y e = set_here xs i x y e

  pub set_other : (xs : List A) (i j : ℕ) (y : A) → (j ≡ i → ⊥) → slice_get (slice_set xs i y) j ≡ slice_get xs j
  set_other [] i j y ne = refl
  set_other (z ∷ xs) zero zero y ne = absurd (ne refl)
  set_other (z ∷ xs) zero (suc j) y ne = refl
  set_other (z ∷ xs) (suc i) zero y ne = refl
  set_other (z ∷ xs) (suc i) (suc j) y ne = set_other xs i j y (λ e. ne (ap (λ (k : ℕ). suc k) e))

  pub put_here : (xs : List A) (n : ℕ) (x y : A) → item_at xs n ≡ Some x → item_at (with_item_at xs n y) n ≡ Some y
  put_here xs zero x y e = absurd (none-some x e)
  put_here xs (suc n) x y e = set_here xs n x y e

  pub put_other : (xs : List A) (n k : ℕ) (y : A) → (k ≡ n → ⊥) → item_at (with_item_at xs n y) k ≡ item_at xs k
  put_other xs zero k y ne = refl
  put_other xs (suc n) zero y ne = refl
  put_other xs (suc n) (suc k) y ne = set_other xs n k y (λ e. ne (ap (λ (k : ℕ). suc k) e))

  -- what stands under a number after a with_item
  pub put_cases : (xs : List A) (n : ℕ) (x y : A) → item_at xs n ≡ Some x → (P : ℕ → A → Type 0) → P n y →
      ((k : ℕ) (z : A) → item_at xs k ≡ Some z → (k ≡ n → ⊥) → P k z) → (k : ℕ) (z : A) → item_at (with_item_at xs n y) k ≡ Some z → P k z
  put_cases xs n x y there P here other k z e = elim (same_or n k) [
    | inl at ↦ (
        let same : y ≡ z = known (sym (put_here xs n x y there) ∙ ap (item_at (with_item_at xs n y)) (sym at) ∙ e) in
        rw (at, ← same) here
        )
    | inr ne ↦ other k z (sym (put_other xs n k y ne) ∙ e) ne
  ]

  pub push_old : (xs : List A) (y : A) (k : ℕ) (z : A) → item_at xs k ≡ Some z → item_at (xs ++ y ∷ []) k ≡ Some z
  push_old xs y zero z e = e
  push_old xs y (suc k) z e = slice_left xs (y ∷ []) k z e

  pub push_new : (xs : List A) (y : A) → item_at (xs ++ y ∷ []) (length xs + 1) ≡ Some y
  push_new xs y = let e : length xs + 1 ≡ suc (length xs) = omega arith in rw e (slice_last xs y)

  pub push_cases : (xs : List A) (y : A) (P : ℕ → A → Type 0) → P (length xs + 1) y → ((k : ℕ) (z : A) → item_at xs k ≡ Some z → P k z) →
      (k : ℕ) (z : A) → item_at (xs ++ y ∷ []) k ≡ Some z → P k z
  push_cases xs y P here other zero z e = absurd (none-some z e)
  push_cases xs y P here other (suc k) z e = elim (cases_lt k (length xs)) [
    | inl earlier ↦ (
        let there = slice_get-get_or xs k y earlier in
        let same : z ≡ get_or xs k y = known (sym e ∙ slice_left xs (y ∷ []) k (get_or xs k y) there) in
        other (suc k) z (there ∙ some_of same)
        )
    | inr last ↦ (
        let within = slice_get_within (xs ++ y ∷ []) k z e in
        let longer : length (xs ++ y ∷ []) ≡ length xs + 1 = length-append xs (y ∷ []) in
        let at : k ≡ length xs = omega arith in
        let same : y ≡ z = known (sym (slice_last xs y) ∙ ap (slice_get (xs ++ y ∷ [])) (sym at) ∙ e) in
        let number : suc k ≡ length xs + 1 = omega arith in
        rw (number, ← same) here
        )
  ]

  push_slice : (xs : List A) (y : A) (i : ℕ) → (i ≡ length xs → ⊥) → slice_get (xs ++ y ∷ []) i ≡ slice_get xs i
  push_slice [] y zero ne = absurd (ne refl)
  push_slice [] y (suc i) ne = refl
  push_slice (x ∷ xs) y zero ne = refl
  push_slice (x ∷ xs) y (suc i) ne = push_slice xs y i (λ e. ne (ap (λ (k : ℕ). suc k) e))

  pub push_other : (xs : List A) (y : A) (k : ℕ) → (k ≡ length xs + 1 → ⊥) → item_at (xs ++ y ∷ []) k ≡ item_at xs k
  push_other xs y zero ne = refl
  push_other xs y (suc k) ne = push_slice xs y k (λ e. ne (omega arith))
