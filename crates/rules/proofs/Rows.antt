-- Rows by their places in a table and in a range of it, and what a test of many rows says of one.
use Rattle.std.proofs.Common.{◌≡◌, ℕ, zero, suc, ◌+◌, ◌-◌, ◌<◌, ◌≤◌, Bool, true, false, ◌||◌, List, [], ◌∷◌, take, drop, Some, refl, sym, ap, ◌∙◌, inl, inr, arith}
use Rattle.std.proofs.lemmas.Bool.{cases_Bool, false≢true, true≢false}
use Rattle.std.proofs.lemmas.Option.{none-some}
use Rattle.std.specs.List.{find, list_any, slice_get}
use Rattle.rules.specs.Words.{at, part}

-- things that are there are equal exactly if what is there is
pub known : {A : Type 0} {x y : A} → Some x ≡ Some y → x ≡ y
known e = cc

pub some_of : {A : Type 0} {x y : A} → x ≡ y → Some y ≡ Some x
some_of e = ap (λ (z : _). Some z) (sym e)

-- neither holds
pub or_none : (a b : Bool) → a || b ≡ false → (a ≡ false) × (b ≡ false)
or_none true b e = absurd (true≢false e)
or_none false b e = (refl, e)

module _ {A : Type 0} where
  -- a row that is there, where a test of the row at its place fails
  pub at_kept : (xs : List A) (i : ℕ) (p : A → Bool) (x : A) → at xs i p ≡ false → slice_get xs i ≡ Some x → p x ≡ false
  at_kept xs i p x e h = rw h at e

  pub any_kept : (p : A → Bool) (xs : List A) (i : ℕ) (x : A) → list_any p xs ≡ false → slice_get xs i ≡ Some x → p x ≡ false
  any_kept p [] i x e h = absurd (none-some x h)
  any_kept p (y ∷ ys) zero x e h = let same : y ≡ x = cc in rw (← same) (or_none (p y) (list_any p ys) e).0
  any_kept p (y ∷ ys) (suc i) x e h = any_kept p ys i x (or_none (p y) (list_any p ys) e).1 h

  -- some row passes
  pub any_row : (p : A → Bool) (xs : List A) → list_any p xs ≡ true → (i : ℕ) × (x : A) × (slice_get xs i ≡ Some x) × (p x ≡ true)
  any_row p [] e = absurd (false≢true e)
  any_row p (y ∷ ys) e = elim (cases_Bool (p y)) [
    | inl hit ↦ (0, y, refl, hit)
    | inr miss ↦ (let r = any_row p ys (rw miss at e) in (suc r.0, r.1, r.2, r.3))
  ]

  pub row_any : (p : A → Bool) (xs : List A) (i : ℕ) (x : A) → slice_get xs i ≡ Some x → p x ≡ true → list_any p xs ≡ true
  row_any p xs i x h hit = elim (cases_Bool (list_any p xs)) [
    | inl any ↦ any
    | inr none ↦ absurd (true≢false (sym hit ∙ any_kept p xs i x none h))
  ]

  -- the first row that passes
  pub find_row : (p : A → Bool) (xs : List A) (x : A) → find p xs ≡ Some x →
      (i : ℕ) × (slice_get xs i ≡ Some x) × (p x ≡ true) × (list_any p (take i xs) ≡ false)
  find_row p [] x e = absurd (none-some x e)
  find_row p (y ∷ ys) x e = elim (cases_Bool (p y)) [
    | inl hit ↦ (let same : Some y ≡ Some x = rw hit at e in (0, same, rw (known same) at hit, refl))
    | inr miss ↦ (let r = find_row p ys x (rw miss at e) in (suc r.0, r.1, r.2, rw (miss, r.3) refl))
  ]

  pub find_some : (p : A → Bool) (xs : List A) → list_any p xs ≡ true → (x : A) × (find p xs ≡ Some x)
  find_some p [] e = absurd (false≢true e)
  find_some p (y ∷ ys) e = elim (cases_Bool (p y)) [
    | inl hit ↦ (y, rw hit refl)
    | inr miss ↦ (let r = find_some p ys (rw miss at e) in (r.0, rw miss r.1))
  ]

  -- rows of a range
  pub take_row : (xs : List A) (n i : ℕ) → i < n → slice_get (take n xs) i ≡ slice_get xs i
  take_row xs zero i lt = absurd (omega arith)
  take_row [] (suc n) i lt = refl
  take_row (x ∷ xs) (suc n) zero lt = refl
  take_row (x ∷ xs) (suc n) (suc i) lt = take_row xs n i (omega arith)

  row_taken : (xs : List A) (n i : ℕ) (x : A) → slice_get (take n xs) i ≡ Some x → i < n
  row_taken xs zero i x e = absurd (none-some x e)
  row_taken [] (suc n) i x e = absurd (none-some x e)
  row_taken (y ∷ ys) (suc n) zero x e = omega arith
  row_taken (y ∷ ys) (suc n) (suc i) x e = let lt = row_taken ys n i x e in omega arith

  drop_row : (xs : List A) (n i : ℕ) → slice_get (drop n xs) i ≡ slice_get xs (n + i)
  drop_row xs zero i = let e : 0 + i ≡ i = omega arith in rw e refl
  drop_row [] (suc n) i = refl
  drop_row (x ∷ xs) (suc n) i = let e : suc n + i ≡ suc (n + i) = omega arith in rw e (drop_row xs n i)

  pub part_row : (xs : List A) (first count k : ℕ) → first ≤ k → k < first + count → slice_get (part first count xs) (k - first) ≡ slice_get xs k
  part_row xs first count k low high =
      let e : first + (k - first) ≡ k = omega arith in
      take_row (drop first xs) count (k - first) (omega arith) ∙ drop_row xs first (k - first) ∙ rw e refl

  pub row_of_part : (xs : List A) (first count i : ℕ) (x : A) → slice_get (part first count xs) i ≡ Some x → (i < count) × (slice_get xs (first + i) ≡ Some x)
  row_of_part xs first count i x e =
      let lt = row_taken (drop first xs) count i x e in
      (lt, sym (drop_row xs first i) ∙ sym (take_row (drop first xs) count i lt) ∙ e)
