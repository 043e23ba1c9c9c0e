-- What `first_in` and `first_below` find, over any `f`.
use Rattle.std.proofs.Common.{◌≡◌, ℕ, zero, suc, ◌+◌, ◌<◌, ◌≤◌, ◌⊎◌, List, [], ◌∷◌, Some, None, Option, refl, inl, inr, ⊎_elim, add-one, arith}
use Rattle.std.proofs.lemmas.Bool.{cases_lt}
use Rattle.tables.specs.Least.{or_else, first_in, first_below}

pub some_none : {A : Type 0} (x : A) → Some x ≡ None → ⊥
some_none x e = cc

or_else_none : {A : Type 0} (a b : Option A) → or_else a b ≡ None → (a ≡ None) × (b ≡ None)
or_else_none None b e = (refl, e)
or_else_none (Some x) b e = absurd (some_none x e)

or_else_some : {A : Type 0} (a b : Option A) (x : A) → or_else a b ≡ Some x → (a ≡ Some x) ⊎ ((a ≡ None) × (b ≡ Some x))
or_else_some None b x e = inr (refl, e)
or_else_some (Some y) b x e = inl e

pub none_after : {A : Type 0} (o : Option A) → or_else o None ≡ o
none_after None = refl
none_after (Some x) = refl

pub or_else_assoc : {A : Type 0} (a b c : Option A) → or_else (or_else a b) c ≡ or_else a (or_else b c)
or_else_assoc None b c = refl
or_else_assoc (Some x) b c = refl

-- membership, and a list whose keys rise from `n` on
abbrev pub In : {A : Type 0} → A → List A → Type 0
In x [] = ⊥
In x (y ∷ ys) = (x ≡ y) ⊎ In x ys

abbrev pub Rising : {A : Type 0} → (A → ℕ) → ℕ → List A → Type 0
Rising key n [] = Unit {0}
Rising key n (x ∷ xs) = (n ≤ key x) × Rising key (suc (key x)) xs

rising_above : {A : Type 0} (key : A → ℕ) (n : ℕ) (xs : List A) → Rising key n xs → (x : A) → In x xs → n ≤ key x
rising_above key n [] h x at = elim at [ ]
rising_above key n (y ∷ ys) h x (inl e) = rw e h.0
rising_above key n (y ∷ ys) h x (inr at) = let more : suc (key y) ≤ key x = rising_above key (suc (key y)) ys h.1 x at in omega (arith, h.0)

module _ {A B : Type 0} (f : A → Option B) where
  pub in_none : (xs : List A) → first_in f xs ≡ None → (x : A) → In x xs → f x ≡ None
  in_none [] h x at = elim at [ ]
  in_none (y ∷ ys) h x (inl e) = rw e (or_else_none (f y) (first_in f ys) h).0
  in_none (y ∷ ys) h x (inr at) = in_none ys (or_else_none (f y) (first_in f ys) h).1 x at

  pub none_in : (xs : List A) → ((x : A) → In x xs → f x ≡ None) → first_in f xs ≡ None
  none_in [] h = refl
  none_in (y ∷ ys) h = rw (h y (inl refl)) (none_in ys (λ x at. h x (inr at)))

  -- nothing for a member of a lesser key, and y here
  pub first_in_lem : (key : A → ℕ) (n : ℕ) (xs : List A) → Rising key n xs → (x : A) → In x xs → (y : B) → f x ≡ Some y →
      ((z : A) → In z xs → key z < key x → f z ≡ None) → first_in f xs ≡ Some y
  first_in_lem key n [] rising x at y here below = elim at [ ]
  first_in_lem key n (z ∷ zs) rising x (inl e) y here below = rw (rw e at here)
  first_in_lem key n (z ∷ zs) rising x (inr at) y here below =
      let more : suc (key z) ≤ key x = rising_above key (suc (key z)) zs rising.1 x at in
      rw (below z (inl refl) (omega arith)) (first_in_lem key (suc (key z)) zs rising.1 x at y here (λ w in-zs. below w (inr in-zs)))

  pub some_in : (key : A → ℕ) (n : ℕ) (xs : List A) → Rising key n xs → (y : B) → first_in f xs ≡ Some y →
      (x : A) × In x xs × (f x ≡ Some y) × ((z : A) → In z xs → key z < key x → f z ≡ None)
  some_in key n [] rising y h = cc
  some_in key n (z ∷ zs) rising y h =
      elim (or_else_some (f z) (first_in f zs) y h) [
        | inl e ↦ (z, inl refl, e, λ w at lt. absurd (let least = rising_above key (key z) (z ∷ zs) (omega arith, rising.1) w at in omega arith))
        | inr p ↦ (
            let q = some_in key (suc (key z)) zs rising.1 y p.1 in
            (q.0, inr q.1, q.2, λ w at lt. ⊎_elim (λ (e : w ≡ z). rw e p.0) (λ (in-zs : In w zs). q.3 w in-zs lt) at)
            )
      ]

module _ {B : Type 0} (f : ℕ → Option B) where
  pub below_none : (n : ℕ) → ((k : ℕ) → k < n → f k ≡ None) → first_below f n ≡ None
  below_none zero h = refl
  below_none (suc n) h = rw (below_none n (λ k lt. h k (omega arith))) (h n (omega arith))

  -- nothing below, and nothing here
  pub below_more : (i : ℕ) → first_below f i ≡ None → f i ≡ None → first_below f (i + 1) ≡ None
  below_more i below here = rw (add-one, below) here

  -- nothing below, and x here
  pub below_some : (n k : ℕ) (x : B) → first_below f k ≡ None → f k ≡ Some x → k < n → first_below f n ≡ Some x
  below_some zero k x below here lt = absurd (omega arith)
  below_some (suc n) k x below here lt =
      elim (cases_lt k n) [ inl less ↦ rw (below_some n k x below here less) | inr more ↦ let e : n ≡ k = omega arith in rw (e, below) here ]

  pub none_below : (n : ℕ) → first_below f n ≡ None → (k : ℕ) → k < n → f k ≡ None
  none_below zero h k lt = absurd (omega arith)
  none_below (suc n) h k lt =
      let p = or_else_none (first_below f n) (f n) h in
      elim (cases_lt k n) [ inl less ↦ none_below n p.0 k less | inr more ↦ let e : k ≡ n = omega arith in rw e p.1 ]

  pub some_below : (n : ℕ) (x : B) → first_below f n ≡ Some x → (k : ℕ) × (k < n) × (f k ≡ Some x) × (first_below f k ≡ None)
  some_below zero x h = cc
  some_below (suc n) x h =
      elim (or_else_some (first_below f n) (f n) x h) [
        | inl e ↦ (let p = some_below n x e in (p.0, omega arith, p.2, p.3))
        | inr p ↦ (n, omega arith, p.1, p.0)
      ]
