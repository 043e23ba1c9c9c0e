-- A scope in which each slot is bound once at most has memory for one binding more wherever a slot is free.
use Rattle.std.proofs.Common.{◌≡◌, ℕ, zero, suc, ◌+◌, ◌-◌, ◌<◌, ◌≤◌, Bool, true, false, cond, ◌&&◌, ltb, leb, List, [], ◌∷◌, length, drop, is_some, sym, refl, ◌∙◌, inl, inr, arith, ltb-true, leb-true}
use Rattle.std.proofs.lemmas.Bool.{eq-eqb, ne_eqb, lt-ltb, le-ltb, cases_eq, cases_lt}
use Rattle.mapping.specs.declared.mapping.Binding.{Binding}
use Rattle.mapping.specs.Bindings.{lookup}
use Rattle.syntax.specs.declared.types.ValueType.{ValueType}
use Rattle.typing.specs.Room.{is_slot, slot_of, free}

-- the sixteen slots are apart
local_slot : (i : ℕ) → i < 8 → slot_of i ≡ i
local_slot i lt = rw (lt-ltb i 8 lt)

field_slot : (i : ℕ) → 8 ≤ i → slot_of i ≡ i + 120
field_slot i ge = rw (le-ltb i 8 ge)

apart : (i j : ℕ) → i < j → j < 16 → slot_of i ≡ slot_of j → ⊥
apart i j lt top e = elim (cases_lt i 8) [
  | inl low ↦ elim (cases_lt j 8) [
    | inl low' ↦ (let a = local_slot i low in let b = local_slot j low' in omega arith)
    | inr high' ↦ (let a = local_slot i low in let b = field_slot j high' in omega arith)
  ]
  | inr high ↦ (let a = field_slot i high in let b = field_slot j (omega arith) in omega arith)
]

-- a slot by its place among the sixteen
place_of : (slot : ℕ) → is_slot slot ≡ true → (i : ℕ) × ((slot ≡ slot_of i) × (i < 16))
place_of slot e = go (ltb slot 8) refl
  where
    high : (b c : Bool) → leb 128 slot ≡ b → ltb slot 136 ≡ c → b && c ≡ true → (i : ℕ) × ((slot ≡ slot_of i) × (i < 16))
    high true true low top h =
        let l = leb-true 128 slot low in
        let t = ltb-true slot 136 top in
        let f = field_slot (slot - 120) (omega arith) in
        (slot - 120, (omega arith, omega arith))
    high true false low top h = cc
    high false c low top h = cc

    go : (b : Bool) → ltb slot 8 ≡ b → (i : ℕ) × ((slot ≡ slot_of i) × (i < 16))
    go true low = let l = ltb-true slot 8 low in let f = local_slot slot l in (slot, (sym f, omega arith))
    go false low = high (leb 128 slot) (ltb slot 136) refl refl (rw low at e)

-- how much a slot counts, by its place
counts : {E : Type 0} → ℕ → List (Binding E) → ℕ
counts n s = cond (is_some (lookup (slot_of n) s)) 0 1

at_most_one : {E : Type 0} (n : ℕ) (s : List (Binding E)) → counts n s ≤ 1
unfolding counts
at_most_one n s = go (is_some (lookup (slot_of n) s))
  where
    go : (b : Bool) → cond b 0 1 ≤ 1
    go true = omega arith
    go false = omega arith

free_zero : {E : Type 0} (s : List (Binding E)) → free 0 s ≡ 0
unfolding free
free_zero s = refl

free_suc : {E : Type 0} (n : ℕ) (s : List (Binding E)) → free (suc n) s ≡ counts n s + free n s
unfolding counts free
free_suc n s = refl

-- nothing is bound
pub free_all : (n : ℕ) → free {E = ValueType} n [] ≡ n
unfolding counts
free_all zero = free_zero {E = ValueType} []
free_all (suc n) = let h = free_all n in let f = free_suc {E = ValueType} n [] in omega arith

-- no more slots are free than there are
pub free_most : {E : Type 0} (n : ℕ) (s : List (Binding E)) → free n s ≤ n
free_most zero s = let z = free_zero s in omega arith
free_most (suc n) s =
    let h = free_most n s in
    let u = at_most_one n s in
    let f = free_suc n s in
    omega arith

module _ {E : Type 0} (b : Binding E) (s : List (Binding E)) where
  -- a binding of another slot changes nothing
  other : (n : ℕ) → (b.slot ≡ slot_of n → ⊥) → counts n (b ∷ s) ≡ counts n s
  unfolding counts
  other n ne = rw (ne_eqb b.slot (slot_of n) ne)

  own : (n : ℕ) → b.slot ≡ slot_of n → counts n (b ∷ s) ≡ 0
  unfolding counts
  own n e = rw (eq-eqb b.slot (slot_of n) e)

  unbound : (n : ℕ) → b.slot ≡ slot_of n → is_some (lookup b.slot s) ≡ false → counts n s ≡ 1
  unfolding counts
  unbound n e none = rw (← e, none)

  free_apart : (n : ℕ) → ((i : ℕ) → i < n → b.slot ≡ slot_of i → ⊥) → free n (b ∷ s) ≡ free n s
  free_apart zero ne = free_zero (b ∷ s) ∙ sym (free_zero s)
  free_apart (suc n) ne =
      let h = free_apart n (λ i lt. ne i (omega arith)) in
      let o = other n (ne n (omega arith)) in
      let f = free_suc n (b ∷ s) in
      let g = free_suc n s in
      omega arith

  below_own : (n : ℕ) → n < 16 → b.slot ≡ slot_of n → free n (b ∷ s) ≡ free n s
  below_own n top e = free_apart n (λ i lt same. apart i n lt top (sym same ∙ e))

  -- a binding of a free slot takes one away
  free_bound : (j n : ℕ) → b.slot ≡ slot_of j → j < n → n ≤ 16 → is_some (lookup b.slot s) ≡ false → free n s ≡ suc (free n (b ∷ s))
  free_bound j zero e lt top none = absurd (omega arith)
  free_bound j (suc n) e lt top none = elim (cases_eq j n) [
    | inl same ↦ (
        let at : b.slot ≡ slot_of n = rw (← same) e in
        let u = unbound n at none in
        let a = below_own n (omega arith) at in
        let o = own n at in
        let f = free_suc n (b ∷ s) in
        let g = free_suc n s in
        omega arith)
    | inr ne ↦ (
        let h = free_bound j n e (omega arith) (omega arith) none in
        let o = other n (λ same. apart j n (omega arith) (omega arith) (sym e ∙ same)) in
        let f = free_suc n (b ∷ s) in
        let g = free_suc n s in
        omega arith)
  ]

  -- without a binding at most one slot more is free
  free_without : (n : ℕ) → n ≤ 16 → free n s ≤ suc (free n (b ∷ s))
  free_without zero top = let z = free_zero s in omega arith
  free_without (suc n) top = elim (cases_eq b.slot (slot_of n)) [
    | inl same ↦ (
        let u = at_most_one n s in
        let a = below_own n (omega arith) same in
        let f = free_suc n (b ∷ s) in
        let g = free_suc n s in
        omega arith)
    | inr ne ↦ (
        let h = free_without n (omega arith) in
        let o = other n ne in
        let f = free_suc n (b ∷ s) in
        let g = free_suc n s in
        omega arith)
  ]

  -- a local that is bound for the first time
  pub local_bound : b.slot < 8 → is_some (lookup b.slot s) ≡ false → free 8 s ≡ suc (free 8 (b ∷ s))
  local_bound low none = free_bound b.slot 8 (sym (local_slot b.slot low)) low (omega arith) none

  -- each slot is bound once at most: after a bind, and in what was there before
  pub once_bound : is_slot b.slot ≡ true → is_some (lookup b.slot s) ≡ false → length s + free 16 s ≤ 16 → length (b ∷ s) + free 16 (b ∷ s) ≤ 16
  once_bound slot none once =
      let p = place_of b.slot slot in
      let h = free_bound p.0 16 p.1.0 p.1.1 (omega arith) none in
      omega arith

  once_before : length (b ∷ s) + free 16 (b ∷ s) ≤ 16 → length s + free 16 s ≤ 16
  once_before once = let h = free_without 16 (omega arith) in omega arith

pub once_cut : {E : Type 0} (k : ℕ) (s : List (Binding E)) → length s + free 16 s ≤ 16 → length (drop k s) + free 16 (drop k s) ≤ 16
once_cut zero s once = once
once_cut (suc k) [] once = once
once_cut (suc k) (b ∷ s) once = once_cut k s (once_before b s once)

-- a bind of a free slot, for which there is always memory
pub bind_free_lem : {E : Type 0} (slot : ℕ) (t : E) (s s' : List (Binding E)) (done : Bool) (memory : ℕ) → is_slot slot ≡ true → is_some (lookup slot s) ≡ false →
    length s + free 16 s ≤ 16 → 16 ≤ memory → done ≡ ltb (length s) memory →
    s' ≡ cond done (record { slot = slot; entry = t } ∷ s) s → s' ≡ record { slot = slot; entry = t } ∷ s
bind_free_lem slot t s s' done memory at none once enough full e =
    let room = once_bound (record { slot = slot; entry = t }) s at none once in
    let made : done ≡ true = full ∙ lt-ltb (length s) memory (omega arith) in
    rw made at e
