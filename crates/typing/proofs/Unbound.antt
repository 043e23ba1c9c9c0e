-- The slots of a list are bound one after another, each for the first time.
use Rattle.std.proofs.Common.{◌≡◌, ℕ, zero, suc, ◌+◌, ◌≤◌, Bool, true, false, cond, ◌∷◌, is_some, [], Some, None, Option, refl, inl, inr, arith}
use Rattle.std.proofs.lemmas.Bool.{ne_eqb, le-ltb, cases_lt}
use Rattle.mapping.specs.Bindings.{lookup}
use Rattle.syntax.specs.declared.types.ValueType.{ValueType}
use Rattle.tables.specs.Layout.{Content}
use Rattle.typing.specs.Scopes.{Bindings, bind_free, bind_typed, declared, slots_from}

module _ (slot : ℕ) where
  -- a bind of another slot
  bind_other : (other : ℕ) (t : ValueType) (s : Bindings) → (other ≡ slot → ⊥) → lookup slot s ≡ None → lookup slot (bind_free other t s) ≡ None
  bind_other other t s ne none = go (is_some (lookup other s))
    where
      go : (b : Bool) → lookup slot (cond b s (record { slot = other; entry = t } ∷ s)) ≡ None
      go true = none
      go false = rw (ne_eqb other slot ne) none

  typed_other : (other : ℕ) (o : Option ValueType) (s : Bindings) → (other ≡ slot → ⊥) → lookup slot s ≡ None → lookup slot (bind_typed other o s) ≡ None
  typed_other other None s ne none = none
  typed_other other (Some t) s ne none = bind_other other t s ne none

  -- the slots before it
  pub unbound_behind : (offset : ℕ) (types : ℕ → Option ValueType) (n : ℕ) (s : Bindings) → offset + n ≤ slot → lookup slot s ≡ None →
      lookup slot (slots_from offset types n s) ≡ None
  unbound_behind offset types zero s le none = none
  unbound_behind offset types (suc n) s le none =
      typed_other (offset + n) (types n) (slots_from offset types n s) (λ e. omega arith) (unbound_behind offset types n s (omega arith) none)

  -- a field, where the slots of a list are bound: of these there are eight at most
  pub field_unbound : (m : Content) (first count n : ℕ) → 8 ≤ slot → lookup slot (slots_from 0 (declared m first count) n []) ≡ None
  field_unbound m first count zero ge = refl
  field_unbound m first count (suc n) ge =
      let before = field_unbound m first count n ge in
      elim (cases_lt n 8) [
        | inl low ↦ typed_other (0 + n) (declared m first count n) (slots_from 0 (declared m first count) n []) (λ e. omega arith) before
        | inr high ↦ (let none : declared m first count n ≡ None = rw (le-ltb n 8 high) refl in rw none before)
      ]
