-- Arguments keep types: bound to a function's first slots, they are of the types of its parameters.
use Rattle.std.proofs.Common.{◌≡◌, ℕ, zero, suc, ◌+◌, ◌-◌, ◌<◌, Bool, true, false, cond, ◌&&◌, ◌⊎◌, List, [], ◌∷◌, Some, None, Option, refl, sym, ap, ◌∙◌, inl, inr, arith}
use Rattle.std.specs.Prelude.{◌==◌, nat_lt, is_some}
use Rattle.std.specs.List.{slice_get}
use Rattle.std.proofs.lemmas.Bool.{eq-eqb, eqb-true, ne_eqb}
use Rattle.std.proofs.lemmas.Option.{none-some}
use Rattle.tables.specs.declared.rows.FunctionRow.{FunctionRow}
use Rattle.tables.specs.declared.rows.ListRow.{ListRow}
use Rattle.tables.specs.Layout.{Content}
use Rattle.mapping.specs.Bindings.{lookup}
use Rattle.rules.proofs.Rows.{known, part_row, row_of_part}
use Rattle.syntax.specs.declared.types.ValueType.{ValueType}
use Rattle.syntax.specs.Rows.{given}
use Rattle.syntax.proofs.Parts.{when_parts, given_parts}
use Rattle.typing.specs.declared.within.Within.TheVariants as within
use Rattle.typing.specs.ExpressionLaws.{ArgumentsFit}
use Rattle.typing.specs.Expressions.{function_parameters}
use Rattle.typing.specs.Scopes.{Bindings, entry_type, declared, bind_typed, slots_from, function_scope}
use Rattle.evaluation.specs.declared.value.Value.{Value}
use Rattle.evaluation.specs.Plans.{Environment}
use Rattle.evaluation.specs.Rules.{bound_from}
use Rattle.evaluation.specs.Typed.{Referents, Has, SlotsTyped}
use Rattle.evaluation.specs.Values.{Data}

-- a slot below those that are bound, and one of those
pub bound_below : (k : ℕ) (vs : List Value) (s : Environment) (slot : ℕ) → slot < k → lookup slot (bound_from k vs s) ≡ lookup slot s
bound_below k [] s slot lt = refl
bound_below k (v ∷ vs) s slot lt =
    bound_below (k + 1) vs (record { slot = k; entry = v } ∷ s) slot (omega arith) ∙ rw (ne_eqb k slot (λ e. omega arith)) refl

pub bound_at : (k : ℕ) (vs : List Value) (s : Environment) (i slot : ℕ) (v : Value) → slot ≡ k + i → slice_get vs i ≡ Some v → lookup slot (bound_from k vs s) ≡ Some v
bound_at k [] s i slot v at e = absurd (none-some v e)
bound_at k (x ∷ vs) s zero slot v at e =
    bound_below (k + 1) vs (record { slot = k; entry = x } ∷ s) slot (omega arith) ∙ rw (eq-eqb k slot (omega arith)) e
bound_at k (x ∷ vs) s (suc i) slot v at e = bound_at (k + 1) vs (record { slot = k; entry = x } ∷ s) i slot v (omega arith) e

-- a slot that is bound is bound to an argument, or was bound before
bound_by : (k : ℕ) (vs : List Value) (s : Environment) (slot : ℕ) (v : Value) → lookup slot (bound_from k vs s) ≡ Some v →
    ((i : ℕ) × (slot ≡ k + i) × (slice_get vs i ≡ Some v)) ⊎ (lookup slot s ≡ Some v)
bound_by k [] s slot v found = inr found
bound_by k (x ∷ vs) s slot v found = elim (bound_by (k + 1) vs (record { slot = k; entry = x } ∷ s) slot v found) [
  | inl p ↦ inl (suc p.0, omega (arith, p.1), p.2)
  | inr older ↦ go (k == slot) refl older
]
  where
    go : (hit : Bool) → (k == slot) ≡ hit → lookup slot (record { slot = k; entry = x } ∷ s) ≡ Some v →
        ((i : ℕ) × (slot ≡ k + i) × (slice_get (x ∷ vs) i ≡ Some v)) ⊎ (lookup slot s ≡ Some v)
    go true hit e = let at = eqb-true k slot hit in inl (0, omega (arith, at), rw hit at e)
    go false miss e = inr (rw miss at e)

-- a slot that is bound in a scope of the first slots is one of them, and has its type
pub bind_parts : (n : ℕ) (o : Option ValueType) (s : Bindings) (slot : ℕ) (t : ValueType) → lookup slot (bind_typed n o s) ≡ Some t →
    ((slot ≡ n) × (o ≡ Some t)) ⊎ (lookup slot s ≡ Some t)
bind_parts n None s slot t e = inr e
bind_parts n (Some u) s slot t e = go (is_some (lookup n s)) e
  where
    newest : (hit : Bool) → (n == slot) ≡ hit → lookup slot (record { slot = n; entry = u } ∷ s) ≡ Some t → ((slot ≡ n) × (Some u ≡ Some t)) ⊎ (lookup slot s ≡ Some t)
    newest true hit e = inl (sym (eqb-true n slot hit), rw hit at e)
    newest false miss e = inr (rw miss at e)

    go : (seen : Bool) → lookup slot (cond seen s (record { slot = n; entry = u } ∷ s)) ≡ Some t → ((slot ≡ n) × (Some u ≡ Some t)) ⊎ (lookup slot s ≡ Some t)
    go true e = inr e
    go false e = newest (n == slot) refl e

scope_parts : (types : ℕ → Option ValueType) (n slot : ℕ) (t : ValueType) → lookup slot (slots_from 0 types n []) ≡ Some t → (slot < n) × (types slot ≡ Some t)
scope_parts types zero slot t e = absurd (none-some t e)
scope_parts types (suc n) slot t e = elim (bind_parts (0 + n) (types n) (slots_from 0 types n []) slot t e) [
  | inl p ↦ (let at : n ≡ slot = omega (arith, p.0) in (omega arith, rw at at p.1))
  | inr older ↦ (let p = scope_parts types n slot t older in let lt = p.0 in (omega arith, p.1))
]

-- a slot of a list, by the entry that declares it
declared_by : (m : Content) (first count slot : ℕ) (t : ValueType) → declared m first count slot ≡ Some t →
    (x : ListRow) × (slice_get m.lists (first + slot) ≡ Some x) × (entry_type m x ≡ Some t)
declared_by m first count slot t e =
    let o : Option ValueType = given (slice_get m.lists (first + slot)) (entry_type m) in
    given_parts (slice_get m.lists (first + slot)) (entry_type m) t (when_parts (nat_lt slot 8 && nat_lt slot count) o t e).1

-- the argument for a parameter, and the parameter for an argument
module _ (m : Content) {A : Type 0} (has : A → ValueType → Type 0) where
  argument_at : (rest : List A) (xs : List ListRow) → ArgumentsFit m has rest xs → (i : ℕ) (x : ListRow) (t : ValueType) → slice_get xs i ≡ Some x →
      entry_type m x ≡ Some t → (a : A) × (slice_get rest i ≡ Some a) × has a t
  argument_at [] [] fit i x t e typed = absurd (none-some x e)
  argument_at [] (y ∷ xs) fit i x t e typed = absurd fit
  argument_at (a ∷ rest) [] fit i x t e typed = absurd fit
  argument_at (a ∷ rest) (y ∷ xs) fit zero x t e typed =
      let same : y ≡ x = known e in
      let type : fit.0.0 ≡ t = known (sym fit.0.1 ∙ rw same typed) in
      (a, refl, rw type at fit.0.2)
  argument_at (a ∷ rest) (y ∷ xs) fit (suc i) x t e typed = argument_at rest xs fit.1 i x t e typed

  pub parameter_at : (rest : List A) (xs : List ListRow) → ArgumentsFit m has rest xs → (i : ℕ) (a : A) → slice_get rest i ≡ Some a →
      (x : ListRow) × (t : ValueType) × (slice_get xs i ≡ Some x) × (entry_type m x ≡ Some t) × has a t
  parameter_at [] xs fit i a e = absurd (none-some a e)
  parameter_at (b ∷ rest) [] fit i a e = absurd fit
  parameter_at (b ∷ rest) (y ∷ xs) fit zero a e = let same : b ≡ a = known e in (y, fit.0.0, refl, fit.0.1, rw same at fit.0.2)
  parameter_at (b ∷ rest) (y ∷ xs) fit (suc i) a e = parameter_at rest xs fit.1 i a e

-- The slots of a function's body.
pub arguments_bound : (m : Content) (refs : Referents) (g : FunctionRow) (cells : List Data) (vs : List Value) →
    ArgumentsFit m (Has m refs cells) vs (function_parameters m g) → SlotsTyped m refs (within.Function g) cells (bound_from 0 vs []) (function_scope m g)
arguments_bound m refs g cells vs fit = record { bound = bound; declared = declares }
  where
    bound : (slot : ℕ) (t : ValueType) → lookup slot (function_scope m g) ≡ Some t → (v : Value) × (lookup slot (bound_from 0 vs []) ≡ Some v) × Has m refs cells v t
    bound slot t e =
        let p = scope_parts (declared m g.slots_first g.slots) g.parameters slot t e in
        let q = declared_by m g.slots_first g.slots slot t p.1 in
        let at : g.slots_first + slot - g.slots_first ≡ slot = omega arith in
        let low = p.0 in
        let row = part_row m.lists g.slots_first g.parameters (g.slots_first + slot) (omega arith) (omega arith) ∙ q.1 in
        let a = argument_at m (Has m refs cells) vs (function_parameters m g) fit slot q.0 t (rw at at row) q.2 in
        (a.0, bound_at 0 vs [] slot slot a.0 (omega arith) a.1, a.2)

    declares : (f : FunctionRow) → within.Function g ≡ within.Function f → (slot : ℕ) (v : Value) (t : ValueType) → lookup slot (bound_from 0 vs []) ≡ Some v →
        declared m f.slots_first f.slots slot ≡ Some t → Has m refs cells v t
    declares f is slot v t e e' = elim (bound_by 0 vs [] slot v e) [
      | inl p ↦ (
          let own : g ≡ f = cc in
          let first : g.slots_first ≡ f.slots_first = ap (λ (h : FunctionRow). h.slots_first) own in
          let at : f.slots_first + slot ≡ g.slots_first + p.0 = omega (arith, p.1) in
          let q = parameter_at m (Has m refs cells) vs (function_parameters m g) fit p.0 v p.2 in
          let r = row_of_part m.lists g.slots_first g.parameters p.0 q.0 q.2 in
          let x = declared_by m f.slots_first f.slots slot t e' in
          let row : slice_get m.lists (f.slots_first + slot) ≡ Some q.0 = ap (slice_get m.lists) at ∙ r.1 in
          let same : q.0 ≡ x.0 = known (sym row ∙ x.1) in
          let type : q.1 ≡ t = known (sym q.3 ∙ rw same x.2) in
          rw type at q.4
          )
      | inr none ↦ absurd (none-some v none)
    ]
