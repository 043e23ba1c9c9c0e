-- Values for the first slots of a range and defaults for the others have the types that the slots are declared with.
use Rattle.std.proofs.Common.{◌≡◌, ℕ, zero, suc, ◌+◌, ◌-◌, ◌<◌, ◌&&◌, ◌⊎◌, List, [], ◌∷◌, map, take, drop, Some, None, Option, refl, sym, ap, subst, ◌∙◌, inl, inr, arith}
use Rattle.std.specs.Prelude.{nat_lt}
use Rattle.std.specs.List.{slice_get}
use Rattle.std.specs.Option.{option_map}
use Rattle.std.proofs.lemmas.Bool.{and_parts, ltb-true}
use Rattle.std.proofs.lemmas.Option.{none-some, slice_get-map}
use Rattle.tables.specs.declared.rows.ListRow.{ListRow}
use Rattle.tables.specs.Layout.{Content}
use Rattle.rules.specs.Words.{part}
use Rattle.rules.proofs.Rows.{known, part_row, row_of_part}
use Rattle.syntax.specs.declared.types.ValueType.{ValueType}
use Rattle.syntax.specs.declared.types.ValueType.TheVariants as type
use Rattle.syntax.specs.Rows.{given}
use Rattle.syntax.specs.Types.{type_at}
use Rattle.syntax.proofs.Parts.{given_parts, when_parts}
use Rattle.typing.specs.ExpressionLaws.{ArgumentsFit}
use Rattle.typing.specs.Patterns.{parameters_of}
use Rattle.typing.specs.Scopes.{declared, entry_type}
use Rattle.loading.specs.Laws.{HasDefault}
use Rattle.evaluation.specs.declared.value.Value.{Value}
use Rattle.evaluation.specs.Typed.{Referents, Has}
use Rattle.evaluation.specs.Values.{Data}
use Rattle.evaluation.proofs.TypedArguments.{parameter_at}
use Rattle.steps.specs.Defaults.{default_of, known_default, with_defaults}
use Rattle.steps_typed.proofs.Typings.{RangeTyped}

module _ (m : Content) where
  -- the default of the type of an entry
  abbrev default_of_entry : ListRow → Value
  default_of_entry x = known_default m (entry_type m x)

module _ (m : Content) (defaults : (row : ℕ) (t : ValueType) → type_at m row ≡ Some t → HasDefault m t) where
  -- the default of a type is a value of it
  pub default_has : (refs : Referents) (cells : List Data) (t : ValueType) → HasDefault m t → Has m refs cells (default_of m t) t
  default_has refs cells type.Unit h = refl
  default_has refs cells type.Bool h = refl
  default_has refs cells type.Int h = refl
  default_has refs cells (type.Data d) h =
      let none : parameters_of m h.constructor ≡ [] = ap (λ (n : ℕ). take n (drop h.constructor.first m.lists)) h.takes_nothing in
      rw h.first (h.constructor, h.there, none, ap (λ (n : ℕ). type.Data n) (sym h.of_data))
  default_has refs cells (type.Interface i) h = refl
  default_has refs cells (type.Future r) h = refl

  entry_has : (refs : Referents) (cells : List Data) (x : ListRow) (t : ValueType) → entry_type m x ≡ Some t → Has m refs cells (default_of_entry m x) t
  entry_has refs cells x t e = rw e (default_has refs cells t (defaults x.entry t e))

  -- a slot has a value of the list, or else the default of its type
  with_defaults_row : (vs : List Value) (xs : List ListRow) (i : ℕ) (x : ListRow) → slice_get xs i ≡ Some x →
      ((v : Value) × (slice_get vs i ≡ Some v) × (slice_get (with_defaults m vs xs) i ≡ Some v)) ⊎ (slice_get (with_defaults m vs xs) i ≡ Some (default_of_entry m x))
  with_defaults_row [] xs i x e = inr (slice_get-map (default_of_entry m) xs i ∙ ap (option_map (default_of_entry m)) e)
  with_defaults_row (v ∷ vs) [] i x e = absurd (none-some x e)
  with_defaults_row (v ∷ vs) (y ∷ xs) zero x e = inl (v, refl, refl)
  with_defaults_row (v ∷ vs) (y ∷ xs) (suc i) x e = with_defaults_row vs xs i x e

  -- Arguments for parameters whose types are those of the first slots.
  pub with_defaults_typed : (refs : Referents) (cells : List Data) (vs : List Value) (first count parameters : ℕ) (xs : List ListRow) →
      ArgumentsFit m (Has m refs cells) vs xs → map (entry_type m) xs ≡ map (entry_type m) (part first parameters m.lists) →
      RangeTyped m refs cells (with_defaults m vs (part first count m.lists)) first count
  with_defaults_typed refs cells vs first count parameters xs fit same = record { each = each }
    where
      each : (i : ℕ) (t : ValueType) → declared m first count i ≡ Some t →
          (v : Value) × (slice_get (with_defaults m vs (part first count m.lists)) i ≡ Some v) × Has m refs cells v t
      each i t e =
          let p = when_parts (nat_lt i 8 && nat_lt i count) (given (slice_get m.lists (first + i)) (entry_type m)) t e in
          let x = given_parts (slice_get m.lists (first + i)) (entry_type m) t p.1 in
          let lt : i < count = ltb-true i count (and_parts (nat_lt i 8) (nat_lt i count) p.0).1 in
          let back : first + i - first ≡ i = omega arith in
          let row : slice_get (part first count m.lists) i ≡ Some x.0 =
          rw back at (part_row m.lists first count (first + i) (omega arith) (omega arith) ∙ x.1) in
          elim (with_defaults_row vs (part first count m.lists) i x.0 row) [
            | inl v ↦ (
                let q = parameter_at m (Has m refs cells) vs xs fit i v.0 v.1 in
                let types : option_map (entry_type m) (slice_get (part first parameters m.lists) i) ≡ Some (Some q.1) =
                sym (slice_get-map (entry_type m) (part first parameters m.lists) i) ∙ ap (λ (ts : List (Option ValueType)). slice_get ts i) (sym same)
                ∙ slice_get-map (entry_type m) xs i ∙ ap (option_map (entry_type m)) q.2 ∙ ap (λ (o : Option ValueType). Some o) q.3 in
                (v.0, v.2, own v.0 q.1 types q.4 x.0 x.1 x.2)
                )
            | inr d ↦ (default_of_entry m x.0, d, entry_has refs cells x.0 t x.2)
          ]
        where
          own : (v : Value) (u : ValueType) → option_map (entry_type m) (slice_get (part first parameters m.lists) i) ≡ Some (Some u) → Has m refs cells v u →
              (x : ListRow) → slice_get m.lists (first + i) ≡ Some x → entry_type m x ≡ Some t → Has m refs cells v t
          own v u types has x there type = go (slice_get (part first parameters m.lists) i) refl
            where
              go : (o : Option ListRow) → slice_get (part first parameters m.lists) i ≡ o → Has m refs cells v t
              go None none = let lost : None ≡ Some (Some u) = sym (ap (option_map (entry_type m)) none) ∙ types in absurd (none-some (Some u) lost)
              go (Some y) found =
                  let r = row_of_part m.lists first parameters i y found in
                  let same : y ≡ x = known (sym r.1 ∙ there) in
                  let type_y : entry_type m y ≡ Some u = known (sym (ap (option_map (entry_type m)) found) ∙ types) in
                  let at : u ≡ t = known (sym type_y ∙ ap (entry_type m) same ∙ type) in
                  subst (Has m refs cells v) at has
