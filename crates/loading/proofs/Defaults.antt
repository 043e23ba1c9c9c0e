-- Each type of an accepted model has a default.
use Rattle.std.proofs.Common.{◌≡◌, ℕ, Bool, true, false, eqb, ltb, List, length, take, Some, None, Option, refl, sym, ◌∙◌, inl, inr, arith, eqb-true, ltb-false}
use Rattle.std.proofs.lemmas.Bool.{cases_Bool, lt-ltb, not-false, true≢false}
use Rattle.std.proofs.lemmas.List.Folds.{find_at}
use Rattle.std.proofs.lemmas.Option.{none-some, slice_get_within}
use Rattle.std.specs.List.{find, list_any, position, position_or_len, slice_get}
use Rattle.tables.specs.declared.kinds.TypeKind.{TypeKind}
use Rattle.tables.specs.declared.kinds.TypeKind.TheVariants as kind
use Rattle.tables.specs.declared.place.Table.TheVariants as table
use Rattle.tables.specs.declared.place.TableRule.TheVariants.{Range, Shape}
use Rattle.tables.specs.declared.rows.ConstructorRow.{ConstructorRow}
use Rattle.tables.specs.Kinds.{type_kind}
use Rattle.tables.specs.Layout.{Content}
use Rattle.rules.proofs.Rows.{known, at_kept, find_row, find_some}
use Rattle.range.specs.Range.{type_absent, type_range}
use Rattle.shape.specs.Shape.{constructor_shape}
use Rattle.model.specs.Rules.{NoPlaceBreaks}
use Rattle.syntax.specs.declared.types.ValueType.{ValueType}
use Rattle.syntax.specs.declared.types.ValueType.TheVariants as type
use Rattle.syntax.specs.Types.{type_as, type_at}
use Rattle.syntax.proofs.Parts.{given_parts}
use Rattle.loading.specs.Laws.{HasDefault}

-- the place of what is found
pub position_found : {A : Type 0} (p : A → Bool) (xs : List A) (x : A) → find p xs ≡ Some x → (i : ℕ) × (position p xs ≡ Some i) × (slice_get xs i ≡ Some x)
position_found p xs x e =
    let there : slice_get xs (position_or_len p xs) ≡ Some x = sym (find_at p xs) ∙ e in
    let within = slice_get_within xs (position_or_len p xs) x there in
    (position_or_len p xs, rw (lt-ltb (position_or_len p xs) (length xs) within) refl, there)

module _ (m : Content) (keeps : NoPlaceBreaks m) where
  -- the first constructor of a data takes nothing
  takes_nothing : (i : ℕ) (k : ConstructorRow) → slice_get m.constructors i ≡ Some k → list_any (λ x. eqb x.number k.number) (take i m.constructors) ≡ false → k.count ≡ 0
  takes_nothing i k e first =
      let shape : constructor_shape m i k ≡ false = at_kept m.constructors i (constructor_shape m i) k (keeps Shape table.Constructors i (slice_get_within m.constructors i k e)) e in
      elim (cases_Bool (ltb 0 k.count)) [
        | inl some ↦ absurd (true≢false (sym (rw (some, first) refl) ∙ shape))
        | inr none ↦ (let le = ltb-false 0 k.count none in omega arith)
      ]

  data_default : (d : ℕ) → list_any (λ c. eqb c.number d) m.constructors ≡ true → HasDefault m (type.Data d)
  data_default d e =
      let k = find_some (λ c. eqb c.number d) m.constructors e in
      let first = find_row (λ c. eqb c.number d) m.constructors k.0 k.1 in
      let same : k.0.number ≡ d = eqb-true k.0.number d first.2 in
      let place = position_found (λ c. eqb c.number d) m.constructors k.0 k.1 in
      record {
        row = place.0;
        constructor = k.0;
        first = place.1;
        there = place.2;
        of_data = same;
        takes_nothing = takes_nothing first.0 k.0 first.1 (rw same first.3);
      }

  default_as : (k : Option TypeKind) (ref : ℕ) (t : ValueType) → type_absent m ref k ≡ false → type_as ref k ≡ Some t → HasDefault m t
  default_as None ref t there e = absurd (none-some t e)
  default_as (Some kind.Unit) ref t there e = rw (← known e) tt
  default_as (Some kind.Bool) ref t there e = rw (← known e) tt
  default_as (Some kind.Int) ref t there e = rw (← known e) tt
  default_as (Some kind.Data) ref t there e = rw (← known e) (data_default ref (not-false _ there))
  default_as (Some kind.Interface) ref t there e = rw (← known e) tt
  default_as (Some kind.Future) ref t there e = rw (← known e) tt

  pub defaults : (row : ℕ) (t : ValueType) → type_at m row ≡ Some t → HasDefault m t
  defaults row t e =
      let x = given_parts _ _ t e in
      let there : type_range m x.0 ≡ false = at_kept m.types row (type_range m) x.0 (keeps Range table.Types row (slice_get_within m.types row x.0 x.1)) x.1 in
      default_as (type_kind x.0.kind) x.0.reference t there x.2
