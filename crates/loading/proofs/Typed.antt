-- The functions and the placed statements of an accepted model are typed.
use Rattle.std.proofs.Common.{◌≡◌, ℕ, ◌+◌, ◌<◌, true, false, not, List, [], ◌∷◌, length, get_or, Some, None, refl, inl, inr, arith, ltb-false}
use Rattle.std.proofs.lemmas.Bool.{not-false}
use Rattle.std.proofs.lemmas.Option.{slice_get_within, slice_get_cases}
use Rattle.std.specs.List.{slice_get}
use Rattle.tables.specs.declared.place.Place.{Place}
use Rattle.tables.specs.declared.place.Table.{Table}
use Rattle.tables.specs.declared.place.Table.TheVariants as table
use Rattle.tables.specs.declared.place.TableRule.TheVariants.{Range, Placement}
use Rattle.tables.specs.declared.rows.ClassRow.{ClassRow}
use Rattle.tables.specs.declared.rows.FunctionRow.{FunctionRow}
use Rattle.tables.specs.declared.rows.MethodRow.{MethodRow}
use Rattle.tables.specs.declared.rows.StatementRow.{StatementRow}
use Rattle.tables.specs.Layout.{Content}
use Rattle.tables.proofs.Least.{unbroken}
use Rattle.rules.specs.Faults.{places, class_places}
use Rattle.rules.specs.Words.{past_end}
use Rattle.rules.proofs.Rows.{or_none, at_kept}
use Rattle.range.specs.Range.{method_range, class_range}
use Rattle.placement.specs.Holders.{in_range, has_method, has_statement, method_classes, statement_methods}
use Rattle.placement.specs.Placement.{class_placement, method_placement}
use Rattle.placement.proofs.Owners.{owned, range_parts, whole_extent}
use Rattle.model.specs.Rules.{NoPlaceBreaks}
use Rattle.model.proofs.Kept.{no_verdict}
use Rattle.syntax.proofs.Parts.{agree_parts, passes_parts}
use Rattle.typing.specs.declared.rule.TypingRule.{TypingRule}
use Rattle.typing.specs.declared.rule.TypingRule.TheVariants as typing
use Rattle.typing.specs.ExpressionLaws.{IsFunction, FunctionTyped}
use Rattle.typing.specs.Statements.{goes_on}
use Rattle.typing.specs.Typing.{placed_in, function_typed, statement_typed, untyped_in, typing_number, typing_case, typing_broken, typing_verdict}
use Rattle.typing.proofs.StatementLaws.{inverts_statement}
use Rattle.loading.specs.Laws.{IsClass, IsMethod, IsStatement, StatementTyped}
use Rattle.loading.specs.Types.{keeps_types}
use Rattle.loading.proofs.Judging.{typing_complete, typing_rising}

pub class_asked : (cs : List ClassRow) (i : ℕ) → i < length cs → i < class_places cs
class_asked [] i lt = absurd (omega arith)
class_asked (c ∷ cs) i lt = lt

module _ (m : Content) (keeps : NoPlaceBreaks m) where
  -- what a class's and a method's row say of their ranges
  pub class_kept : (i : ℕ) (c : ClassRow) → slice_get m.classes i ≡ Some c →
      (past_end c.methods_first c.methods_count m.methods ≡ false) × (class_placement (method_classes m) i c ≡ false)
  class_kept i c e =
      let asked = class_asked m.classes i (slice_get_within m.classes i c e) in
      let whole = at_kept m.classes i (class_range m) c (keeps Range table.Classes i asked) e in
      ((or_none _ _ whole).1, at_kept m.classes i (class_placement (method_classes m) i) c (keeps Placement table.Classes i asked) e)

  method_kept : (j : ℕ) (x : MethodRow) → slice_get m.methods j ≡ Some x →
      (past_end x.statements_first x.statements_count m.statements ≡ false) × (method_placement (statement_methods m) j x ≡ false)
  method_kept j x e =
      let asked = slice_get_within m.methods j x e in
      let whole = at_kept m.methods j (method_range m) x (keeps Range table.Methods j asked) e in
      ((or_none _ _ whole).1, at_kept m.methods j (method_placement (statement_methods m) j) x (keeps Placement table.Methods j asked) e)

  -- the class that holds a method of a class, and the method that holds a statement of a method
  pub class_held : (i j : ℕ) (c : ClassRow) (x : MethodRow) → slice_get m.classes i ≡ Some c → slice_get m.methods j ≡ Some x →
      in_range j c.methods_first c.methods_count ≡ true → (p : Place) × (get_or (method_classes m) j None ≡ Some p) × (p.row ≡ i)
  unfolding method_classes
  class_held i j c x class method inside =
      let r = class_kept i c class in
      owned m.methods m.classes (has_method (length m.methods)) table.Classes j x i c c.methods_first c.methods_count
      method class (rw (whole_extent c.methods_first c.methods_count m.methods r.0) inside) inside r.1

  method_held : (j k : ℕ) (x : MethodRow) (y : StatementRow) → slice_get m.methods j ≡ Some x → slice_get m.statements k ≡ Some y →
      goes_on x k ≡ true → (p : Place) × (get_or (statement_methods m) k None ≡ Some p) × (p.row ≡ j)
  unfolding statement_methods
  method_held j k x y method statement within =
      let r = method_kept j x method in
      owned m.statements m.methods (has_statement (length m.statements)) table.Methods k y j x x.statements_first x.statements_count
      statement method (rw (whole_extent x.statements_first x.statements_count m.statements r.0) within) within r.1

  -- a statement of a method of a class is placed there
  placed : (i j k : ℕ) (c : ClassRow) (x : MethodRow) (y : StatementRow) → slice_get m.classes i ≡ Some c → slice_get m.methods j ≡ Some x →
      in_range j c.methods_first c.methods_count ≡ true → slice_get m.statements k ≡ Some y → goes_on x k ≡ true →
      placed_in m (statement_methods m) (method_classes m) k ≡ Some (record { class = c; method = x })
  placed i j k c x y class method inside statement within =
      let p = method_held j k x y method statement within in
      let q = class_held i j c x class method inside in
      rw (p.1, p.2, method, q.1, q.2, class) refl

  pub statement_row : (x : MethodRow) (j k : ℕ) → slice_get m.methods j ≡ Some x → goes_on x k ≡ true →
      (y : StatementRow) × (slice_get m.statements k ≡ Some y)
  statement_row x j k e within =
      let r = method_kept j x e in
      let p = range_parts k x.statements_first x.statements_count within in
      let there = ltb-false (length m.statements) (x.statements_first + x.statements_count) r.0 in
      elim (slice_get_cases m.statements k).1 [
        | inl row ↦ (row.0, row.2)
        | inr past ↦ absurd (omega arith)
      ]

  module _ (types : keeps_types m ≡ true) where
    no_fault : typing_verdict m ≡ None
    unfolding keeps_types
    no_fault = no_verdict (typing_verdict m) types

    typed : (rule : TypingRule) (t : Table) (r : ℕ) → r < places m t → typing_broken m rule t r ≡ false
    unfolding typing_verdict
    typed = unbroken typing_number (typing_case m) (typing_complete m) typing_rising no_fault

    pub functions : (f : FunctionRow) → IsFunction m f → FunctionTyped m f
    functions f is =
        let broken = at_kept m.functions is.0 (λ f. not (function_typed m f)) f (typed typing.Function table.Functions is.0 (slice_get_within m.functions is.0 f is.1)) is.1 in
        let p = agree_parts _ _ (not-false _ broken) in
        (p.0, p.2, p.1)

    pub statements : (c : ClassRow) (x : MethodRow) (y : StatementRow) → IsClass m c → IsMethod m c x → IsStatement m x y → StatementTyped m c x y
    statements c x y class method statement =
        let k = statement.0 in
        let asked = slice_get_within m.statements k y statement.1 in
        let broken = at_kept m.statements k (untyped_in m (statement_methods m) (method_classes m) k) y (typed typing.Statement table.Statements k asked) statement.1 in
        let there = placed class.0 method.0 k c x y class.1 method.1 method.2 statement.1 statement.2 in
        let keeps : statement_typed m c x y ≡ true = not-false _ (rw there at broken) in
        let p = passes_parts _ _ keeps in
        (p.0, p.1, inverts_statement m c x _ p.0 p.2)
