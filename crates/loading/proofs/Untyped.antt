-- A model with a typing fault is not well typed.
use Rattle.std.proofs.Common.{◌≡◌, ℕ, Bool, true, false, not, eqb, length, get_or, Some, None, refl, sym, ap, ◌∙◌, inl, inr}
use Rattle.std.proofs.lemmas.Bool.{cases_Bool, not-true, false≢true, true≢false}
use Rattle.std.specs.List.{slice_get}
use Rattle.tables.specs.declared.place.Fault.{Fault}
use Rattle.tables.specs.declared.place.Place.{Place}
use Rattle.tables.specs.declared.place.Table.{Table}
use Rattle.tables.specs.declared.place.Table.TheVariants as table
use Rattle.tables.specs.declared.rows.ClassRow.{ClassRow}
use Rattle.tables.specs.declared.rows.MethodRow.{MethodRow}
use Rattle.tables.specs.declared.rows.StatementRow.{StatementRow}
use Rattle.tables.specs.Layout.{Content}
use Rattle.tables.specs.Places.{table_number}
use Rattle.rules.specs.Words.{at}
use Rattle.rules.proofs.Rows.{known}
use Rattle.placement.specs.Holders.{Holders, in_range, has_method, has_statement, method_classes, statement_methods}
use Rattle.placement.proofs.Owners.{owner, in_extent}
use Rattle.syntax.proofs.Parts.{given_parts, passes_parts, agreed}
use Rattle.typing.specs.declared.judge.Placed.{Placed}
use Rattle.typing.specs.declared.rule.TypingRule.{TypingRule}
use Rattle.typing.specs.declared.rule.TypingRule.TheVariants as typing
use Rattle.typing.specs.Statements.{goes_on}
use Rattle.typing.specs.Typing.{only_in, placed_in, function_typed, statement_typed, untyped_in, typing_broken, typing_verdict}
use Rattle.typing.proofs.StatementLaws.{keeps_by}
use Rattle.loading.specs.Laws.{IsClass, IsMethod, IsStatement, StatementTyped, WellTyped}
use Rattle.loading.proofs.Judging.{typing_judged}

module _ (m : Content) where
  -- a placed statement's method and class, by their holders
  placed_parts : (methods classes : Holders) (k : ℕ) (p : Placed) → placed_in m methods classes k ≡ Some p →
      (h : Place) × (o : Place) × (get_or methods k None ≡ Some h) × (slice_get m.methods h.row ≡ Some p.method)
      × (get_or classes h.row None ≡ Some o) × (slice_get m.classes o.row ≡ Some p.class)
  placed_parts methods classes k p e =
      let holder = given_parts (get_or methods k None) _ p e in
      let method = given_parts (slice_get m.methods holder.0.row) _ p holder.2 in
      let owning = given_parts (get_or classes holder.0.row None) _ p method.2 in
      let class = given_parts (slice_get m.classes owning.0.row) _ p owning.2 in
      let same : ◌≡◌ {A = Placed} (record { class = class.0; method = method.0 }) p = known class.2 in
      (holder.0, owning.0, holder.1, method.1 ∙ ap (λ (q : Placed). Some q.method) same, owning.1, class.1 ∙ ap (λ (q : Placed). Some q.class) same)

  -- a holder's range has what it holds
  in_method : (k : ℕ) (y : StatementRow) (h : Place) (x : MethodRow) → slice_get m.statements k ≡ Some y → get_or (statement_methods m) k None ≡ Some h →
      slice_get m.methods h.row ≡ Some x → goes_on x k ≡ true
  unfolding statement_methods
  in_method k y h x row held method =
      let o = owner m.statements m.methods (has_statement (length m.statements)) table.Methods k y h row held in
      let same : o.0 ≡ x = known (sym o.1 ∙ method) in
      rw same at (in_extent k o.0.statements_first o.0.statements_count (length m.statements) o.2)

  in_class : (j : ℕ) (x : MethodRow) (h : Place) (c : ClassRow) → slice_get m.methods j ≡ Some x → get_or (method_classes m) j None ≡ Some h →
      slice_get m.classes h.row ≡ Some c → in_range j c.methods_first c.methods_count ≡ true
  unfolding method_classes
  in_class j x h c row held class =
      let o = owner m.methods m.classes (has_method (length m.methods)) table.Classes j x h row held in
      let same : o.0 ≡ c = known (sym o.1 ∙ class) in
      rw same at (in_extent j o.0.methods_first o.0.methods_count (length m.methods) o.2)

  stands : (k : ℕ) (y : StatementRow) (p : Placed) → slice_get m.statements k ≡ Some y → placed_in m (statement_methods m) (method_classes m) k ≡ Some p →
      IsClass m p.class × IsMethod m p.class p.method × IsStatement m p.method y
  stands k y p row e =
      let q = placed_parts (statement_methods m) (method_classes m) k p e in
      ((q.1.row, q.5), (q.0.row, q.3, in_class q.0.row p.method q.1 p.class q.3 q.4 q.5), (k, row, in_method k y q.0 p.method row q.2 q.3))

  function_broken : (k : ℕ) → at m.functions k (λ f. not (function_typed m f)) ≡ true → WellTyped m → ⊥
  function_broken k broken well =
      let f = passes_parts (slice_get m.functions k) (λ f. not (function_typed m f)) broken in
      let t = well.functions f.0 (k, f.1) in
      true≢false (sym (agreed _ _ t.0 t.2 t.1) ∙ not-true _ f.2)

  statement_kept : (c : ClassRow) (x : MethodRow) (y : StatementRow) → StatementTyped m c x y → statement_typed m c x y ≡ true
  statement_kept c x y h = rw h.1 (keeps_by m c x _ h.0 h.2)

  statement_broken : (k : ℕ) → at m.statements k (untyped_in m (statement_methods m) (method_classes m) k) ≡ true → WellTyped m → ⊥
  statement_broken k broken well =
      let y = passes_parts (slice_get m.statements k) (untyped_in m (statement_methods m) (method_classes m) k) broken in
      let p = passes_parts (placed_in m (statement_methods m) (method_classes m) k) (λ p. not (statement_typed m p.class p.method y.0)) y.2 in
      let s = stands k y.0 p.0 y.1 p.1 in
      true≢false (sym (statement_kept p.0.class p.0.method y.0 (well.statements p.0.class p.0.method y.0 s.0 s.1 s.2)) ∙ not-true _ p.2)

  -- a rule that only one table breaks
  there : (own t : Table) (test : ℕ → Bool) (r : ℕ) → only_in own test t r ≡ true → test r ≡ true
  there own t test r e = elim (cases_Bool (eqb (table_number t) (table_number own))) [
    | inl same ↦ rw same at e
    | inr other ↦ (let no : false ≡ true = rw other at e in absurd (false≢true no))
  ]

  untyped : (rule : TypingRule) (t : Table) (r : ℕ) → typing_broken m rule t r ≡ true → WellTyped m → ⊥
  untyped typing.Function t r broken = function_broken r (there table.Functions t (λ r. at m.functions r (λ f. not (function_typed m f))) r broken)
  untyped typing.Statement t r broken = statement_broken r (there table.Statements t (λ r. at m.statements r (untyped_in m (statement_methods m) (method_classes m) r)) r broken)

  pub fault_untyped : (f : Fault TypingRule) → typing_verdict m ≡ Some f → WellTyped m → ⊥
  fault_untyped f e =
      let law = typing_judged m (Some f) e in
      untyped f.rule f.table f.row (law.least f refl).broken.test
