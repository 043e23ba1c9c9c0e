use Rattle.std.proofs.Common.{◌≡◌, ℕ, zero, suc, Bool, true, false, eqb, refl, List, [], ◌∷◌, length, take, Some, Ok, Err, Option, Result, ap, sym, subst, ◌∙◌, inl, inr, arith}
use Rattle.std.proofs.lemmas.Bool.{eq-eqb, ne_eqb, le-ltb}
use Rattle.std.proofs.lemmas.Grind.{common_steps}
use Rattle.std.proofs.lemmas.Result.{err_from_is_err_and}
use Rattle.tables.specs.declared.kinds.NodeKind.{NodeKind}
use Rattle.tables.specs.declared.kinds.UnknownKind.{UnknownKind}
use Rattle.tables.specs.declared.rows.NodeRow.{NodeRow}
use Rattle.tables.specs.Kinds.{known, node_kind}
use Rattle.tables.specs.Layout.{Content}
use Rattle.syntax.specs.declared.nodes.Parts.{Parts}
use Rattle.syntax.specs.Nodes.{children_of, node_as, node_of}
use Rattle.evaluation.specs.declared.refusal.EvaluationRefusal.{EvaluationRefusal}
use Rattle.evaluation.specs.declared.value.Value.{Value}
use Rattle.evaluation.specs.declared.value.Value.TheVariants as value
use Rattle.evaluation.specs.Carried.{Tried, Work, environment}
use Rattle.evaluation.specs.Plans.{Environment}
use Rattle.evaluation.specs.Matching.{Fit, constructor_fit, fit_known, literal, no_fit}
use Rattle.evaluation.specs.Values.{same_value}
use Rattle.evaluation.specs.Views.{lower_fits}
use Rattle.evaluation.proofs.RowKinds.{known_kind, unknown_kind}
use Rattle.evaluation.proofs.Matching.{fit_step_lem, tried_when, tried_none, tried_data, tried_more, tried_miss, tried_refused, tried_all, still_own, still_room}
use Rattle.evaluation.proofs.evaluator.Evaluator.+matching.Goals as goal

pub fits-returns-in_default : goal.fits-returns-in_default
fits-returns-in_default t c = record { tried = rw (fit_step_lem, ← c.in_default.ensures.found) (tried_none _ _ _ c.args.work.now) }

pub fits-returns : goal.fits-returns
fits-returns t c = record { tried = rw (fit_step_lem, ← c.in-Some.ensures.found) c.node_fits.ensures.tried }

module _ (m : Content) (this base : ℕ) (child : ℕ → Environment → Value → Fit) (s : Environment) (v : Value) (row : NodeRow)
    {r : Result Bool EvaluationRefusal} {w w' : Work} where
  -- what a pattern answers, by the kind of its row
  by_kind : {kind k : NodeKind} → Ok kind ≡ known row.kind (node_kind row.kind) → kind ≡ k →
      Tried m this (fit_known child s v (node_as row (Some k))) base w r w' → Tried m this (fit_known child s v (node_of row)) base w r w'
  by_kind e is h =
      let P : Option NodeKind → Type 0 = λ k. Tried m this (fit_known child s v (node_as row k)) base w r w' in
      subst P (sym (known_kind row.kind (node_kind row.kind) e ∙ ap (λ (x : NodeKind). Some x) is)) h

  by_none : {e : UnknownKind} → Err e ≡ known row.kind (node_kind row.kind) → Tried m this no_fit base w r w' → Tried m this (fit_known child s v (node_of row)) base w r w'
  by_none e h =
      let P : Option NodeKind → Type 0 = λ k. Tried m this (fit_known child s v (node_as row k)) base w r w' in
      subst P (sym (unknown_kind row.kind (node_kind row.kind) e)) h

pub node_fits-returns-in_default : goal.node_fits-returns-in_default
node_fits-returns-in_default t c =
    record { tried = by_none _ _ _ (lower_fits c.args.self.now c.args.at.row) _ c.args.value.now c.args.pattern.now c.in_default.ensures (tried_none _ _ _ c.args.work.now) }

-- the kinds of patterns
pub node_fits-returns-in-Unit : goal.node_fits-returns-in-Unit
node_fits-returns-in-Unit t c =
    rw (c.same.ensures.same) (record {
      tried = by_kind _ _ _ (lower_fits c.args.self.now c.args.at.row) _ c.args.value.now c.args.pattern.now c.in-Ok.ensures c.in-Unit.is
          (tried_when _ _ _ (same_value value.Unit c.args.value.now) c.args.work.now);
    })

pub node_fits-returns-in-False : goal.node_fits-returns-in-False
node_fits-returns-in-False t c =
    rw (c.same-in-False.ensures.same) (record {
      tried = by_kind _ _ _ (lower_fits c.args.self.now c.args.at.row) _ c.args.value.now c.args.pattern.now c.in-Ok.ensures c.in-False.is
          (tried_when _ _ _ (same_value (value.Bool false) c.args.value.now) c.args.work.now);
    })

pub node_fits-returns-in-True : goal.node_fits-returns-in-True
node_fits-returns-in-True t c =
    rw (c.same-in-True.ensures.same) (record {
      tried = by_kind _ _ _ (lower_fits c.args.self.now c.args.at.row) _ c.args.value.now c.args.pattern.now c.in-Ok.ensures c.in-True.is
          (tried_when _ _ _ (same_value (value.Bool true) c.args.value.now) c.args.work.now);
    })

pub node_fits-returns-in-Int : goal.node_fits-returns-in-Int
node_fits-returns-in-Int t c =
    rw (c.same-in-Int.ensures.same, c.literal.ensures.literal) (record {
      tried = by_kind _ _ _ (lower_fits c.args.self.now c.args.at.row) _ c.args.value.now c.args.pattern.now c.in-Ok.ensures c.in-Int.is
          (tried_when _ _ _ (same_value (literal c.args.pattern.now.reference) c.args.value.now) c.args.work.now);
    })

pub node_fits-returns-in-Null : goal.node_fits-returns-in-Null
node_fits-returns-in-Null t c =
    rw (c.same-in-Null.ensures.same) (record {
      tried = by_kind _ _ _ (lower_fits c.args.self.now c.args.at.row) _ c.args.value.now c.args.pattern.now c.in-Ok.ensures c.in-Null.is
          (tried_when _ _ _ (same_value value.Null c.args.value.now) c.args.work.now);
    })

pub node_fits-returns-in-Wildcard : goal.node_fits-returns-in-Wildcard
node_fits-returns-in-Wildcard t c =
    record {
      tried = by_kind _ _ _ (lower_fits c.args.self.now c.args.at.row) _ c.args.value.now c.args.pattern.now c.in-Ok.ensures c.in-Wildcard.is (tried_when _ _ _ true c.args.work.now);
    }

pub node_fits-returns-in-Constructor : goal.node_fits-returns-in-Constructor
node_fits-returns-in-Constructor t c =
    record { tried = by_kind _ _ _ (lower_fits c.args.self.now c.args.at.row) _ c.args.value.now c.args.pattern.now c.in-Ok.ensures c.in-Constructor.is c.constructor_fits.ensures.tried }

pub node_fits-returns-in-Variable : goal.node_fits-returns-in-Variable
node_fits-returns-in-Variable t c =
    record { tried = by_kind _ _ _ (lower_fits c.args.self.now c.args.at.row) _ c.args.value.now c.args.pattern.now c.in-Ok.ensures c.in-Variable.is c.variable_fits.ensures.tried }

pub node_fits-returns-in_default-kind : goal.node_fits-returns-in_default-kind
node_fits-returns-in_default-kind t c = record {
  tried = by_kind _ _ _ (lower_fits c.args.self.now c.args.at.row) _ c.args.value.now c.args.pattern.now c.in-Ok.ensures refl (grind (arith, common_steps, tried_none));
}

module _ (m : Content) (this base : ℕ) (child : ℕ → Environment → Value → Fit) (w : Work) where
  -- data without parts, and what is no data
  constant_same : (c k n x : ℕ) (xs : List ℕ) → k ≡ c → Tried m this (constructor_fit child (environment base w) c (record { rows = x ∷ xs; count = n }) (value.Constant k)) base w (Ok (eqb n 0)) w
  constant_same c k zero x xs is = rw (eq-eqb k c is) (tried_when m this base true w)
  constant_same c k (suc n) x xs is =
      rw (eq-eqb k c is, ne_eqb (length (x ∷ take n xs)) 0 (λ z. omega arith), ne_eqb (suc n) 0 (λ z. omega arith)) (tried_none m this base w)

  no_data : (c : ℕ) (ps : Parts) (v : Value) → ((k : ℕ) → v ≡ value.Constant k → ⊥) → ((i : ℕ) → v ≡ value.Cell i → ⊥) →
      Tried m this (constructor_fit child (environment base w) c ps v) base w (Ok false) w
  no_data c ps value.Unit constant cell = tried_none m this base w
  no_data c ps (value.Bool b) constant cell = tried_none m this base w
  no_data c ps (value.Int n) constant cell = tried_none m this base w
  no_data c ps value.Null constant cell = tried_none m this base w
  no_data c ps (value.Object o) constant cell = tried_none m this base w
  no_data c ps (value.Future f) constant cell = tried_none m this base w
  no_data c ps (value.Constant k) constant cell = absurd (constant k refl)
  no_data c ps (value.Cell i) constant cell = absurd (cell i refl)

pub constructor_fits-returns-then-constructor-pattern : goal.constructor_fits-returns-then-constructor-pattern
constructor_fits-returns-then-constructor-pattern t c =
    let row = c.args.pattern.now in
    rw c.in-Constant.is (record {
      tried = constant_same _ _ _ (lower_fits c.args.self.now c.args.at.row) c.args.work.now row.reference c.in-Constant.constructor row.count row.p1
          (row.p2 ∷ row.p3 ∷ row.p4 ∷ []) c.if-constructor-pattern.true;
    })

pub constructor_fits-returns-else-constructor-pattern : goal.constructor_fits-returns-else-constructor-pattern
constructor_fits-returns-else-constructor-pattern t c =
    rw (c.in-Constant.is, ne_eqb c.in-Constant.constructor c.args.pattern.now.reference c.if-constructor-pattern.false) (record { tried = tried_none _ _ _ c.args.work.now })

pub constructor_fits-returns-in_default : goal.constructor_fits-returns-in_default
constructor_fits-returns-in_default t c =
    record { tried = no_data _ _ _ (lower_fits c.args.self.now c.args.at.row) c.args.work.now c.args.pattern.now.reference (children_of c.args.pattern.now) c.args.value.now c.in_default.not-Constant c.in_default.not-Cell }

pub constructor_fits-returns-in-Cell : goal.constructor_fits-returns-in-Cell
constructor_fits-returns-in-Cell t c = record { tried = rw c.in-Cell.is c.cell_fits.ensures.tried }

pub cell_fits-returns-in_default : goal.cell_fits-returns-in_default
cell_fits-returns-in_default t c =
    record {
      tried = tried_data _ _ _ (lower_fits c.args.self.now c.args.at.row) c.args.pattern.now.reference (children_of c.args.pattern.now) (value.Cell c.args.cell) c.in_default.ensures.held
          (tried_none _ _ _ c.args.work.now);
    }

pub cell_fits-returns-then-data-pattern : goal.cell_fits-returns-then-data-pattern
cell_fits-returns-then-data-pattern t c =
    record {
      tried = tried_data _ _ _ (lower_fits c.args.self.now c.args.at.row) c.args.pattern.now.reference (children_of c.args.pattern.now) (value.Cell c.args.cell) c.in-Some.ensures.held
          (rw (ne_eqb c.in-Some.data.now.constructor c.args.pattern.now.reference c.if-data-pattern.true) (tried_none _ _ _ c.args.work.now));
    }

pub cell_fits-returns : goal.cell_fits-returns
cell_fits-returns t c =
    let h = c.parts_fit.ensures.tried in
    record {
      tried = tried_data _ _ _ (lower_fits c.args.self.now c.args.at.row) c.args.pattern.now.reference (children_of c.args.pattern.now) (value.Cell c.args.cell) c.in-Some.ensures.held
          (rw (eq-eqb c.in-Some.data.now.constructor c.args.pattern.now.reference c.if-data-pattern.false)
          (rw (c.as_slice.ensures.parts, c.children_of.ensures.children, c.as_slice-2.ensures.values) at h));
    }

-- a child
pub child_fits-returns-then-child-at : goal.child_fits-returns-then-child-at
child_fits-returns-then-child-at t c = record { tried = rw (le-ltb c.args.child c.args.at.row c.if-child-at.true) (tried_none _ _ _ c.args.work.now) }

-- the parts are as many, and the children that are left answer this
pub parts_fit-returns-then-children-parts : goal.parts_fit-returns-then-children-parts
parts_fit-returns-then-children-parts t c =
    record { tried = rw (ne_eqb (length c.args.children.now) (length c.args.parts.now) c.if-children-parts.true) (tried_none _ _ _ c.args.work.now) }

pub parts_fit-returns-in_err-child_fits : goal.parts_fit-returns-in_err-child_fits
parts_fit-returns-in_err-child_fits t c =
    let p = err_from_is_err_and c.from_residual.result c.from_residual.ensures.1 in
    let next = c.in-Some.ensures.steps in
    let i = c.loop-child.invariant in
    let as_many = eq-eqb (length c.args.children.now) (length c.args.parts.now) c.if-children-parts.false in
    let h = tried_refused _ _ _ (lower_fits c.args.self.now c.args.at.row) c.in-Some.child.now c.in-Some.part.now c.next.new.self.a.rest.now c.next.new.self.b.rest.now
    c.in_err-child_fits.ensures.tried in
    rw (p.1, p.2, as_many) (record { tried = i.rest (Err c.in_err-child_fits.field-0.0) c.child_fits.new.work (rw (next.0, next.1) h) })

pub parts_fit-returns-then-not-branch : goal.parts_fit-returns-then-not-branch
parts_fit-returns-then-not-branch t c =
    let next = c.in-Some.ensures.steps in
    let i = c.loop-child.invariant in
    let as_many = eq-eqb (length c.args.children.now) (length c.args.parts.now) c.if-children-parts.false in
    let tried = c.in_ok-child_fits.ensures.tried in
    let h = tried_miss _ _ _ (lower_fits c.args.self.now c.args.at.row) c.in-Some.child.now c.in-Some.part.now c.next.new.self.a.rest.now c.next.new.self.b.rest.now
    (rw c.if-not-branch.true at tried) in
    rw as_many (record { tried = i.rest (Ok false) c.child_fits.new.work (rw (next.0, next.1) h) })

pub parts_fit-loop-child-preserved : goal.parts_fit-loop-child-preserved
parts_fit-loop-child-preserved t c =
    let next = c.in-Some.ensures.steps in
    let i = c.loop-child.invariant in
    let tried = c.in_ok-child_fits.ensures.tried in
    let fits = rw c.if-not-branch.false at tried in
    record {
      rest = λ r after k. i.rest r after (rw (next.0, next.1) (tried_more _ _ _ (lower_fits c.args.self.now c.args.at.row) c.in-Some.child.now c.in-Some.part.now
          c.next.new.self.a.rest.now c.next.new.self.b.rest.now fits k));
      own = still_own _ _ _ tried i.own;
      room = still_room _ _ _ tried i.room;
      alike = omega (arith, rw (next.0, next.1) at i.alike);
    }

pub parts_fit-returns : goal.parts_fit-returns
parts_fit-returns t c =
    let i = c.loop-child.invariant in
    let as_many = eq-eqb (length c.args.children.now) (length c.args.parts.now) c.if-children-parts.false in
    let none : length c.loop-child.child-iterator.a.rest.now ≡ 0 = elim c.in-None.ensures.steps [ inl x ↦ x.1.0 | inr x ↦ i.alike ∙ x.1.0 ] in
    let h = tried_all _ _ _ (lower_fits c.args.self.now c.args.at.row) c.loop-child.child-iterator.a.rest.now c.loop-child.child-iterator.b.rest.now none c.loop-child.work in
    rw as_many (record { tried = i.rest (Ok true) c.loop-child.work h })
