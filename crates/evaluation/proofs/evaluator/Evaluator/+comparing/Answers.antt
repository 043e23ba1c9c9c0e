use Rattle.std.proofs.Common.{◌≡◌, true, false, length, Ok, Err, sym, ◌∙◌, inl, inr, arith}
use Rattle.std.proofs.lemmas.Bool.{eq-eqb, ne_eqb}
use Rattle.std.proofs.lemmas.Result.{err_from_is_err_and}
use Rattle.tables.specs.Layout.{content}
use Rattle.evaluation.specs.declared.value.Value.TheVariants.{Bool}
use Rattle.evaluation.specs.Plans.{pair}
use Rattle.evaluation.proofs.Carrying.{cells_read, ran_done, ran_unpaid, ran_paid, ran_pair_same, ran_pair_differs, ran_pair_refused, ran_no_pair, ran_plain}
use Rattle.evaluation.proofs.Sameness.{comparison_told}
use Rattle.evaluation.proofs.evaluator.Evaluator.+comparing.Goals as goal
use Rattle.evaluation.proofs.evaluator.Evaluator.+comparing.Goals.{same_values-in_default-via-in-Some+in_default, same_values-in_default-via-in_default}

pub same-returns-in_err-spend : goal.same-returns-in_err-spend
same-returns-in_err-spend t c =
    let p = err_from_is_err_and c.from_residual.result c.from_residual.ensures.1 in
    rw (p.1, p.2) (record { ran = ran_unpaid (content c.args.self.now.t.now) c.args.self.now.this (pair c.args.v c.args.w) c.spend.ensures.pays c.in_err-spend.was; tells_same = tt })

pub same-returns : goal.same-returns
same-returns t c =
    let m = content c.args.self.now.t.now in
    let this = c.args.self.now.this in
    let ran = ran_paid m this (pair c.args.v c.args.w) c.spend.ensures.pays c.in_ok-spend.was c.same_values.ensures.ran in
    record { ran = ran; tells_same = comparison_told m this c.args.v c.args.w c.same_values.result ran }

-- the cells that were read
pub same_cells-returns-in_default : goal.same_cells-returns-in_default
same_cells-returns-in_default t c =
    record { ran = cells_read _ _ c.in_default.ensures.held c.in_default.ensures'.held (ran_done _ _ (Bool false) c.args.work.now) }

pub same_cells-returns-in_default-2 : goal.same_cells-returns-in_default-2
same_cells-returns-in_default-2 t c =
    let first = c.read.ensures.held in
    record { ran = cells_read _ _ (rw c.in_default.is-0 at first) c.read-2.ensures.held (ran_done _ _ (Bool false) c.args.work.now) }

pub same_cells-returns-then-a-b : goal.same_cells-returns-then-a-b
same_cells-returns-then-a-b t c =
    record {
      ran = cells_read _ _ c.in-Some-Some.ensures.held c.in-Some-Some.ensures'.held
          (rw (ne_eqb c.in-Some-Some.a.now.constructor c.in-Some-Some.b.now.constructor c.if-a-b.true) (ran_done _ _ (Bool false) c.args.work.now));
    }

pub same_cells-returns : goal.same_cells-returns
same_cells-returns t c =
    let h = c.same_parts.ensures.ran in
    record {
      ran = cells_read _ _ c.in-Some-Some.ensures.held c.in-Some-Some.ensures'.held
          (rw (eq-eqb c.in-Some-Some.a.now.constructor c.in-Some-Some.b.now.constructor c.if-a-b.false) (rw (c.as_slice.ensures.values, c.as_slice-2.ensures.values) at h));
    }

pub same_parts-returns-then-vs-ws : goal.same_parts-returns-then-vs-ws
same_parts-returns-then-vs-ws t c =
    record { ran = rw (ne_eqb (length c.args.vs.now) (length c.args.ws.now) c.if-vs-ws.true) (ran_done _ _ (Bool false) c.args.work.now) }

-- the values are as many, and the pairs that are left come to this
pub same_parts-returns-in_err-same : goal.same_parts-returns-in_err-same
same_parts-returns-in_err-same t c =
    let p = err_from_is_err_and c.from_residual.result c.from_residual.ensures.1 in
    let next = c.in-Some.ensures.steps in
    let i = c.loop-v.invariant in
    let as_many = eq-eqb (length c.args.vs.now) (length c.args.ws.now) c.if-vs-ws.false in
    let rest = i.rest (Err c.in_err-same.field-0.0) c.same.new.work (rw (next.0, next.1) (ran_pair_refused _ _ _ c.in_err-same.ensures.ran)) in
    rw (p.1, p.2, as_many) (record { ran = rest })

pub same_parts-returns-then-not-branch : goal.same_parts-returns-then-not-branch
same_parts-returns-then-not-branch t c =
    let next = c.in-Some.ensures.steps in
    let i = c.loop-v.invariant in
    let as_many = eq-eqb (length c.args.vs.now) (length c.args.ws.now) c.if-vs-ws.false in
    let h = c.in_ok-same.ensures.ran in
    rw as_many (record { ran = i.rest (Ok (Bool false)) c.same.new.work (rw (next.0, next.1) (ran_pair_differs _ _ _ (rw c.if-not-branch.true at h))) })

pub same_parts-loop-v-preserved : goal.same_parts-loop-v-preserved
same_parts-loop-v-preserved t c =
    let next = c.in-Some.ensures.steps in
    let i = c.loop-v.invariant in
    let h = c.in_ok-same.ensures.ran in
    let same = rw c.if-not-branch.false at h in
    let low = i.falls in
    let lower = same.falls in
    record {
      rest = λ r after k. i.rest r after (rw (next.0, next.1) (ran_pair_same _ _ _ same k));
      falls = omega arith;
      alike = omega (arith, rw (next.0, next.1) at i.alike);
    }

pub same_parts-returns : goal.same_parts-returns
same_parts-returns t c =
    let i = c.loop-v.invariant in
    let as_many = eq-eqb (length c.args.vs.now) (length c.args.ws.now) c.if-vs-ws.false in
    let none : length c.loop-v.v-iterator.a.rest.now ≡ 0 = elim c.in-None.ensures.steps [ inl x ↦ x.1.0 | inr x ↦ i.alike ∙ x.1.0 ] in
    rw as_many (record { ran = i.rest (Ok (Bool true)) c.loop-v.work (ran_no_pair _ _ c.loop-v.v-iterator.a.rest.now c.loop-v.v-iterator.b.rest.now none c.loop-v.work) })

pub same_values-returns-in_default : goal.same_values-returns-in_default
same_values-returns-in_default t c =
    elim c.in_default.branch [
      | same_values-in_default-via-in-Some+in_default w ↦ record { ran = ran_plain _ _ c.args.v c.args.w (inr (sym c.cell-2.ensures.cell ∙ w.in_default.is-1)) c.same.ensures.same c.args.work.now }
      | same_values-in_default-via-in_default w ↦ record { ran = ran_plain _ _ c.args.v c.args.w (inl (sym c.cell.ensures.cell ∙ w.in_default.is-0)) c.same.ensures.same c.args.work.now }
    ]
