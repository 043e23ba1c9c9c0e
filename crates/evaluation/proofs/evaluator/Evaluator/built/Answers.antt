use Rattle.std.proofs.Common.{◌≡◌, length, sym, ap, ◌∙◌, false, eqb-true}
use Rattle.std.proofs.lemmas.Bool.{eq-eqb, true≢false}
use Rattle.std.proofs.lemmas.Result.{err_from_is_err_and}
use Rattle.evaluation.specs.Values.{values_of}
use Rattle.evaluation.proofs.Carrying.{ran_made, ran_constant, ran_cell, ran_no_cell}
use Rattle.evaluation.proofs.evaluator.Evaluator.built.Goals as goal
use Rattle.evaluation.proofs.evaluator.Evaluator.built.Goals.{After-is_empty}

-- whether there are no parts, by the length
some_parts : (c : After-is_empty) → c.is_empty.result ≡ false → length (values_of c.args.parts) ≡ 0 → ⊥
some_parts c some none =
    true≢false (sym (eq-eqb (length c.as_slice.result.now) 0 (ap length c.as_slice.ensures.values ∙ none)) ∙ sym c.is_empty.ensures ∙ some)

pub returns-then-is_empty : goal.returns-then-is_empty
returns-then-is_empty c =
    let none = eqb-true (length c.as_slice.result.now) 0 (sym c.is_empty.ensures ∙ c.if-is_empty.true) in
    record { ran = ran_constant _ _ c.args.constructor (values_of c.args.parts) c.args.work.now (sym (ap length c.as_slice.ensures.values) ∙ none) }

pub returns-in_err-cell : goal.returns-in_err-cell
returns-in_err-cell c =
    let p = err_from_is_err_and c.from_residual.result c.from_residual.ensures.1 in
    let h = c.in_err-cell.ensures in
    rw (p.1, p.2) (record {
      ran = ran_no_cell _ _ c.args.constructor (values_of c.args.parts) (some_parts (goal.at.returns-in_err-cell c).After-is_empty c.if-is_empty.false)
          (ran_made _ _ _ h.number h.cells h.left h.bindings h.capacity);
    })

pub returns : goal.returns
returns c =
    let h = c.in_ok-cell.ensures in
    record {
      ran = ran_cell _ _ c.args.constructor (values_of c.args.parts) (some_parts (goal.at.returns c).After-is_empty c.if-is_empty.false)
          (ran_made _ _ _ h.number h.cells h.left h.bindings h.capacity);
    }
