use Rattle.std.proofs.Common.{◌≡◌, Some, refl, sym, ap, ◌∙◌}
use Rattle.steps.specs.declared.records.CallRecord.{CallRecord}
use Rattle.steps.specs.declared.state.CallState.TheVariants as state
use Rattle.steps.specs.Configurations.{call_at}
use Rattle.steps.specs.Observing.{observation}
use Rattle.steps.specs.Outcomes.{Outcome}
use Rattle.run.specs.Runs.{RunView}
use Rattle.steps.specs.Steps.{move_step}
use Rattle.run.specs.Choices.{at_call}
use Rattle.run.specs.Rules.{activation}
use Rattle.run.proofs.Called.{advances_as, moves_as, stands_advances}
use Rattle.run.proofs.run.Run.move_call.Goals as goal

pub returns-in-Queued-clause-advances : goal.returns-in-Queued-clause-advances
returns-in-Queued-clause-advances g c =
    let m = c.args.self.now.model in
    let at = c.args.self.now.at in
    let n = c.args.number in
    let s = observation g.O.Outside c.args.outside.now in
    let x = c.in-Some.call.now in
    let e : call_at at n ≡ Some x = sym (ap (λ (r : RunView). call_at r.at n) c.self.view_is) ∙ sym c.in-Some.ensures.call in
    let rule : CallRecord → Outcome = λ x. activation s m at n x in
    advances_as g.O.Outside (at_call rule (call_at at n)) (move_step m at s n (call_at at n)) at c.activate.new.self.at c.args.outside.now c.args.outside.now c.activate.result
    (moves_as m s at n x state.Queued rule e c.in-Queued.is refl)
    (stands_advances g.O.Outside (at_call rule (call_at at n)) at c.activate.new.self.at c.args.outside.now c.activate.result (c.activate.ensures.stands s))
