use Rattle.std.proofs.Common.{◌≡◌, Some, refl, sym, ap}
use Rattle.steps.specs.declared.records.CallRecord.{CallRecord}
use Rattle.steps.specs.declared.state.CallState.TheVariants as state
use Rattle.steps.specs.Configurations.{call_at}
use Rattle.steps.specs.Outcomes.{silent}
use Rattle.steps.specs.Rules as rule
use Rattle.run.specs.Choices.{at_call}
use Rattle.run.specs.Views.{run_seen}
use Rattle.run.proofs.Putting.{stands_silent, state_statement, longer_same}
use Rattle.run.proofs.run.Run.suspend.Goals as goal

pub returns-clause-stands : goal.returns-clause-stands
returns-clause-stands c =
    let at = (run_seen c.self.inside).at in
    let n = c.args.number in
    let x = c.in-Some._call.now in
    let e : call_at at n ≡ Some x = sym c.in-Some.ensures.call in
    let s = rw (← c.self.view_is) at c.set_state.ensures.state in
    let made = state_statement at n x e state.Queued c.args.next c.set_state.new.self.at c.set_statement.new.self.at s c.set_statement.ensures.statement in
    rw (← c.self.view_is, made)
    (stands_silent at _ (ap (at_call (λ (x : CallRecord). silent (rule.suspend at n x c.args.next))) e) refl (longer_same at.cells))
