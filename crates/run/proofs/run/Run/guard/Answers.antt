use Rattle.std.proofs.Common.{◌≡◌, Some, sym, ap, ◌∙◌}
use Rattle.steps.specs.Configurations.{call_at}
use Rattle.run.specs.Guarding.{call_guard}
use Rattle.run.specs.Views.{run_seen}
use Rattle.run.proofs.run.Run.guard.Goals as goal

pub returns-clause-guard : goal.returns-clause-guard
returns-clause-guard c =
    let at = (run_seen c.self.inside).at in
    let n = c.args.number in
    let x = c.in-Some.call.now in
    let e : call_at at n ≡ Some x = sym c.in-Some.ensures.call in
    let b = rw (c.as_slice.ensures.values, c.fields.ensures.fields) at c.enter.ensures.bound in
    rw (← c.self.view_is) (rw (b, c.as_slice-2.ensures.parts, c.enter.ensures.state) at c.all_pass.ensures.passes ∙ sym (ap (call_guard at c.args.slots) e))
