use Rattle.std.proofs.Common.{◌≡◌, Some, None, refl, sym, ap, ◌∙◌}
use Rattle.steps.specs.declared.records.CallRecord.{CallRecord}
use Rattle.syntax.specs.declared.statements.Statement.{Statement}
use Rattle.steps.specs.declared.state.CallState.TheVariants as state
use Rattle.steps.specs.Configurations.{call_at}
use Rattle.steps.specs.Returning.{store_step, store_result, store_at}
use Rattle.run.specs.Choices.{at_call}
use Rattle.run.specs.Views.{run_seen}
use Rattle.run.proofs.Putting.{stands_silent, state_target, longer_same, target_cells}
use Rattle.run.proofs.run.Run.store_result.Goals as goal

pub returns-clause-stands : goal.returns-clause-stands
returns-clause-stands c =
    let m = (run_seen c.self.inside).model in
    let at = (run_seen c.self.inside).at in
    let n = c.args.number in
    let x = c.in-Some.call.now in
    let v = c.in-Some-value_of.value in
    let e : call_at at n ≡ Some x = sym c.in-Some.ensures.call in
    let s = rw (← c.self.view_is) at c.set_state.ensures.state in
    let made = state_target at n x e (state.Active None) c.in-Some-Call.target v c.in-Some-Call.next c.set_state.new.self.at c.store.new.self.at s c.store.ensures.target in
    let out =
    ap (at_call (λ (x : CallRecord). store_step m at n x c.args.callee)) e
    ∙ ap (store_result m at n x) (sym c.in-Some-value_of.ensures.value)
    ∙ ap (store_at m at n x v) (sym (rw c.tables.ensures.tables at c.in-Some-Call.ensures.says))
    ∙ ap (λ (s : Statement). store_at m at n x v (Some s)) c.in-Some-Call.field-0-is in
    rw (← c.self.view_is, made) (stands_silent at _ out refl (rw (target_cells at n (record x { state = state.Active None; statement = c.in-Some-Call.next }) c.in-Some-Call.target v) (longer_same at.cells)))
