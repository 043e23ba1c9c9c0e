use Rattle.std.proofs.Common.{◌≡◌, false, ◌∙◌, arith}
use Rattle.steps.specs.Configurations.{group_of}
use Rattle.steps.specs.States.{is_active}
use Rattle.run_state.proofs.Keeping.{consistent_push}
use Rattle.run_state.specs.Changes.{recount}
use Rattle.run_state.specs.States.{state_seen}
use Rattle.run_state.proofs.state.RunState.push_call.Goals as goal

pub invariant_of-self : goal.invariant_of-self
invariant_of-self c =
    let at0 = state_seen c.self.inside in
    let y = c.args.call in
    let r = rw (← c.self.view_is) at c.requires.room in
    let o = rw (← c.self.view_is) at c.requires.object in
    let group : c.group_of-group.result ≡ group_of at0 y.object = rw c.deref.ensures.value at c.group_of-group.ensures.group in
    let table : c.recount.new.active ≡ recount c.self.inside.active (group_of at0 y.object) false (is_active y.state) =
    c.recount.ensures.counts ∙ (λ j. recount c.self.inside.active (group j) false (c.is_active.ensures.active j)) in
    let items = c.push_reserved.ensures.items in
    record {
      calls = omega (arith, c.push_reserved.ensures.capacity, c.self.invariant.calls);
      objects = c.self.invariant.objects;
      consistent = rw (table, items) (consistent_push y c.self.invariant.consistent r o c.requires.runs);
    }
