use Rattle.std.proofs.Common.{arith}
use Rattle.run_state.proofs.Keeping.{consistent_push_object}
use Rattle.run_state.specs.States.{state_seen}
use Rattle.run_state.proofs.state.RunState.push_object.Goals as goal

pub invariant_of-self : goal.invariant_of-self
invariant_of-self c =
    let at0 = state_seen c.self.inside in
    let r = rw (← c.self.view_is) at c.requires.room in
    let g = rw (← c.self.view_is) at c.requires.group in
    let items = c.push_reserved.ensures.items in
    record {
      calls = c.self.invariant.calls;
      objects = omega (arith, c.push_reserved.ensures.capacity, c.self.invariant.objects);
      consistent = rw (items, c.one_if.ensures.one) (consistent_push_object c.self.invariant.consistent c.args.object c.args.new r g);
    }
