use Rattle.run_state.proofs.Keeping.{consistent_none}
use Rattle.run_state.proofs.state.RunState.new.Goals as goal

pub invariant_of-result : goal.invariant_of-result
invariant_of-result c = record {
  calls = c.in_ok-calls.ensures.capacity;
  objects = c.in_ok-objects.ensures.capacity;
  consistent = consistent_none c.in_ok-objects.objects.items c.in_ok-calls.calls.items c.in_ok-objects.ensures.items c.in_ok-calls.ensures.items;
}
