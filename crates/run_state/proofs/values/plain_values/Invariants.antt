use Rattle.std.proofs.Common.{◌≡◌, take, map}
use Rattle.run_state.specs.Outgoing.{plain_list}
use Rattle.steps.specs.Crossing.{plain_of}
use Rattle.run_state.proofs.values.plain_values.Given as goal

abbrev pub invariant-loop-value : goal.invariant-loop-value
invariant-loop-value l = plain_list l.all ≡ map plain_of (take l.value-index l.values)
