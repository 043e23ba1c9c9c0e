use Rattle.std.proofs.Common.{◌≡◌, ◌++◌, take}
use Rattle.run_state.proofs.values.push_all.Given as goal

abbrev pub invariant-loop-value : goal.invariant-loop-value
invariant-loop-value l = l.slots ≡ l.initial.slots ++ take l.value-index l.values
