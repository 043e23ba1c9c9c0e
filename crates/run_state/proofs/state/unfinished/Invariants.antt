use Rattle.std.proofs.Common.{◌≡◌, take}
use Rattle.std.specs.List.{count_by}
use Rattle.steps.specs.States.{is_unfinished}
use Rattle.run_state.proofs.state.unfinished.Given as goal

abbrev pub invariant-loop-call : goal.invariant-loop-call
invariant-loop-call l = l.count ≡ count_by (λ x. is_unfinished x.state) (take l.call-index l.calls)
