use Rattle.std.proofs.Common.{ap, arith}
use Rattle.evaluation.specs.Evaluation.{State}
use Rattle.evaluation.proofs.workspace.Workspace.bind_all.Goals as goal

pub bind-requires : goal.bind-requires
bind-requires c =
    let i = c.loop-value.invariant in
    let left = ap (λ (s : State). s.left) i.state in
    record { room = omega (arith, i.more, i.capacity, c.requires.room, c.loop-value-test.true) }
