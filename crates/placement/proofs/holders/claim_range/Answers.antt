use Rattle.std.proofs.Common.{◌≡◌, suc, ◌+◌, ◌-◌, arith}
use Rattle.placement.proofs.holders.claim_range.Goals as goal

pub loop-item-preserved : goal.loop-item-preserved
loop-item-preserved c =
    let end = c.args.first + c.args.count in
    let left : end - c.loop-item.item ≡ suc (end - (c.loop-item.item + 1)) = omega arith in
    rw c.claim.ensures.held (rw left at c.loop-item.invariant)
