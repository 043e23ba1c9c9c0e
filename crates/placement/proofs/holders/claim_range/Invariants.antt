use Rattle.std.proofs.Common.{◌≡◌, ◌+◌, ◌-◌}
use Rattle.placement.specs.Claims.{claim_range}
use Rattle.placement.proofs.holders.claim_range.Given as goal

-- the claims that are left lead to the same holders as all of them
abbrev pub invariant-loop-item : goal.invariant-loop-item
invariant-loop-item l = claim_range l.by (l.held) l.item ((l.first + l.count) - l.item)
    ≡ claim_range l.by (l.initial.held) l.first l.count
