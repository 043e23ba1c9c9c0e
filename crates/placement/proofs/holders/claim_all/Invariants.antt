use Rattle.std.proofs.Common.{◌≡◌, drop}
use Rattle.placement.specs.Claims.{claim_all}
use Rattle.placement.proofs.holders.claim_all.Given as goal

-- the claims that are left lead to the same holders as all of them
abbrev pub invariant-loop-item : goal.invariant-loop-item
invariant-loop-item l = claim_all l.by (l.held) (drop l.item-index l.items) ≡ claim_all l.by (l.initial.held) l.items
