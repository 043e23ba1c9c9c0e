use Rattle.std.proofs.Common.{◌≡◌, drop}
use Rattle.placement.specs.Claims.{claim_rows}
use Rattle.placement.proofs.holders.claim_rows.Given as goal

-- the rows that are left lead to the same holders as all of them
abbrev pub invariant-loop-row : goal.invariant-loop-row
invariant-loop-row g l = claim_rows (g.C.Claims.claims l.claims) (l.held) l.row (drop l.row l.rows)
    ≡ claim_rows (g.C.Claims.claims l.claims) (l.initial.held) 0 l.rows
