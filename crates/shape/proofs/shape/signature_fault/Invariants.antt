use Rattle.std.proofs.Common.{◌≤◌, IfSome, vec_items}
use Rattle.tables.specs.Layout.{content}
use Rattle.shape.specs.Earliest.{earliest_from, AreEnds}
use Rattle.shape.proofs.Shared.{NoneBefore}
use Rattle.shape.proofs.shape.signature_fault.Given as goal

-- no signature passed so far breaks the rule, and the earliest of the next one is not before the last one's
abbrev pub invariant-loop-row : goal.invariant-loop-row
invariant-loop-row l =
    NoneBefore (content l.t) l.row
    × (l.first ≤ earliest_from l.row l.row (content l.t).interfaces)
    × IfSome l.ends (λ v. AreEnds (vec_items v) (content l.t))
