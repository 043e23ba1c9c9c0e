use Rattle.std.proofs.Common.{◌≤◌}
use Rattle.tables.specs.Layout.{content}
use Rattle.shape.specs.Earliest.{earliest_from}
use Rattle.shape.proofs.shape.earliest_since.Given as goal

-- no signature passed so far is the earliest
abbrev pub invariant-loop-earlier : goal.invariant-loop-earlier
invariant-loop-earlier l = l.earlier ≤ earliest_from l.row l.row (content l.t).interfaces
