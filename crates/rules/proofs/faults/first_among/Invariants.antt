use Rattle.std.proofs.Common.{◌≡◌, drop}
use Rattle.tables.specs.Least.{first_in}
use Rattle.rules.proofs.faults.first_among.Given as goal

-- the first fault of what is left is the first of all
abbrev pub invariant-loop-table : goal.invariant-loop-table
invariant-loop-table g l = first_in (g.J.Tablewise.faults l.judge) (drop l.table-index l.tables) ≡ first_in (g.J.Tablewise.faults l.judge) l.tables
