use Rattle.std.proofs.Common.{rules}
use Rattle.tables.specs.Layout.{content}
use Rattle.placement.proofs.Held.{cases_hold}
use Rattle.placement.proofs.holders.branch_cases.Goals as goal

pub returns : goal.returns
returns c = record { cases = rw (← cases_hold (content c.args.t.now)) (search rules) }
