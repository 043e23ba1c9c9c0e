use Rattle.std.proofs.Common.{rules}
use Rattle.tables.specs.Layout.{content}
use Rattle.placement.proofs.Held.{methods_hold}
use Rattle.placement.proofs.holders.statement_methods.Goals as goal

pub returns : goal.returns
returns c = record { methods = rw (← methods_hold (content c.args.t.now)) (search rules) }
