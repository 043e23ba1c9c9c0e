use Rattle.std.proofs.Common.{rules}
use Rattle.tables.specs.Layout.{content}
use Rattle.placement.proofs.Held.{classes_hold}
use Rattle.placement.proofs.holders.method_classes.Goals as goal

pub returns : goal.returns
returns c = record { classes = rw (← classes_hold (content c.args.t.now)) (search rules) }
