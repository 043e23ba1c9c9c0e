use Rattle.std.proofs.Common.{arith}
use Rattle.std.proofs.lemmas.Grind.{common_steps}
use Rattle.tables.specs.Layout.{content}
use Rattle.placement.proofs.Held.{users_hold}
use Rattle.placement.proofs.holders.node_users.Goals as goal

pub returns : goal.returns
returns c = record { users = rw (← users_hold (content c.args.t.now)) (grind (arith, common_steps)) }
