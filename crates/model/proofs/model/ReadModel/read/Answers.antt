use Rattle.std.proofs.Common.{Ok, vec_items, rules}
use Rattle.model.proofs.Decides.{judge_bytes}
use Rattle.model.proofs.model.ReadModel.read.Goals as goal

pub returns-clause-least : goal.returns-clause-least
returns-clause-least c = judge_bytes (vec_items c.args.bytes) (Ok c.in_ok-tables.tables) (search rules)
