use Rattle.std.proofs.Common.{Ok, vec_items, rules}
use Rattle.loading.proofs.Judging.{judge_load}
use Rattle.loading.proofs.load.load.Goals as goal

-- what is answered of the first broken rule makes it the least

pub returns-in_err-model-clause-least : goal.returns-in_err-model-clause-least
returns-in_err-model-clause-least c = judge_load (vec_items c.args.bytes) _ (search rules)

pub returns-in_err-check_types-clause-least : goal.returns-in_err-check_types-clause-least
returns-in_err-check_types-clause-least c = judge_load (vec_items c.args.bytes) _ (search rules)

pub returns-clause-least : goal.returns-clause-least
returns-clause-least c = judge_load (vec_items c.args.bytes) (Ok c.new.result) (search rules)
