use Rattle.std.proofs.Common.{Ok, Err, rules}
use Rattle.tables.specs.declared.check.CheckError.TheVariants.{Refused}
use Rattle.tables.specs.Layout.{content}
use Rattle.loading.proofs.Judging.{judge_types}
use Rattle.loading.proofs.Laws.{checked}
use Rattle.loading.proofs.Untyped.{fault_untyped}
use Rattle.loading.proofs.accepted.accepting.check_types.Goals as goal

pub returns-in-Some-clause-least : goal.returns-in-Some-clause-least
returns-in-Some-clause-least c = judge_types (content c.args.model.now.tables) (Err (Refused c.in-Some.fault)) (search rules)

pub returns-in-None-clause-least : goal.returns-in-None-clause-least
returns-in-None-clause-least c = judge_types (content c.args.model.now.tables) (Ok tt) (search rules)

pub returns-in-Some-clause-exact : goal.returns-in-Some-clause-exact
returns-in-Some-clause-exact c = fault_untyped (content c.args.model.now.tables) c.in-Some.fault (search rules)

pub returns-in-None-clause-exact : goal.returns-in-None-clause-exact
returns-in-None-clause-exact c = checked (content c.args.model.now.tables) c.args.model.now.keeps (search rules)
