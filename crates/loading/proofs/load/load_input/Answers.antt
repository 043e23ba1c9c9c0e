use Rattle.model.specs.Input.{model_in}
use Rattle.loading.specs.declared.load.LoadFault.TheVariants.{Reading}
use Rattle.loading.proofs.Judging.{judge_refused}
use Rattle.loading.proofs.load.load_input.Goals as goal

pub returns-in-Err-clause-least : goal.returns-in-Err-clause-least
returns-in-Err-clause-least c = λ begun h. rw c.into.ensures (judge_refused (model_in begun) (Reading c.in-Err.fault) (c.in-Err.ensures.model begun h))
