use Rattle.steps_typed.proofs.StepsTyped.{steps_keep_types}
use Rattle.steps_typed.proofs.steps_keep_types.Goals as goal

pub returns : goal.returns
returns c = record { keep_types = steps_keep_types }
