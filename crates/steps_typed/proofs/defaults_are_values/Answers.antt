use Rattle.steps_typed.proofs.StepsTyped.{defaults_are_values}
use Rattle.steps_typed.proofs.defaults_are_values.Goals as goal

pub returns : goal.returns
returns c = record { defaults = defaults_are_values }
