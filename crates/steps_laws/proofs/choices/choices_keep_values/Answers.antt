use Rattle.steps_laws.proofs.Soundness.{choices_keep_values}
use Rattle.steps_laws.proofs.choices.choices_keep_values.Goals as goal

pub returns : goal.returns
returns c = record { values = choices_keep_values }
