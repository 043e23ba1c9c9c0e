use Rattle.steps_laws.proofs.Soundness.{choices_keep_sound}
use Rattle.steps_laws.proofs.choices.choices_keep_soundness.Goals as goal

pub returns : goal.returns
returns c = record { sound = choices_keep_sound }
