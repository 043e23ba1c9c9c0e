use Rattle.steps_laws.proofs.Opened.{opens_sound}
use Rattle.steps_laws.proofs.choices.opening_is_sound.Goals as goal

pub returns : goal.returns
returns c = record { opens_sound = opens_sound }
