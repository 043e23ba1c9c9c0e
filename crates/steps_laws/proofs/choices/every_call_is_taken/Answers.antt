use Rattle.steps_laws.proofs.Progressing.{every_call_is_taken}
use Rattle.steps_laws.proofs.choices.every_call_is_taken.Goals as goal

pub returns : goal.returns
returns c = record { never = every_call_is_taken }
