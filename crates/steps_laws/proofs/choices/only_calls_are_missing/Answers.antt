use Rattle.steps_laws.proofs.Progressing.{only_calls_are_missing}
use Rattle.steps_laws.proofs.choices.only_calls_are_missing.Goals as goal

pub returns : goal.returns
returns c = record { exact = only_calls_are_missing }
