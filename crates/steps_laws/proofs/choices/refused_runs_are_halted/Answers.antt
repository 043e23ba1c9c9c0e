use Rattle.steps_laws.proofs.Progressing.{progresses}
use Rattle.steps_laws.proofs.choices.refused_runs_are_halted.Goals as goal

pub returns : goal.returns
returns c = record { progresses = progresses }
