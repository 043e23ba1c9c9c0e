use Rattle.steps_laws.proofs.Determined.{is_determined}
use Rattle.steps_laws.proofs.runs.runs_are_determined.Goals as goal

pub returns : goal.returns
returns g c = record { determined = is_determined g.O.Outside }
