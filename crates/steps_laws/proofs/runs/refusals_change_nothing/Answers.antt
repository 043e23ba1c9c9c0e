use Rattle.steps_laws.proofs.Determined.{refusals_change_nothing}
use Rattle.steps_laws.proofs.runs.refusals_change_nothing.Goals as goal

pub returns : goal.returns
returns g c = record { unchanged = refusals_change_nothing g.O.Outside }
