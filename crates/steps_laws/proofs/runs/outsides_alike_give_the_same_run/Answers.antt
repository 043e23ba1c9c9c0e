use Rattle.steps_laws.proofs.Determined.{same_over_both}
use Rattle.steps_laws.proofs.runs.outsides_alike_give_the_same_run.Goals as goal

pub returns : goal.returns
returns g c = record { same = same_over_both g.O.Outside g.P.Outside }
