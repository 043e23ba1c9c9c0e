use Rattle.steps_determined.proofs.Agreeing.{runs_agree}
use Rattle.steps_determined.proofs.runs_agree.Goals as goal

pub returns : goal.returns
returns g c = record { agree = runs_agree g.O.Outside }
