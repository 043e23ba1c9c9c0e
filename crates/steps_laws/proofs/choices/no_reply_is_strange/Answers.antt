use Rattle.steps_laws.proofs.Progressing.{no_reply_is_strange}
use Rattle.steps_laws.proofs.choices.no_reply_is_strange.Goals as goal

pub returns : goal.returns
returns c = record { never = no_reply_is_strange }
