use Rattle.steps_laws.proofs.Sending.{none_stays_sent}
use Rattle.steps_laws.proofs.choices.no_call_stays_sent.Goals as goal

pub returns : goal.returns
returns c = record { none_stays_sent = none_stays_sent }
