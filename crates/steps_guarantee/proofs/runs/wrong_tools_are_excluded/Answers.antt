use Rattle.steps_guarantee.proofs.Excluded.{no_counted_refusal, no_early_refusal, no_idle_choice, no_idle_reply, no_idle_return, no_invented_reply, no_lost_call, no_other_value}
use Rattle.steps_guarantee.proofs.runs.wrong_tools_are_excluded.Goals as goal

pub returns : goal.returns
returns g c = record {
  invented_reply = no_invented_reply g.O.Outside;
  counted_refusal = no_counted_refusal g.O.Outside;
  lost_call = no_lost_call g.O.Outside;
  other_value = no_other_value g.O.Outside;
  idle_reply = no_idle_reply g.O.Outside;
  idle_return = no_idle_return g.O.Outside;
  idle_choice = no_idle_choice g.O.Outside;
  early_refusal = no_early_refusal g.O.Outside;
}
