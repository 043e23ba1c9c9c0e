-- The trials of each shelf.
use Rattle.steps_trials.proofs.trials_hold.Goals as goal
use Rattle.steps_trials.proofs.Heating.{heating_trials}
use Rattle.steps_trials.proofs.Lighting.{lighting_trials}
use Rattle.steps_trials.proofs.Radio.{radio_trials}
use Rattle.steps_trials.proofs.StartUp.{start_up_trials}
use Rattle.steps_trials.proofs.Values.{value_trials}
use Rattle.steps_trials.proofs.Orders.{order_trials}
use Rattle.steps_trials.proofs.Refusals.{refusal_trials}

pub returns-clause-heating : goal.returns-clause-heating
returns-clause-heating c = heating_trials

pub returns-clause-lighting : goal.returns-clause-lighting
returns-clause-lighting c = lighting_trials

pub returns-clause-radio : goal.returns-clause-radio
returns-clause-radio c = radio_trials

pub returns-clause-start_up : goal.returns-clause-start_up
returns-clause-start_up c = start_up_trials

pub returns-clause-values : goal.returns-clause-values
returns-clause-values c = value_trials

pub returns-clause-orders : goal.returns-clause-orders
returns-clause-orders c = order_trials

pub returns-clause-refusals : goal.returns-clause-refusals
returns-clause-refusals c = refusal_trials
