-- The trials compute.
use Rattle.std.proofs.Common.{refl}
use Rattle.syntax.specs.Descent.{descend, descend_to}
use Rattle.evaluation.specs.Evaluation.{run, step, work, carried_out}
use Rattle.evaluation.specs.Matching.{fit_of}
use Rattle.steps_trials.specs.Orders.{OrderTrials}

pub order_trials : OrderTrials
unfolding descend descend_to run step work carried_out fit_of
order_trials = record { first_is_met = refl; limits_come_late = refl; cells_come_back = refl }
