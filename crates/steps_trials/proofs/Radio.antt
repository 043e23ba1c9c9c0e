-- The trials compute.
use Rattle.std.proofs.Common.{refl}
use Rattle.syntax.specs.Descent.{descend, descend_to}
use Rattle.evaluation.specs.Evaluation.{run, step, work, carried_out}
use Rattle.evaluation.specs.Matching.{fit_of}
use Rattle.steps_trials.specs.Radio.{RadioTrials}

pub radio_trials : RadioTrials
unfolding descend descend_to run step work carried_out fit_of
radio_trials = record { radio_deadlock_2 = refl; radio_deadlock_3 = refl; radio_hello_3 = refl; radio_retry_2 = refl }
