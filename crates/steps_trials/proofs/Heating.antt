-- The trials compute.
use Rattle.std.proofs.Common.{refl}
use Rattle.syntax.specs.Descent.{descend, descend_to}
use Rattle.evaluation.specs.Evaluation.{run, step, work, carried_out}
use Rattle.evaluation.specs.Matching.{fit_of}
use Rattle.steps_trials.specs.Heating.{HeatingTrials}

pub heating_trials : HeatingTrials
unfolding descend descend_to run step work carried_out fit_of
heating_trials = record { heat_average_1 = refl; heat_average_3 = refl; heat_day_4 = refl }
