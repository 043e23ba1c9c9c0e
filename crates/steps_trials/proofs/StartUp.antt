-- The trials compute.
use Rattle.std.proofs.Common.{refl}
use Rattle.syntax.specs.Descent.{descend, descend_to}
use Rattle.evaluation.specs.Evaluation.{run, step, work, carried_out}
use Rattle.evaluation.specs.Matching.{fit_of}
use Rattle.steps_trials.specs.StartUp.{StartUpTrials}

pub start_up_trials : StartUpTrials
unfolding descend descend_to run step work carried_out fit_of
start_up_trials = record { boot_order_1 = refl; boot_order_4 = refl; boot_storm_3 = refl; boot_flood_1 = refl }
