-- The trials compute.
use Rattle.std.proofs.Common.{refl}
use Rattle.syntax.specs.Descent.{descend, descend_to}
use Rattle.evaluation.specs.Evaluation.{run, step, work, carried_out}
use Rattle.evaluation.specs.Matching.{fit_of}
use Rattle.steps_trials.specs.Refusals.{RefusalTrials}

pub refusal_trials : RefusalTrials
unfolding descend descend_to run step work carried_out fit_of
refusal_trials = record { null_future = refl; visits_spent = refl; no_call_left = refl; no_object_left = refl; no_cell_left = refl; not_taken = refl }
