-- The trials compute.
use Rattle.std.proofs.Common.{refl}
use Rattle.syntax.specs.Descent.{descend, descend_to}
use Rattle.evaluation.specs.Evaluation.{run, step, work, carried_out}
use Rattle.evaluation.specs.Matching.{fit_of}
use Rattle.steps_trials.specs.Values.{ValueTrials}

pub value_trials : ValueTrials
unfolding descend descend_to run step work carried_out fit_of
value_trials = record { expressions_come_out = refl; replies_come_in = refl }
