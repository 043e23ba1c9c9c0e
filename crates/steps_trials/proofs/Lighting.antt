-- The trials compute.
use Rattle.std.proofs.Common.{refl}
use Rattle.syntax.specs.Descent.{descend, descend_to}
use Rattle.evaluation.specs.Evaluation.{run, step, work, carried_out}
use Rattle.evaluation.specs.Matching.{fit_of}
use Rattle.steps_trials.specs.Lighting.{LightingTrials}

pub lighting_trials : LightingTrials
unfolding descend descend_to run step work carried_out fit_of
lighting_trials = record { light_fade_3 = refl; light_group_3 = refl; light_scene_1 = refl }
