-- An accepted choice keeps a configuration typed, and defaults are values.
use Rattle.std.proofs.Common.{Ok, Err, IfOk}
use Rattle.tables.specs.Layout.{Content}
use Rattle.steps.specs.Outcomes.{Outcome}
use Rattle.steps.specs.Sound.{IsTyped}
use Rattle.steps.specs.Steps.{step}
use Rattle.steps_typed.proofs.Endings.{OutcomeTyped}
use Rattle.steps_typed.proofs.Equivalence.{configuration_is_typed, configuration_typed}
use Rattle.steps_typed.proofs.TypedSteps.{step_typed}
use Rattle.steps_typed.proofs.Filling.{default_has}
use Rattle.steps_typed.specs.Laws.{DefaultsAreValues, StepsKeepTypes}
use Rattle.loading.specs.Accepted.{IsAccepted}

module _ (m : Content) where
  outcome_is_typed : (out : Outcome) → OutcomeTyped m out → IfOk out (λ d. IsTyped m d.configuration)
  outcome_is_typed (Ok d) good = configuration_is_typed m d.configuration good
  outcome_is_typed (Err e) good = tt

  pub steps_keep_types : IsAccepted m → StepsKeepTypes m
  steps_keep_types accepted c seen choice is callers =
      outcome_is_typed (step m c seen choice)
      (step_typed m accepted seen c (configuration_typed m c accepted is) callers choice)

pub defaults_are_values : (m : Content) → IsAccepted m → DefaultsAreValues m
defaults_are_values m accepted row t there known cells = default_has m accepted.lawful.defaults known cells t (accepted.lawful.defaults row t there)
