-- An accepted choice keeps a configuration sound.
use Rattle.std.proofs.Common.{◌≡◌, ℕ, Ok, Err, IfOk}
use Rattle.std.specs.List.{slice_get}
use Rattle.tables.specs.Layout.{Content}
use Rattle.syntax.proofs.Parts.{given_parts}
use Rattle.outside.specs.Outsides.{Waits}
use Rattle.steps.specs.Configurations.{Configuration, object_at}
use Rattle.steps.specs.Outcomes.{Observation, Outcome}
use Rattle.steps.specs.Sound.{InOrder, IsTyped, Sound, WaitsBecome, calls_outside}
use Rattle.steps.specs.Steps.{step}
use Rattle.loading.specs.Accepted.{IsAccepted}
use Rattle.steps_typed.proofs.StepsTyped.{steps_keep_types}
use Rattle.steps_ordered.specs.Lasting.{HaveObjects}
use Rattle.steps_ordered.proofs.OrderedSteps.{identities_last, order_lasts, values_last}
use Rattle.steps_laws.specs.Laws.{ChoicesKeepIdentities, ChoicesKeepSound, ChoicesKeepValues}

module _ (m : Content) (c : Configuration) (waits : Waits) (sound : Sound m c waits) where
  -- every call's object is there
  pub have_objects : HaveObjects c
  have_objects n x there =
      let fits = sound.typed.calls n x there in
      let p = given_parts (object_at c x.object) (λ y. slice_get m.classes y.class) fits.class fits.of_class in
      (p.0, p.1)

  -- what is typed, in order and over what waits is sound
  both : (out : Outcome) → IfOk out (λ d. IsTyped m d.configuration) →
      IfOk out (λ d. InOrder d.configuration × ((after : Waits) → WaitsBecome waits d.request after → (n : ℕ) → after n ≡ calls_outside m d.configuration n)) →
      IfOk out (λ d. (after : Waits) → WaitsBecome waits d.request after → Sound m d.configuration after)
  both (Ok d) typed fine = λ after becomes. record { typed = typed; order = fine.0; outside = fine.1 after becomes }
  both (Err e) typed fine = tt

  step_sound : IsAccepted m → (seen : Observation) (choice : ℕ) → IfOk (step m c seen choice) (λ d. (after : Waits) → WaitsBecome waits d.request after → Sound m d.configuration after)
  step_sound k seen choice =
      both (step m c seen choice)
      (steps_keep_types m k c seen choice sound.typed
      (λ n j x there unfinished caller. (let p = sound.order.callers n j x there unfinished caller in (p.0, p.1, p.2))))
      (order_lasts m c seen waits sound.order have_objects sound.outside choice)

pub choices_keep_sound : (m : Content) → IsAccepted m → ChoicesKeepSound m
choices_keep_sound m k c seen waits sound choice = step_sound m c waits sound k seen choice

pub choices_keep_values : (m : Content) → ChoicesKeepValues m
choices_keep_values m c seen waits sound choice = values_last m c seen sound.order (have_objects m c waits sound) choice

pub choices_keep_identities : (m : Content) → ChoicesKeepIdentities m
choices_keep_identities m c seen waits sound choice = identities_last m c seen sound.order (have_objects m c waits sound) choice
