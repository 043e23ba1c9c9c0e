-- A run depends on nothing but its choices.
use Rattle.std.proofs.Common.{◌≡◌, List, [], ◌∷◌, Ok, Err, refl, sym, ap, ◌∙◌, true, is_err}
use Rattle.std.proofs.lemmas.Bool.{false≢true}
use Rattle.tables.specs.Layout.{Content}
use Rattle.outside.specs.declared.outside.Outside.{Ghosts}
use Rattle.steps.specs.Configurations.{Configuration}
use Rattle.steps.specs.Outcomes.{Outcome}
use Rattle.steps_laws.specs.Runs.{Answer, ObservedChoice, IsDetermined, LeadsTo, RefusalsChangeNothing, SameOverBoth, answer_of, answers_after, answers_of, choices_of, configuration_after, next_configuration, outcome}

module _ {O : Type 0} (g : Ghosts O) where
  -- what an outcome leads to is its next configuration
  leads_next : (c c′ : Configuration) (o o′ : O) (out : Outcome) → LeadsTo g c o out c′ o′ → c′ ≡ next_configuration c out
  leads_next c c′ o o′ (Ok d) leads = leads.0
  leads_next c c′ o o′ (Err e) leads = leads.0

  refused_same : (c c′ : Configuration) (o o′ : O) (out : Outcome) → LeadsTo g c o out c′ o′ → is_err (answer_of out) ≡ true → (c′ ≡ c) × (o′ ≡ o)
  refused_same c c′ o o′ (Ok d) leads refused = absurd (false≢true refused)
  refused_same c c′ o o′ (Err e) leads refused = leads

  pub refusals_change_nothing : (m : Content) → RefusalsChangeNothing g m
  refusals_change_nothing m c c′ o o′ e follows refused =
      refused_same c c′ o o′ (outcome m c e.choice) follows.2 (sym (ap is_err follows.1) ∙ refused)

  pub is_determined : (m : Content) → IsDetermined g m
  is_determined m c d o p [] reached = (reached.0, refl)
  is_determined m c d o p (e ∷ es) reached =
      let c′ : Configuration = reached.0 in
      let out : Outcome = outcome m c e.choice in
      let next : c′ ≡ next_configuration c out = leads_next c c′ o reached.1 out reached.2.2 in
      let rest = is_determined m c′ d reached.1 p es reached.3 in
      let same : answers_after m c′ (choices_of es) ≡ answers_after m (next_configuration c out) (choices_of es) =
      ap (λ (b : Configuration). answers_after m b (choices_of es)) next in (
        rest.0 ∙ ap (λ (b : Configuration). configuration_after m b (choices_of es)) next,
        ap (λ (a : Answer). a ∷ answers_of es) reached.2.1 ∙ ap (λ (later : List Answer). answer_of out ∷ later) (rest.1 ∙ same),
      )

-- Two outsides that say the same give the same run.
pub same_over_both : {O P : Type 0} (g : Ghosts O) (h : Ghosts P) (m : Content) → SameOverBoth g h m
same_over_both g h m c d e o o′ p p′ es fs one other same =
    let a = is_determined g m c d o o′ es one in
    let b = is_determined h m c e p p′ fs other in (
      a.0 ∙ ap (λ (ws : List ObservedChoice). configuration_after m c ws) same ∙ sym b.0,
      a.1 ∙ ap (λ (ws : List ObservedChoice). answers_after m c ws) same ∙ sym b.1,
    )
