-- Whole runs: what a list of choices makes of a configuration and its outside.
use Rattle.std.specs.Prelude.{◌≡◌, ℕ, true, List, [], ◌∷◌, map, None, Ok, Err, Result, is_err}
use Rattle.tables.specs.Layout.{Content}
use Rattle.outside.specs.declared.outside.Outside.{Ghosts}
use Rattle.steps.specs.declared.refusal.Refusal.{Refusal}
use Rattle.steps.specs.declared.refusal.Refusal.TheVariants as refusal
use Rattle.steps.specs.Configurations.{Configuration}
use Rattle.steps.specs.Observing.{Fulfils, observation}
use Rattle.steps.specs.Opening.{first_configuration}
use Rattle.steps.specs.Outcomes.{Observation, Outcome}
use Rattle.steps.specs.Sound.{Sound}
use Rattle.steps.specs.Steps.{step}
use Rattle.steps_ordered.specs.Lasting.{KeepsIdentities, KeepsValues}
use Rattle.steps_laws.specs.Halted.{EveryChoiceRefused, Halted}
use Rattle.steps_laws.specs.Laws.{Balanced, HasNoneSent, MissesOnlyCalls, NeverComes, account_over}

-- A choice: its number, and what the outside said before it.
pub record ObservedChoice : Type 0 where
  pub seen : Observation
  pub number : ℕ

-- what a choice is answered: that it was accepted, or why not
abbrev pub Answer : Type 0
Answer = Result (Unit {0}) Refusal

-- the answer of an outcome
abbrev pub answer_of : Outcome → Answer
answer_of (Ok d) = Ok tt
answer_of (Err e) = Err e

-- The configuration after an outcome: a refused choice changes nothing.
abbrev pub next_configuration : Configuration → Outcome → Configuration
next_configuration c (Ok d) = d.configuration
next_configuration c (Err e) = c

module _ (m : Content) where
  -- what a choice comes to
  abbrev pub outcome : Configuration → ObservedChoice → Outcome
  outcome c w = step m c w.seen w.number

  -- the configuration after a list of choices, and what they are answered
  abbrev pub configuration_after : Configuration → List ObservedChoice → Configuration
  configuration_after c [] = c
  configuration_after c (w ∷ ws) = configuration_after (next_configuration c (outcome c w)) ws

  abbrev pub answers_after : Configuration → List ObservedChoice → List Answer
  answers_after c [] = []
  answers_after c (w ∷ ws) = answer_of (outcome c w) ∷ answers_after (next_configuration c (outcome c w)) ws

-- An event of a run: a choice, and its answer.
pub record Event : Type 0 where
  pub choice : ObservedChoice
  pub answer : Answer

-- the choices of events, and their answers
abbrev pub choices_of : List Event → List ObservedChoice
choices_of es = map (λ e. e.choice) es

abbrev pub answers_of : List Event → List Answer
answers_of es = map (λ e. e.answer) es

module _ {O : Type 0} (g : Ghosts O) where
  -- An accepted choice leads to the configuration of its outcome, and the outside does what it is asked; a refused one leaves both as they are.
  abbrev pub LeadsTo : Configuration → O → Outcome → Configuration → O → Type 0
  LeadsTo c o (Ok d) c′ o′ = (c′ ≡ d.configuration) × Fulfils g o d.request o′
  LeadsTo c o (Err e) c′ o′ = (c′ ≡ c) × (o′ ≡ o)

  module _ (m : Content) where
    -- The event leads on: its choice was made over what the outside says, and it was answered by its outcome.
    abbrev pub Follows : Configuration → O → Event → Configuration → O → Type 0
    Follows c o e c′ o′ =
        (e.choice.seen ≡ observation g o) × (e.answer ≡ answer_of (outcome m c e.choice)) × LeadsTo c o (outcome m c e.choice) c′ o′

    -- the configuration and the outside that a list of events leads to
    abbrev pub Reaches : Configuration → O → List Event → Configuration → O → Type 0
    Reaches c o [] d p = (d ≡ c) × (p ≡ o)
    Reaches c o (e ∷ es) d p = (c′ : Configuration) × (o′ : O) × Follows c o e c′ o′ × Reaches c′ o′ es d p

    -- A refused choice changes nothing, inside or outside.
    abbrev pub RefusalsChangeNothing : Type 0
    RefusalsChangeNothing = (c c′ : Configuration) (o o′ : O) (e : Event) → Follows c o e c′ o′ → is_err e.answer ≡ true → (c′ ≡ c) × (o′ ≡ o)

    -- Where a run comes to, and its answers, depend on nothing but its choices.
    abbrev pub IsDetermined : Type 0
    IsDetermined = (c d : Configuration) (o p : O) (es : List Event) → Reaches c o es d p →
        (d ≡ configuration_after m c (choices_of es)) × (answers_of es ≡ answers_after m c (choices_of es))

    -- What holds of a run, over its outside, at each of its moments.
    pub record Holds (c : Configuration) (o : O) : Type 0 where
      -- it is sound, and its account balances
      pub sound : Sound m c (g.waits o)
      pub balanced : Balanced (account_over c (g.waits o))
      -- where every choice is refused, it is halted, and no call is still sent
      pub halted : EveryChoiceRefused m c (observation g o) → Halted m c (observation g o) (g.waits o)
      pub none_sent : EveryChoiceRefused m c (observation g o) → HasNoneSent m c
      -- no reply is strange, every call is taken where nothing waits, and a choice misses nothing but a call of its number
      pub never_strange : NeverComes m c (observation g o) refusal.StrangeReply
      pub always_taken : ((n : ℕ) → g.waits o n ≡ None) → NeverComes m c (observation g o) refusal.NotTaken
      pub misses_only_calls : MissesOnlyCalls m c (observation g o)
      -- whatever happens further on, a future that has a value keeps it, and calls and objects stay the same under their numbers
      pub values_last : (es : List Event) (d : Configuration) (p : O) → Reaches c o es d p → KeepsValues c d
      pub identities_last : (es : List Event) (d : Configuration) (p : O) → Reaches c o es d p → KeepsIdentities c d

    -- It holds of every run that was opened over an outside in which nothing waited, whatever happened since.
    abbrev pub AlwaysHolds : Type 0
    AlwaysHolds = (o : O) → ((n : ℕ) → g.waits o n ≡ None) → (es : List Event) (c : Configuration) (p : O) → Reaches (first_configuration m) o es c p → Holds c p

-- Two outsides that say the same before each of the same choices: the runs come to the same, with the same answers.
abbrev pub SameOverBoth : {O P : Type 0} → Ghosts O → Ghosts P → Content → Type 0
SameOverBoth {O} {P} g h m = (c d e : Configuration) (o o′ : O) (p p′ : P) (es fs : List Event) → Reaches g m c o es d o′ → Reaches h m c p fs e p′ →
    choices_of es ≡ choices_of fs → (d ≡ e) × (answers_of es ≡ answers_of fs)
