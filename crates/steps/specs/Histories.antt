-- Histories: what happened with a run since it was opened.
use Rattle.std.specs.Prelude.{◌≡◌, ◌⊎◌, ℕ, List, [], ◌∷◌, ◌++◌, Ok, Err, None, Result}
use Rattle.tables.specs.Layout.{Content}
use Rattle.outside.specs.declared.outside.Outside.{Ghosts}
use Rattle.steps.specs.declared.refusal.Refusal.{Refusal}
use Rattle.steps.specs.Configurations.{Configuration}
use Rattle.steps.specs.Observing.{Fulfils, observation}
use Rattle.steps.specs.Opening.{first_configuration}
use Rattle.steps.specs.Outcomes.{Outcome, Request}
use Rattle.steps.specs.Steps.{step}

-- what a run and its outside are at once
pub record Moment (O : Type 0) : Type 0 where
  pub configuration : Configuration
  pub outside : O

-- The call that an accepted choice moved: the one to which a reply was delivered, or the one that was chosen.
abbrev pub mover : (choice : ℕ) → Request → ℕ
mover choice (Request.deliver call) = call
mover choice _ = choice

-- What a host is told: which call moved, or why none did.
abbrev pub Answer : Type 0
Answer = Result ℕ Refusal

-- What a host does with a run: it chooses a number, and gets an answer.
pub data Event : Type 0 where
  choice : (number : ℕ) → Answer → Event

-- The history of a run up to a moment: the run was just opened; or there is a history, and after it an event, which led to another moment.
pub data History (O : Type 0) : Type 0 where
  start : Moment O → History O
  after : History O → Event → Moment O → History O

module _ {O : Type 0} where
  abbrev pub first : History O → Moment O
  first (History.start s) = s
  first (History.after h e t) = first h

  -- the moment up to which the history goes
  abbrev pub now : History O → Moment O
  now (History.start s) = s
  now (History.after h e t) = t

  -- The earlier history is the later one up to one of its moments, the last one included.
  abbrev pub IsPartOf : (earlier later : History O) → Type 0
  IsPartOf p (History.start s) = p ≡ History.start s
  IsPartOf p (History.after h e t) = (p ≡ History.after h e t) ⊎ IsPartOf p h

  -- the choices and their answers, the first one first
  abbrev pub choices_in : History O → List ℕ
  choices_in (History.start s) = []
  choices_in (History.after h (Event.choice n a) t) = choices_in h ++ n ∷ []

  abbrev pub answers_in : History O → List Answer
  answers_in (History.start s) = []
  answers_in (History.after h (Event.choice n a) t) = answers_in h ++ a ∷ []

module _ {O : Type 0} (g : Ghosts O) where
  -- A choice with this outcome was made. An accepted one is answered with the call that moved, and run and outside are as the outcome says; a
  -- refused one is answered with its refusal, and leaves everything as it was.
  abbrev pub Moves : (choice : ℕ) → Outcome → Moment O → Answer → Moment O → Type 0
  Moves n (Ok d) s a t = (a ≡ Ok (mover n d.request)) × (t.configuration ≡ d.configuration) × Fulfils g s.outside d.request t.outside
  Moves n (Err e) s a t = (a ≡ Err e) × (t.configuration ≡ s.configuration) × (t.outside ≡ s.outside)

  module _ (m : Content) where
    -- The choice was made at a moment as the step says.
    abbrev pub Chosen : Moment O → (choice : ℕ) → Answer → Moment O → Type 0
    Chosen s n a t = Moves n (step m s.configuration (observation g s.outside) n) s a t

    -- an event, after a history, leads to a moment
    abbrev pub Follows : History O → Event → Moment O → Type 0
    Follows h (Event.choice n a) t = Chosen (now h) n a t

    -- The run was opened over an outside in which nothing waited, and each event led on from the moment before it.
    abbrev pub Linked : History O → Type 0
    Linked (History.start s) = (s.configuration ≡ first_configuration m) × ((n : ℕ) → g.waits s.outside n ≡ None)
    Linked (History.after h e t) = Linked h × Follows h e t

-- From opening over the outside `o`, these choices with these answers led to the moment `s`.
pub record PlaysTo {O : Type 0} (g : Ghosts O) (m : Content) (o : O) (choices : List ℕ) (answers : List Answer) (s : Moment O) : Type 0 where
  pub history : History O
  pub linked : Linked g m history
  pub begins : (first history).outside ≡ o
  pub chooses : choices_in history ≡ choices
  pub tells : answers_in history ≡ answers
  pub ends : now history ≡ s
