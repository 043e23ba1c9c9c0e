-- What a choice comes to: a refusal, or a configuration with what is asked of the outside.
use Rattle.std.specs.Prelude.{ℕ, Bool, List, Ok, Err, Option, Result}
use Rattle.tables.specs.Layout.{Content}
use Rattle.outside.specs.declared.value.Reply.{Reply}
use Rattle.outside.specs.Outsides.{OutgoingCall}
use Rattle.evaluation.specs.declared.refusal.EvaluationRefusal.{EvaluationRefusal}
use Rattle.evaluation.specs.Evaluation.{Ending, carried_out}
use Rattle.evaluation.specs.Plans.{Plan}
use Rattle.evaluation.specs.Values.{Data}
use Rattle.steps.specs.declared.records.CallRecord.{CallRecord}
use Rattle.steps.specs.declared.refusal.Refusal.{Refusal}
use Rattle.steps.specs.declared.refusal.Refusal.TheVariants as refusal
use Rattle.steps.specs.Changes.{with_cells}
use Rattle.steps.specs.Configurations.{Configuration}

-- What an outside says when it is asked: the reply that comes next, for which classes there is room, and which calls wait.
pub record Observation : Type 0 where
  pub next : Option Reply
  pub room : (class : ℕ) → Bool
  pub waiting : (call : ℕ) → Bool

-- what is asked of the outside
pub data Request : Type 0 where
  nothing : Request
  take : OutgoingCall → Request
  deliver : (call : ℕ) → Request

-- an accepted choice: the configuration afterwards, and what is asked of the outside
pub record Transition : Type 0 where
  pub configuration : Configuration
  pub request : Request

-- what a choice comes to
abbrev pub Outcome : Type 0
Outcome = Result Transition Refusal

-- the choice is accepted
abbrev pub transition : Configuration → Request → Outcome
transition c r = Ok (record { configuration = c; request = r })

-- nothing is asked of the outside
abbrev pub silent : Configuration → Outcome
silent c = transition c Request.nothing

-- What never comes in a run: a row or an object is not there that the rules of the model say is there.
abbrev pub not_there : Outcome
not_there = Err refusal.NoSuchCall

-- what follows on the answer of an evaluation, over the cells that it left; a refusal leaves everything as it was
abbrev pub on_ending : {A : Type 0} → Configuration → (A → Configuration → Outcome) → Result A EvaluationRefusal → List Data → Outcome
on_ending c k (Ok a) cells = k a (with_cells c cells)
on_ending c k (Err e) cells = Err (refusal.Evaluation e)

-- A plan is carried out with 10,000 visits, for the object of a call.
abbrev pub plan_ending : {A : Type 0} → Content → Configuration → CallRecord → Plan A → Ending A
plan_ending m c x p = carried_out m x.object p (record { left = 10000; cells = c.cells })

-- What follows on the answer of a plan.
abbrev pub on_answer : {A : Type 0} → Content → Configuration → CallRecord → Plan A → (A → Configuration → Outcome) → Outcome
on_answer m c x p k = on_ending c k (plan_ending m c x p).answer (plan_ending m c x p).state.cells
