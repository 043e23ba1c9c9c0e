-- What the evaluator works with, and what its functions promise.
use Rattle.std.specs.Prelude.{◌≡◌, ℕ, ◌+◌, ◌≤◌, Bool, true, false, cond, ◌==◌, List, [], ◌++◌, length, is_ok, Some, None, Ok, Err, Option, Result}
use Rattle.tables.specs.Layout.{Content}
use Rattle.mapping.specs.Bindings.{since}
use Rattle.typing.specs.Room.{free}
use Rattle.evaluation.specs.declared.refusal.EvaluationRefusal.{EvaluationRefusal}
use Rattle.evaluation.specs.declared.refusal.EvaluationRefusal.TheVariants.{VisitsSpent}
use Rattle.evaluation.specs.declared.value.Value.{Value}
use Rattle.evaluation.specs.Evaluation.{State, ending, paid, carried_out}
use Rattle.evaluation.specs.Plans.{Environment, Plan}
use Rattle.evaluation.specs.Rules.{bound_from}
use Rattle.evaluation.specs.Stores.{Longer}
use Rattle.evaluation.specs.Values.{Data}

-- The bindings of all activations, the visits that are left and the cells in use, and how many bindings there is memory for.
pub record Work : Type 0 where
  pub bindings : Environment
  pub state : State
  pub capacity : ℕ

-- a workspace in which nothing is bound and no visit is left
abbrev pub idle : List Data → ℕ → Work
idle cells capacity = record { bindings = []; state = record { left = 0; cells = cells }; capacity = capacity }

-- The environment of a statement: the locals are bound to the slots from 0 on, and then the fields to those from 128 on.
abbrev pub statement_environment : List Value → List Value → Environment
statement_environment locals fields = bound_from 128 fields (bound_from 0 locals [])

-- the bindings of an activation: those made since there were `base`
abbrev pub environment : ℕ → Work → Environment
environment base w = since base w.bindings

-- A plan was carried out, with this answer. The bindings are as they were, whatever the answer is.
pub record Ran (m : Content) (this : ℕ) {A : Type 0} (p : Plan A) (before : Work) (answer : Result A EvaluationRefusal) (after : Work) : Type 0 where
  pub ends : carried_out m this p before.state ≡ ending answer after.state
  pub same : after.bindings ≡ before.bindings
  pub room : after.capacity ≡ before.capacity
  pub falls : after.state.left ≤ before.state.left

-- A visit is paid for, where one is left.
pub record Pays (before : Work) (answer : Result (Unit {0}) EvaluationRefusal) (after : Work) : Type 0 where
  pub answers : answer ≡ cond (before.state.left == 0) (Err VisitsSpent) (Ok tt)
  pub state : after.state ≡ paid before.state
  pub same : after.bindings ≡ before.bindings
  pub room : after.capacity ≡ before.capacity

-- A plan was carried out, with this answer, and newer bindings alone were added.
pub record Adds (m : Content) (this : ℕ) {A : Type 0} (p : Plan A) (before : Work) (answer : Result A EvaluationRefusal) (after : Work) : Type 0 where
  pub ends : carried_out m this p before.state ≡ ending answer after.state
  pub grows : (newer : Environment) × (after.bindings ≡ newer ++ before.bindings)
  pub room : after.capacity ≡ before.capacity
  pub falls : after.state.left ≤ before.state.left

-- what a pattern that was tried answers, by the bindings behind it
abbrev pub fitted : Environment → Result Bool EvaluationRefusal → Result (Option Environment) EvaluationRefusal
fitted s (Ok true) = Ok (Some s)
fitted s (Ok false) = Ok None
fitted s (Err e) = Err e

-- A pattern was tried. Newer bindings alone are added, each of a slot of its own among the eight of a function.
pub record Tried (m : Content) (this : ℕ) (p : Plan (Option Environment)) (base : ℕ) (before : Work) (answer : Result Bool EvaluationRefusal) (after : Work) : Type 0 where
  pub ends : carried_out m this p before.state ≡ ending (fitted (environment base after) answer) after.state
  pub grows : (newer : Environment) × (after.bindings ≡ newer ++ before.bindings)
  pub slots : length after.bindings + free 8 (environment base after) ≤ length before.bindings + free 8 (environment base before)
  pub room : after.capacity ≡ before.capacity
  pub falls : after.state.left ≤ before.state.left

-- An evaluation as a caller sees it: answer and visits are those of the plan, and so are the cells where there is a value. A refusal
-- leaves the cells as they were; so cells are only added. The bindings are as they were, whatever the answer is.
pub record Evaluates (m : Content) (this : ℕ) {A : Type 0} (p : Plan A) (before : Work) (answer : Result A EvaluationRefusal) (after : Work) : Type 0 where
  pub value : answer ≡ (carried_out m this p before.state).answer
  pub left : after.state.left ≡ (carried_out m this p before.state).state.left
  pub cells : after.state.cells ≡ cond (is_ok answer) (carried_out m this p before.state).state.cells before.state.cells
  pub grows : Longer before.state.cells after.state.cells
  pub same : after.bindings ≡ before.bindings
  pub room : after.capacity ≡ before.capacity
