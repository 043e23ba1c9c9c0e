-- Evaluation: plans carried out over the visits that are left and the cells in use.
use Rattle.std.specs.Prelude.{ℕ, zero, suc, ◌-◌, cond, List, Ok, Err, Result, ◌==◌}
use Rattle.std.specs.List.{slice_get}
use Rattle.tables.specs.Layout.{Content}
use Rattle.evaluation.specs.declared.refusal.EvaluationRefusal.{EvaluationRefusal}
use Rattle.evaluation.specs.declared.refusal.EvaluationRefusal.TheVariants.{VisitsSpent}
use Rattle.evaluation.specs.declared.value.Value.{Value}
use Rattle.evaluation.specs.Plans.{Task, Plan, done, refuse, visit, make, read}
use Rattle.evaluation.specs.Rules.{rule}
use Rattle.evaluation.specs.Stores.{next_cell, with_cell}
use Rattle.evaluation.specs.Values.{Data}

-- What an evaluation changes: how many visits are left, and the cells in use.
pub record State : Type 0 where
  pub left : ℕ
  pub cells : List Data

-- how an evaluation ends
pub record Ending (A : Type 0) : Type 0 where
  pub answer : Result A EvaluationRefusal
  pub state : State

abbrev pub ending : {A : Type 0} → Result A EvaluationRefusal → State → Ending A
ending r s = record { answer = r; state = s }

-- what follows an answer; a refusal ends all
abbrev pub after : {A B : Type 0} → Result A EvaluationRefusal → State → (A → State → Ending B) → Ending B
after (Ok a) s f = f a s
after (Err e) s f = ending (Err e) s

-- a cell more, of which the number is answered
abbrev pub made : Data → State → Ending ℕ
made d s = ending (next_cell s.cells) (record { left = s.left; cells = with_cell s.cells d })

-- a visit is paid for before it is made
abbrev pub paid : State → State
paid s = record { left = s.left - 1; cells = s.cells }

-- what does tasks
abbrev pub Worker : Type 0
Worker = Task → State → Ending Value

-- A plan, carried out with a worker for the tasks that it visits.
unfoldable pub run : {A : Type 0} → Worker → Plan A → State → Ending A
run worker (done a) s = ending (Ok a) s
run worker (refuse e) s = ending (Err e) s
run worker (visit task k) s = let e : Ending Value = worker task s in after e.answer e.state (λ v s'. run worker (k v) s')
run worker (make d k) s = let e : Ending ℕ = made d s in after e.answer e.state (λ i s'. run worker (k i) s')
run worker (read i k) s = run worker (k (slice_get s.cells i)) s

module _ (m : Content) (this : ℕ) where
  -- one task, with a worker for those that its rule visits: with no visit left it is refused
  unfoldable pub step : Worker → Worker
  step worker task s = cond (s.left == 0) (ending (Err VisitsSpent) s) (run worker (rule m this task) (paid s))

  unfoldable pub work : (depth : ℕ) → Worker
  work zero task s = ending (Err VisitsSpent) s
  work (suc depth) task s = step (work depth) task s

  -- A plan is carried out as deep as there are visits left.
  unfoldable pub carried_out : {A : Type 0} → Plan A → State → Ending A
  carried_out p s = run (work s.left) p s
