-- The laws of evaluation, in which no depth stands.
use Rattle.std.specs.Prelude.{◌≡◌, ℕ, ◌≤◌, cond, Err, ◌==◌}
use Rattle.tables.specs.Layout.{Content}
use Rattle.evaluation.specs.declared.refusal.EvaluationRefusal.TheVariants.{VisitsSpent}
use Rattle.evaluation.specs.declared.value.Value.{Value}
use Rattle.evaluation.specs.Evaluation.{State, Ending, ending, paid, work, carried_out}
use Rattle.evaluation.specs.Plans.{Task}
use Rattle.evaluation.specs.Rules.{rule}
use Rattle.evaluation.specs.Stores.{Longer}

-- A visit: with none left it is refused; else it is paid for, and what the task's rule says is carried out.
abbrev pub visited : Content → (this : ℕ) → Task → State → Ending Value
visited m this task s = cond (s.left == 0) (ending (Err VisitsSpent) s) (carried_out m this (rule m this task) (paid s))

-- What holds of each visit: it is the same at any depth that is not below the visits left, which never rise; and cells are only added.
pub record VisitLaws (m : Content) (this : ℕ) : Type 0 where
  pub depth_never_shows : (depth : ℕ) (task : Task) (s : State) → s.left ≤ depth → work m this depth task s ≡ visited m this task s
  pub visits_never_rise : (task : Task) (s : State) → (visited m this task s).state.left ≤ s.left
  pub cells_are_added : (task : Task) (s : State) → Longer s.cells (visited m this task s).state.cells
