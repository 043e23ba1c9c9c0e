-- Statements that make no call and no object.
use Rattle.std.specs.Prelude.{ℕ, cond, Some, None, Err, Option}
use Rattle.tables.specs.Layout.{Content}
use Rattle.syntax.specs.declared.nodes.Parts.{Parts}
use Rattle.evaluation.specs.declared.value.Value.{Value}
use Rattle.evaluation.specs.declared.value.Value.TheVariants as value
use Rattle.evaluation.specs.Plans.{ask}
use Rattle.evaluation.specs.Values.{truth_of}
use Rattle.steps.specs.declared.records.CallRecord.{CallRecord}
use Rattle.steps.specs.declared.refusal.Refusal.TheVariants as refusal
use Rattle.steps.specs.Configurations.{Configuration, call_environment, value_at}
use Rattle.steps.specs.Guards.{guard}
use Rattle.steps.specs.Outcomes.{Outcome, on_answer, silent}
use Rattle.steps.specs.Rules as rule

module _ (m : Content) (c : Configuration) (n : ℕ) (x : CallRecord) where
  -- the target takes the value of an expression
  abbrev pub assign_step : (target : Option ℕ) (value next : ℕ) → Outcome
  assign_step target value next = on_answer m c x (ask value (call_environment c x)) (λ v d. silent (rule.assign d n x target v next))

  -- to next where the test is True, else to other
  abbrev pub branch_step : (test next other : ℕ) → Outcome
  branch_step test next other =
      on_answer m c x (ask test (call_environment c x)) (λ v d. silent (cond (truth_of v) (rule.cond_true d n x next) (rule.cond_false d n x other)))

  -- to the next statement where the guard is true
  abbrev pub await_step : Parts → (next : ℕ) → Outcome
  await_step slots next = silent (cond (guard c (call_environment c x) slots) (rule.await_true c n x next) (rule.await_false c n x))

  -- the value of the future, once there is one
  abbrev pub read_value : (target : Option ℕ) (next : ℕ) → Configuration → Option Value → Outcome
  read_value target next d None = Err refusal.Unresolved
  read_value target next d (Some v) = silent (rule.read_fut d n x target v next)

  -- a future that was evaluated; all else is null
  abbrev pub read_future : (target : Option ℕ) (next : ℕ) → Value → Configuration → Outcome
  read_future target next (value.Future f) d = read_value target next d (value_at d f)
  read_future target next _ d = Err refusal.NullFuture

  -- the target takes the value of a future
  abbrev pub get_step : (target : Option ℕ) (future next : ℕ) → Outcome
  get_step target future next = on_answer m c x (ask future (call_environment c x)) (read_future target next)
