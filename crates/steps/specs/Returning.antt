-- Returns, and the results of synchronous calls.
use Rattle.std.specs.Prelude.{ℕ, Some, None, Err, Option}
use Rattle.tables.specs.Layout.{Content}
use Rattle.syntax.specs.declared.statements.Statement.{Statement}
use Rattle.syntax.specs.declared.statements.Statement.TheVariants as statement
use Rattle.evaluation.specs.declared.value.Value.{Value}
use Rattle.evaluation.specs.Plans.{ask}
use Rattle.steps.specs.declared.records.CallRecord.{CallRecord}
use Rattle.steps.specs.declared.refusal.Refusal.TheVariants as refusal
use Rattle.steps.specs.declared.state.CallState.{CallState}
use Rattle.steps.specs.declared.state.CallState.TheVariants as state
use Rattle.steps.specs.Configurations.{Configuration, call_at, call_environment, statement_at, value_at}
use Rattle.steps.specs.Outcomes.{Outcome, not_there, on_answer, silent}
use Rattle.steps.specs.Rules as rule

-- Call k, which is y, becomes active if it is the caller that waits.
abbrev pub resume_as : Configuration → (n k : ℕ) → CallRecord → CallState → Configuration
resume_as c n k y (state.Calling callee) = rule.cog_sync_return c n k y
resume_as c n k y _ = c

-- the same of a call that was looked up
abbrev pub resume_call : Configuration → (n k : ℕ) → Option CallRecord → Configuration
resume_call c n k None = c
resume_call c n k (Some y) = resume_as c n k y y.state

-- what a return makes of the caller, if there is one
abbrev pub resume : Configuration → (n : ℕ) → (caller : Option ℕ) → Configuration
resume c n None = c
resume c n (Some k) = resume_call c n k (call_at c k)

module _ (m : Content) (c : Configuration) (n : ℕ) (x : CallRecord) where
  -- the value is that of an expression
  abbrev pub return_step : (value : ℕ) → Outcome
  return_step value = on_answer m c x (ask value (call_environment c x)) (λ v d. silent (resume (rule.return d n x v) n x.caller))

  -- The target is that of the statement that made the call, where the maker still stands.
  abbrev pub store_at : Value → Option Statement → Outcome
  store_at v (Some (statement.Call target call next)) = silent (rule.store c n x target v next)
  store_at v _ = not_there

  -- once the result is there
  abbrev pub store_result : Option Value → Outcome
  store_result None = Err refusal.Unresolved
  store_result (Some v) = store_at v (statement_at m x.statement)

  -- the maker of a synchronous call takes its result
  abbrev pub store_step : (callee : ℕ) → Outcome
  store_step callee = store_result (value_at c callee)
