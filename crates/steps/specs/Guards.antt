-- The guards of awaits.
use Rattle.std.specs.Prelude.{Bool, false, not, is_some}
use Rattle.std.specs.List.{list_all}
use Rattle.tables.specs.Layout.{Content}
use Rattle.rules.specs.Words.{passes}
use Rattle.mapping.specs.Bindings.{lookup}
use Rattle.syntax.specs.declared.nodes.Parts.{Parts}
use Rattle.syntax.specs.declared.statements.Statement.{Statement}
use Rattle.syntax.specs.declared.statements.Statement.TheVariants as statement
use Rattle.syntax.specs.Nodes.{parts}
use Rattle.evaluation.specs.declared.value.Value.{Value}
use Rattle.evaluation.specs.declared.value.Value.TheVariants as value
use Rattle.evaluation.specs.Plans.{Environment}
use Rattle.steps.specs.declared.records.CallRecord.{CallRecord}
use Rattle.steps.specs.Configurations.{Configuration, call_environment, statement_at, value_at}

-- A Bool that is True lets pass, and a future that is resolved; null does not.
abbrev pub lets_pass : Configuration → Value → Bool
lets_pass c (value.Bool b) = b
lets_pass c (value.Future f) = is_some (value_at c f)
lets_pass c _ = false

-- A guard is true if each slot that it names lets pass.
abbrev pub guard : Configuration → Environment → Parts → Bool
guard c s slots = list_all (λ slot. passes (lookup slot s) (lets_pass c)) (parts slots)

-- an await whose guard is false
abbrev pub is_false_await : Configuration → Environment → Statement → Bool
is_false_await c s (statement.Await slots next) = not (guard c s slots)
is_false_await c s _ = false

-- The call stands at an await whose guard is false.
abbrev pub at_false_await : Content → Configuration → CallRecord → Bool
at_false_await m c x = passes (statement_at m x.statement) (is_false_await c (call_environment c x))
