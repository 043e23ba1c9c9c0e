-- Guards, by the number of the call.
use Rattle.std.specs.Prelude.{ℕ, Bool, false, Some, None, Option}
use Rattle.tables.specs.Layout.{Content}
use Rattle.rules.specs.Words.{passes}
use Rattle.mapping.specs.Bindings.{lookup}
use Rattle.evaluation.specs.Carried.{Work}
use Rattle.steps.specs.Changes.{with_cells}
use Rattle.syntax.specs.declared.nodes.Parts.{Parts}
use Rattle.steps.specs.declared.records.CallRecord.{CallRecord}
use Rattle.steps.specs.Configurations.{Configuration, call_environment}
use Rattle.steps.specs.Guards.{guard, at_false_await, lets_pass}

abbrev pub call_guard : Configuration → Parts → Option CallRecord → Bool
call_guard c slots None = false
call_guard c slots (Some x) = guard c (call_environment c x) slots

abbrev pub call_at_false_await : Content → Configuration → Option CallRecord → Bool
call_at_false_await m c None = false
call_at_false_await m c (Some x) = at_false_await m c x

-- a slot that is bound in a workspace lets an await pass, over the workspace's cells
abbrev pub slot_passes : Work → Configuration → ℕ → Bool
slot_passes w c slot = passes (lookup slot w.bindings) (lets_pass (with_cells c w.state.cells))
