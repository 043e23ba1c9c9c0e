-- What a call makes of a configuration, by the number of its maker.
use Rattle.std.specs.Prelude.{ℕ, Some, None, Option}
use Rattle.tables.specs.Layout.{Content}
use Rattle.syntax.specs.declared.statements.Manner.{Manner}
use Rattle.syntax.specs.declared.statements.Manner.TheVariants as manner
use Rattle.evaluation.specs.declared.value.Value.TheVariants as value
use Rattle.steps.specs.declared.records.CallRecord.{CallRecord}
use Rattle.steps.specs.Calling.{Dispatch, Message, Receiver, call_by, new_call}
use Rattle.steps.specs.Changes.{as_calling, as_waiting, at_statement, with_call, with_target}
use Rattle.steps.specs.Configurations.{Configuration}

-- The maker of an asynchronous call has its future in the target and goes on; that of a synchronous one waits for the call of this number.
abbrev pub after_call : (n : ℕ) → Manner → Receiver → Option ℕ → (next number : ℕ) → Configuration → CallRecord → Configuration
after_call n manner.Asynchronous r target next number d x = with_target d n (at_statement x next) target (value.Future number)
after_call n manner.Synchronous Receiver.own_group target next number d x = with_call d n (as_calling x number)
after_call n manner.Synchronous r target next number d x = with_call d n (as_waiting x number)

abbrev pub maker_after_call : (n : ℕ) → Manner → Receiver → Option ℕ → (next number : ℕ) → Configuration → Option CallRecord → Configuration
maker_after_call n how r target next number d None = d
maker_after_call n how r target next number d (Some x) = after_call n how r target next number d x

-- the configuration after a call, if its maker is there
abbrev pub call_made : Content → (n : ℕ) → Option ℕ → Manner → (next : ℕ) → Message → Dispatch → Configuration → Option CallRecord → Configuration
call_made m n target how next a f d None = d
call_made m n target how next a f d (Some x) = call_by m n x how f.receiver d (new_call m n x a f.row f.method how f.receiver) target next
