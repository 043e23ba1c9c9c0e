-- What rules change of a configuration: a call, a slot, a field, or an object or a call more.
use Rattle.std.specs.Prelude.{ℕ, zero, suc, ◌-◌, Bool, true, false, List, [], ◌∷◌, ◌++◌, Some, None, Option, nat_lt, slice_set}
use Rattle.evaluation.specs.declared.value.Value.{Value}
use Rattle.evaluation.specs.Values.{Data}
use Rattle.steps.specs.declared.records.CallRecord.{CallRecord}
use Rattle.steps.specs.declared.records.ObjectRecord.{ObjectRecord}
use Rattle.steps.specs.declared.state.CallState.TheVariants as state
use Rattle.steps.specs.Configurations.{Configuration, object_at}

-- something else under a number
abbrev pub with_item_at : {A : Type 0} → List A → ℕ → A → List A
with_item_at xs zero x = xs
with_item_at xs (suc n) x = slice_set xs n x

-- another call, object or list of cells in their place
abbrev pub with_call : Configuration → ℕ → CallRecord → Configuration
with_call c n x = record c { calls = with_item_at c.calls n x }

abbrev pub with_object : Configuration → ℕ → ObjectRecord → Configuration
with_object c n o = record c { objects = with_item_at c.objects n o }

abbrev pub with_cells : Configuration → List Data → Configuration
with_cells c cells = record c { cells = cells }

-- a call more
abbrev pub with_new_call : Configuration → CallRecord → Configuration
with_new_call c y = record c { calls = c.calls ++ y ∷ [] }

-- A call at another statement, and in each of the states that it may come to.
abbrev pub at_statement : CallRecord → ℕ → CallRecord
at_statement x row = record x { statement = row }

-- queued
abbrev pub as_queued : CallRecord → CallRecord
as_queued x = record x { state = state.Queued }

-- active, and waiting for no result
abbrev pub as_active : CallRecord → CallRecord
as_active x = record x { state = state.Active None }

-- active, and waiting for the result of a call
abbrev pub as_waiting : CallRecord → ℕ → CallRecord
as_waiting x callee = record x { state = state.Active (Some callee) }

-- waiting for a call that runs in its place
abbrev pub as_calling : CallRecord → ℕ → CallRecord
as_calling x callee = record x { state = state.Calling callee }

-- ended, with the value of its future
abbrev pub as_ended : CallRecord → Value → CallRecord
as_ended x v = record x { state = state.Ended; result = Some v }

-- a field of an object
abbrev pub with_field_of : Configuration → ℕ → ℕ → Value → Option ObjectRecord → Configuration
with_field_of c n k v None = c
with_field_of c n k v (Some o) = with_object c n (record o { fields = slice_set o.fields k v })

-- a field of the object of a number
abbrev pub with_field : Configuration → ℕ → ℕ → Value → Configuration
with_field c n k v = with_field_of c n k v (object_at c n)

-- a slot of a call below 128, or a field of its object
abbrev pub with_slot : Configuration → ℕ → CallRecord → ℕ → Value → (local : Bool) → Configuration
with_slot c n x slot v true = with_call c n (record x { slots = slice_set x.slots slot v })
with_slot c n x slot v false = with_call (with_field c x.object (slot - 128) v) n x

-- A call as it has become, and a value in its target, if it has one.
abbrev pub with_target : Configuration → ℕ → CallRecord → Option ℕ → Value → Configuration
with_target c n x None v = with_call c n x
with_target c n x (Some slot) v = with_slot c n x slot v (nat_lt slot 128)
