-- The states of a call.
use Rattle.std.specs.Prelude.{ℕ, Bool, true, false, Some, None, Option}
use Rattle.steps.specs.declared.state.CallState.{CallState}
use Rattle.steps.specs.declared.state.CallState.TheVariants as state

-- its group's active process
abbrev pub is_active : CallState → Bool
is_active (state.Active callee) = true
is_active _ = false

-- taken by the outside
abbrev pub is_outside : CallState → Bool
is_outside state.Outside = true
is_outside _ = false

-- returned, or answered by a reply
abbrev pub is_ended : CallState → Bool
is_ended state.Ended = true
is_ended _ = false

-- A process that has not returned: neither ended, nor outside.
abbrev pub is_unfinished : CallState → Bool
is_unfinished state.Ended = false
is_unfinished state.Outside = false
is_unfinished _ = true

-- the call whose result the maker of a synchronous call waits for
abbrev pub callee_of : CallState → Option ℕ
callee_of (state.Active callee) = callee
callee_of (state.Calling callee) = Some callee
callee_of _ = None
