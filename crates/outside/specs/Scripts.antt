-- What a script is, and what its calls do.
use Rattle.std.specs.Prelude.{ℕ, Bool, not, List, [], ◌∷◌, take, drop, ℤ, pos, Some, None, Option, ⊤}
use Rattle.std.specs.List.{slice_get}
use Rattle.std.specs.Option.{unwrap_or}
use Rattle.std.specs.Ordering.{int_eq}
use Rattle.outside.specs.declared.value.PlainValue.{PlainValue}
use Rattle.outside.specs.declared.value.PlainValue.TheVariants as plain
use Rattle.outside.specs.declared.value.Reply.{Reply}
use Rattle.outside.specs.declared.value.Sort.{Sort}
use Rattle.outside.specs.declared.value.Sort.TheVariants as sort
use Rattle.outside.specs.declared.waiting.WaitingCall.{WaitingCall}
use Rattle.outside.specs.Calls.{find_call, room_in, first_reply, others}
use Rattle.outside.specs.Outsides.{OutgoingCall}

-- the calls that wait, the newest first, and the prepared numbers that are not used up
pub record ScriptState : Type 0 where
  pub waiting : List (WaitingCall ⊤)
  pub prepared : List ℤ

-- The number of the next reply; past the end of the prepared numbers it is 0.
abbrev pub next_number : List ℤ → ℤ
next_number ps = unwrap_or (slice_get ps 0) (pos 0)

-- a number as a value of a sort: itself, or whether it is not 0, or Unit
abbrev pub number_as : ℤ → Sort → PlainValue
number_as z sort.Unit = plain.Unit
number_as z sort.Bool = plain.Bool (not (int_eq z (pos 0)))
number_as z sort.Int = plain.Int z

-- The reply to a call has the next number.
abbrev pub script_reply : List ℤ → WaitingCall ⊤ → Reply
script_reply ps c = record { call = c.call; value = number_as (next_number ps) c.sort }

-- Nothing waits; no more than the first 64 numbers are prepared.
abbrev pub prepared_script : List ℤ → ScriptState
prepared_script numbers = record { waiting = []; prepared = take 64 numbers }

-- There is room for 8 calls, whatever their classes.
abbrev pub script_room : ScriptState → Bool
script_room s = room_in 8 s.waiting

-- The next reply is to the newest call.
abbrev pub script_next : ScriptState → Option Reply
script_next s = first_reply (script_reply s.prepared) s.waiting

-- what is kept of a call
abbrev pub kept_in_script : OutgoingCall → WaitingCall ⊤
kept_in_script c = record { call = c.call; sort = c.sort; kept = tt }

-- the script after it accepted a call
abbrev pub script_with : OutgoingCall → ScriptState → ScriptState
script_with c s = record { waiting = kept_in_script c ∷ s.waiting; prepared = s.prepared }

-- The numbers after the delivery of the call that was found, if there was one; each uses up one.
abbrev pub prepared_found : Option (WaitingCall ⊤) → List ℤ → List ℤ
prepared_found None ps = ps
prepared_found (Some c) ps = drop 1 ps

-- the script after the delivery of the call with a number
abbrev pub script_without : ℕ → ScriptState → ScriptState
script_without n s = record { waiting = others n s.waiting; prepared = prepared_found (find_call n s.waiting) s.prepared }
