-- What a house is, and what its calls do.
use Rattle.std.specs.Prelude.{ℕ, ◌-◌, Bool, cond, ◌==◌, List, [], ◌∷◌, ◌++◌, replicate, slice_set, slice_index_or, ℤ, pos, int_lt, Some, None, Option}
use Rattle.std.specs.List.{slice_get}
use Rattle.outside.specs.declared.value.PlainValue.{PlainValue}
use Rattle.outside.specs.declared.value.PlainValue.TheVariants as plain
use Rattle.outside.specs.declared.value.Reply.{Reply}
use Rattle.outside.specs.declared.value.Sort.{Sort}
use Rattle.outside.specs.declared.value.Sort.TheVariants as sort
use Rattle.outside.specs.declared.waiting.WaitingCall.{WaitingCall}
use Rattle.outside.specs.declared.house.Asked.{Asked}
use Rattle.outside.specs.Calls.{find_call, room_in, first_reply, others}
use Rattle.outside.specs.Outsides.{OutgoingCall}

-- the calls that wait, the oldest first, and the levels of the objects from 1 on
pub record HouseState : Type 0 where
  pub waiting : List (WaitingCall Asked)
  pub levels : List ℤ

-- a value as a level: True is 1, False and Unit are 0
abbrev pub argument_level : PlainValue → ℤ
argument_level plain.Unit = pos 0
argument_level (plain.Bool b) = cond b (pos 1) (pos 0)
argument_level (plain.Int z) = z

-- The level of an object, which is 0 where the list has none.
abbrev pub level_of : List ℤ → (object : ℕ) → ℤ
level_of ls object = cond (object == 0) (pos 0) (slice_index_or ls (object - 1) (pos 0))

-- The levels with that of an object set, where the list has one.
abbrev pub with_level : (object : ℕ) → ℤ → List ℤ → List ℤ
with_level object level ls = cond (object == 0) ls (slice_set ls (object - 1) level)

-- The level that an argument sets; without one the level stays.
abbrev pub set_by : Option PlainValue → ℤ → ℤ
set_by None level = level
set_by (Some v) level = argument_level v

-- the level that a delivery gives the call's object
abbrev pub new_level : List ℤ → Asked → ℤ
new_level ls a = set_by a.argument (level_of ls a.object)

-- a level as a value of a sort: itself, or whether it exceeds 0, or Unit
abbrev pub level_as : ℤ → Sort → PlainValue
level_as level sort.Unit = plain.Unit
level_as level sort.Bool = plain.Bool (int_lt (pos 0) level)
level_as level sort.Int = plain.Int level

-- The reply to a call has its object's new level.
abbrev pub house_reply : List ℤ → WaitingCall Asked → Reply
house_reply ls c = record { call = c.call; value = level_as (new_level ls c.kept) c.sort }

-- nothing waits, and all levels are 0
abbrev pub empty_house : HouseState
empty_house = record { waiting = []; levels = replicate 64 (pos 0) }

-- There is room for 16 calls, whatever their classes.
abbrev pub house_room : HouseState → Bool
house_room h = room_in 16 h.waiting

-- The next reply is to the oldest call.
abbrev pub house_next : HouseState → Option Reply
house_next h = first_reply (house_reply h.levels) h.waiting

-- what is kept of a call
abbrev pub kept_in_house : OutgoingCall → WaitingCall Asked
kept_in_house c = record { call = c.call; sort = c.sort; kept = record { object = c.object; argument = slice_get c.arguments 0 } }

-- the house after it accepted a call
abbrev pub house_with : OutgoingCall → HouseState → HouseState
house_with c h = record { waiting = h.waiting ++ kept_in_house c ∷ []; levels = h.levels }

-- the levels after the delivery of a call
abbrev pub levels_after : Asked → List ℤ → List ℤ
levels_after a ls = with_level a.object (new_level ls a) ls

-- the levels after the delivery of the call that was found, if there was one
abbrev pub levels_found : Option (WaitingCall Asked) → List ℤ → List ℤ
levels_found None ls = ls
levels_found (Some c) ls = levels_after c.kept ls

-- the house after the delivery of the call with a number
abbrev pub house_without : ℕ → HouseState → HouseState
house_without n h = record { waiting = others n h.waiting; levels = levels_found (find_call n h.waiting) h.levels }
