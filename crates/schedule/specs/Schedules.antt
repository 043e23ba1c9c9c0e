-- Schedules: the bytes that spell choices, and what reading them answers.
use Rattle.std.specs.Prelude.{◌≡◌, ℕ, ◌+◌, ◌%◌, Bool, cond, not, ◌||◌, ◌==◌, nat_lt, List, length, drop, slice_index, Ok, Err, vec_items, Result, Vec, ⊤}
use Rattle.std.specs.declared.alloc.Global.{Global}
use Rattle.tables.specs.Layout.{stated_length}
use Rattle.tables.specs.Numbers.{numbers_of}
use Rattle.schedule.specs.declared.schedule.ScheduleError.{ScheduleError}
use Rattle.schedule.specs.declared.schedule.ScheduleError.TheVariants.{NoMemory, Refused}
use Rattle.schedule.specs.declared.schedule.ScheduleRefusal.{ScheduleRefusal}
use Rattle.schedule.specs.declared.schedule.ScheduleRefusal.TheVariants.{Malformed}

-- the number under which the refusal is reported
abbrev pub schedule_number : ScheduleRefusal → ℕ
schedule_number Malformed = 9

-- A schedule has five bytes and at most 4,096 choices behind them, each of two bytes; `true` where that fails.
abbrev pub wrong_size : List ℕ → Bool
wrong_size bs = nat_lt (length bs) 5 || nat_lt 8197 (length bs) || not (length bs % 2 == 1)

-- The size is that of a schedule, the length is the one stated, and the version is 1; `true` where that fails.
abbrev pub wrong_schedule : List ℕ → Bool
wrong_schedule bs = wrong_size bs || not (stated_length bs + 4 == length bs) || not (slice_index bs 4 == 1)

-- The choices that the bytes spell, the first one first.
abbrev pub schedule_of : List ℕ → Result (List ℕ) ScheduleRefusal
schedule_of bs = cond (wrong_schedule bs) (Err Malformed) (Ok (numbers_of (drop 5 bs)))

-- The choices, or the refusal; want of memory says nothing of the bytes.
abbrev pub ReadsSchedule : List ℕ → Result (Vec ℕ Global) ScheduleError → Type 0
ReadsSchedule bs (Ok choices) = schedule_of bs ≡ Ok (vec_items choices)
ReadsSchedule bs (Err (Refused e)) = schedule_of bs ≡ Err e
ReadsSchedule bs (Err NoMemory) = ⊤
