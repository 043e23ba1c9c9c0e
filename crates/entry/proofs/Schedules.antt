-- A schedule that is kept in part is judged as the whole one.
use Rattle.std.specs.declared.alloc.Global.{Global}
use Rattle.schedule.specs.declared.schedule.ScheduleError.{ScheduleError}
use Rattle.schedule.specs.declared.schedule.ScheduleError.TheVariants.{NoMemory, Refused}
use Rattle.std.proofs.Common.{Ok, Err, Result, Vec, sym, ap, ◌∙◌, ◌≡◌, ℕ, ◌<◌, true, List, length, take, inl, inr, arith, length-take}
use Rattle.std.proofs.lemmas.Bool.{cases_lt, lt-ltb, or_left, or_right}
use Rattle.std.proofs.lemmas.List.{take_all}
use Rattle.schedule.specs.Schedules.{ReadsSchedule, schedule_of, wrong_schedule}

too_long : (bs : List ℕ) → 8197 < length bs → wrong_schedule bs ≡ true
too_long bs lt = or_left _ _ (or_left _ _ (or_left _ _ (or_right _ _ (lt-ltb 8197 (length bs) lt))))

pub kept_in_part : (bs : List ℕ) → schedule_of (take 8198 bs) ≡ schedule_of bs
kept_in_part bs = elim (cases_lt 8197 (length bs)) [
  | inl lt ↦ rw (too_long bs lt, too_long (take 8198 bs) (simp length-take (omega arith)))
  | inr le ↦ rw (take_all 8198 bs (omega arith))
]

pub reads_part : (bs part : List ℕ) (r : Result (Vec ℕ Global) ScheduleError) → part ≡ take 8198 bs → ReadsSchedule part r → ReadsSchedule bs r
reads_part bs part (Ok choices) e reads = sym (kept_in_part bs) ∙ ap schedule_of (sym e) ∙ reads
reads_part bs part (Err (Refused x)) e reads = sym (kept_in_part bs) ∙ ap schedule_of (sym e) ∙ reads
reads_part bs part (Err NoMemory) e reads = tt
