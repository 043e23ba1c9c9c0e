-- Whole runs.
use Rattle.std.specs.Prelude.{◌≡◌, ℕ, List, None, is_some, true, vec_items, Ok, Err, Result}
use Rattle.tables.specs.Layout.{Content}
use Rattle.outside.specs.declared.outside.Outside.{Ghosts}
use Rattle.steps.specs.declared.refusal.OpeningRefusal.TheVariants as refusal
use Rattle.steps_guarantee.specs.WholeRuns.{WholeRun}
use Rattle.run.specs.declared.playing.Playing.{Playing}
use Rattle.run.specs.declared.run.opening.OpeningError.{OpeningError}
use Rattle.run.specs.declared.run.opening.OpeningError.TheVariants as error
use Rattle.run.specs.Openings.{numbers}

-- A whole run was played, with its history and all that is guaranteed of it; or there is an error, and the outside is as it was.
abbrev pub Plays : {O : Type 0} → Ghosts O → Content → O → List ℕ → Result Playing OpeningError → O → Type 0
Plays g m o choices (Ok r) o′ = WholeRun g m o choices (vec_items r.answers) (numbers r.account) o′
Plays g m o choices (Err (error.Refused refusal.CallsWait)) o′ = (is_some (g.upcoming o) ≡ true) × (o′ ≡ o)
Plays g m o choices (Err error.NoMemory) o′ = (g.upcoming o ≡ None) × (o′ ≡ o)
