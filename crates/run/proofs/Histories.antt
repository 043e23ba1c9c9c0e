-- A run that was not opened.
use Rattle.std.proofs.Common.{ℕ, List, Err, refl}
use Rattle.tables.specs.Layout.{Content}
use Rattle.outside.specs.declared.outside.Outside.{Ghosts}
use Rattle.steps.specs.declared.refusal.OpeningRefusal.TheVariants as refusal
use Rattle.run.specs.declared.run.opening.OpeningError.{OpeningError}
use Rattle.run.specs.declared.run.opening.OpeningError.TheVariants as error
use Rattle.run.specs.Openings.{Opens}
use Rattle.run.specs.Playing.{Plays}

module _ {O : Type 0} (g : Ghosts O) (m : Content) (o : O) where
  pub not_opened : (choices : List ℕ) (e : OpeningError) → Opens m (g.upcoming o) (Err e) → Plays g m o choices (Err e) o
  not_opened choices (error.Refused refusal.CallsWait) h = (h, refl)
  not_opened choices error.NoMemory h = (h, refl)
