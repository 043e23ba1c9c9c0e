-- Opening and closing.
use Rattle.std.specs.Prelude.{◌≡◌, is_some, true, None, Ok, Err, Option, Result}
use Rattle.tables.specs.Layout.{Content}
use Rattle.outside.specs.declared.value.Reply.{Reply}
use Rattle.steps.specs.Account.{Account as Numbers}
use Rattle.steps.specs.Opening.{first_configuration}
use Rattle.steps.specs.declared.refusal.OpeningRefusal.TheVariants as refusal
use Rattle.run.specs.declared.run.Run.{Run}
use Rattle.run.specs.declared.run.opening.Account.{Account}
use Rattle.run.specs.declared.run.opening.OpeningError.{OpeningError}
use Rattle.run.specs.declared.run.opening.OpeningError.TheVariants as error
use Rattle.run.specs.declared.run.opening.Slip.{Slip}

-- A run is opened where no reply comes next, and stands at the opened configuration; where one comes, opening is refused.
abbrev pub Opens : Content → (next : Option Reply) → Result (Run × Slip) OpeningError → Type 0
Opens m next (Ok (run, slip)) = (next ≡ None) × (run ≡ record { model = m; at = first_configuration m })
Opens m next (Err (error.Refused refusal.CallsWait)) = is_some next ≡ true
Opens m next (Err error.NoMemory) = next ≡ None

abbrev pub numbers : Account → Numbers
numbers a = record { calls = a.calls; returned = a.returned; answered = a.answered; unfinished = a.unfinished; waiting = a.waiting }
