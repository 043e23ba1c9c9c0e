-- What reading the tables of a model answers.
use Rattle.std.specs.Prelude.{◌≡◌, ℕ, cond, List, Some, None, Ok, Err, Option, Result}
use Rattle.tables.specs.declared.check.CheckError.{CheckError}
use Rattle.tables.specs.declared.check.CheckError.TheVariants.{NoMemory, Refused}
use Rattle.tables.specs.declared.place.Fault.{Fault}
use Rattle.tables.specs.declared.place.Table.TheVariants.{Header}
use Rattle.tables.specs.declared.place.TableRule.{TableRule}
use Rattle.tables.specs.declared.place.TableRule.TheVariants.{Length, Counts}
use Rattle.tables.specs.declared.tables.Tables.{Tables}
use Rattle.tables.specs.Layout.{wrong_length, wrong_counts, content, content_of}

abbrev pub header_fault : TableRule → Fault TableRule
header_fault rule = record { rule = rule; table = Header; row = 0 }

-- The first rule that a model's header breaks.
abbrev pub header_verdict : List ℕ → Option (Fault TableRule)
header_verdict bs = cond (wrong_length bs) (Some (header_fault Length)) (cond (wrong_counts bs) (Some (header_fault Counts)) None)

-- The tables where the header keeps its rules, else its fault; want of memory says nothing of the bytes.
abbrev pub Reads : List ℕ → Result Tables (CheckError TableRule) → Type 0
Reads bs (Ok t) = (header_verdict bs ≡ None) × (content t ≡ content_of bs)
Reads bs (Err (Refused f)) = header_verdict bs ≡ Some f
Reads bs (Err NoMemory) = Unit {0}
