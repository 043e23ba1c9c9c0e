-- How faults are printed.
use Rattle.std.specs.Prelude.{ℕ, List, ◌++◌, codes}
use Rattle.std.specs.Fmt.{decimal}
use Rattle.tables.specs.declared.place.Fault.{Fault}
use Rattle.tables.specs.Places.{table_number}

-- the number of the rule, of the table and of the row, with spaces between them
abbrev pub fault_text : {R : Type 0} → (R → ℕ) → Fault R → List ℕ
fault_text number f = decimal (number f.rule) ++ codes " " ++ decimal (table_number f.table) ++ codes " " ++ decimal f.row
