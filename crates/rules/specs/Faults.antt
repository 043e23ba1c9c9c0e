-- The first fault of a table's rows, and of all tables, under one rule of any kind.
use Rattle.std.specs.Prelude.{ℕ, Bool, cond, List, [], ◌∷◌, length, Some, None, Option}
use Rattle.tables.specs.declared.place.Fault.{Fault}
use Rattle.tables.specs.declared.place.Table.{Table}
use Rattle.tables.specs.declared.place.Table.TheVariants as table
use Rattle.tables.specs.declared.rows.ClassRow.{ClassRow}
use Rattle.tables.specs.Layout.{Content}
use Rattle.tables.specs.Least.{fault, first_below, first_in, all_tables}
use Rattle.rules.specs.Words.{at}

-- a row's fault
abbrev pub row_fault : {A K : Type 0} → List A → (ℕ → A → Bool) → K → Table → ℕ → Option (Fault K)
row_fault xs test rule table r = cond (at xs r (test r)) (Some (fault rule table r)) None

-- the first row's fault
abbrev pub table_fault : {A K : Type 0} → List A → (ℕ → A → Bool) → K → Table → Option (Fault K)
table_fault xs test rule table = first_below (row_fault xs test rule table) (length xs)

-- How many places of each table are asked: the header's one, and the rows; of the classes at least one, since class 0 has to be there.
abbrev pub class_places : List ClassRow → ℕ
class_places [] = 1
class_places (x ∷ xs) = length (x ∷ xs)

abbrev pub places : Content → Table → ℕ
places m table.Header = 1
places m table.Types = length m.types
places m table.Lists = length m.lists
places m table.Constructors = length m.constructors
places m table.Functions = length m.functions
places m table.Interfaces = length m.interfaces
places m table.Signatures = length m.signatures
places m table.Classes = class_places m.classes
places m table.Methods = length m.methods
places m table.Nodes = length m.nodes
places m table.Branches = length m.branches
places m table.Statements = length m.statements

-- the first fault of a table, and of all tables, under a rule that is broken at the places that `broken` tells
abbrev pub fault_in : {K : Type 0} → K → (Table → ℕ → Bool) → (Table → ℕ) → Table → Option (Fault K)
fault_in rule broken rows table = first_below (λ r. cond (broken table r) (Some (fault rule table r)) None) (rows table)

abbrev pub rule_fault : {K : Type 0} → K → (Table → ℕ → Bool) → (Table → ℕ) → Option (Fault K)
rule_fault rule broken rows = first_in (fault_in rule broken rows) all_tables
