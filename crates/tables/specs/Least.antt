-- The least place that breaks a rule, in the order of the rules, then of the tables, then of the rows; over any rules and any test.
use Rattle.std.specs.Prelude.{◌≡◌, ℕ, zero, suc, ◌<◌, Bool, true, cond, ◌⊎◌, List, [], ◌∷◌, Some, None, Option}
use Rattle.tables.specs.declared.place.Fault.{Fault}
use Rattle.tables.specs.declared.place.Table.{Table}
use Rattle.tables.specs.declared.place.Table.TheVariants as table
use Rattle.tables.specs.Places.{table_number}

abbrev pub or_else : {A : Type 0} → Option A → Option A → Option A
or_else (Some x) o = Some x
or_else None o = o

-- the first answer among `f x` for the members `x` of a list
abbrev pub first_in : {A B : Type 0} → (A → Option B) → List A → Option B
first_in f [] = None
first_in f (x ∷ xs) = or_else (f x) (first_in f xs)

-- the first answer among `f 0`, `f 1`, .., `f (n - 1)`
abbrev pub first_below : {B : Type 0} → (ℕ → Option B) → ℕ → Option B
first_below f zero = None
first_below f (suc n) = or_else (first_below f n) (f n)

-- all tables, in the order of their numbers
abbrev pub all_tables : List Table
all_tables = table.Header ∷ table.Types ∷ table.Lists ∷ table.Constructors ∷ table.Functions ∷ table.Interfaces ∷ table.Signatures
    ∷ table.Classes ∷ table.Methods ∷ table.Nodes ∷ table.Branches ∷ table.Statements ∷ []

-- what is judged: rules in the order of their numbers, how many rows of each table are asked, and which place breaks which rule
pub record Case (R : Type 0) : Type 0 where
  pub rules : List R
  pub rows : Table → ℕ
  pub broken : R → Table → ℕ → Bool

abbrev pub fault : {R : Type 0} → R → Table → ℕ → Fault R
fault rule table row = record { rule = rule; table = table; row = row }

abbrev pub in_row : {R : Type 0} → Case R → R → Table → ℕ → Option (Fault R)
in_row c rule table row = cond (c.broken rule table row) (Some (fault rule table row)) None

abbrev pub in_table : {R : Type 0} → Case R → R → Table → Option (Fault R)
in_table c rule table = first_below (in_row c rule table) (c.rows table)

abbrev pub under_rule : {R : Type 0} → Case R → R → Option (Fault R)
under_rule c rule = first_in (in_table c rule) all_tables

abbrev pub verdict_of : {R : Type 0} → Case R → Option (Fault R)
verdict_of c = first_in (under_rule c) c.rules

-- The same in the words of the format: a fault is a broken place, and no place before it is broken.
pub record Broken {R : Type 0} (c : Case R) (f : Fault R) : Type 0 where
  pub row : f.row < c.rows f.table
  pub test : c.broken f.rule f.table f.row ≡ true

abbrev pub Before : {R : Type 0} → (R → ℕ) → Fault R → Fault R → Type 0
Before number f g = (number f.rule < number g.rule)
    ⊎ ((f.rule ≡ g.rule) × ((table_number f.table < table_number g.table) ⊎ ((f.table ≡ g.table) × (f.row < g.row))))

pub record Least {R : Type 0} (number : R → ℕ) (c : Case R) (f : Fault R) : Type 0 where
  pub broken : Broken c f
  pub first : (g : Fault R) → Before number g f → Broken c g → ⊥

-- a verdict is the least broken place, and there is none exactly if no place is broken
pub record Judges {R : Type 0} (number : R → ℕ) (c : Case R) (v : Option (Fault R)) : Type 0 where
  pub least : (f : Fault R) → v ≡ Some f → Least number c f
  pub found : (f : Fault R) → Least number c f → v ≡ Some f
  pub clean : v ≡ None → (f : Fault R) → Broken c f → ⊥
  pub passes : ((f : Fault R) → Broken c f → ⊥) → v ≡ None
