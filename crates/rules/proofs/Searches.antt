-- The search for the first row that breaks a rule, and for the first table and rule.
use Rattle.std.proofs.Common.{◌≡◌, ℕ, ◌+◌, ◌<◌, Bool, true, false, cond, List, [], ◌∷◌, length, get_or, Some, None, Option, sym, refl}
use Rattle.tables.specs.declared.place.Table.{Table}
use Rattle.tables.specs.declared.place.Table.TheVariants.{Classes}
use Rattle.tables.specs.declared.rows.ClassRow.{ClassRow}
use Rattle.tables.specs.Least.{fault, first_below}
use Rattle.tables.proofs.First.{below_none, below_more, below_some}
use Rattle.rules.specs.Faults.{fault_in, row_fault, table_fault, class_places}
use Rattle.rules.specs.Words.{at}
use Rattle.rules.proofs.Walks.{at_read}

-- the first row that passes a test, with what is answered of it
module _ {A B : Type 0} (xs : List A) (test : ℕ → A → Bool) (answer : ℕ → B) where
  abbrev pub in_row : ℕ → Option B
  in_row r = cond (at xs r (test r)) (Some (answer r)) None

  module _ (r : ℕ) (x : A) (lt : r < length xs) (e : x ≡ get_or xs r x) (inv : first_below in_row r ≡ None) where
    pub row_passes : false ≡ test r x → first_below in_row (r + 1) ≡ None
    row_passes miss = below_more in_row r inv (rw (at_read xs r x (test r) lt e, ← miss))

    pub row_breaks : true ≡ test r x → Some (answer r) ≡ first_below in_row (length xs)
    row_breaks hit = sym (below_some in_row (length xs) r (answer r) inv (rw (at_read xs r x (test r) lt e, ← hit)) lt)

-- a table of which no row is broken
pub unasked : {K : Type 0} (rule : K) (broken : Table → ℕ → Bool) (rows : Table → ℕ) (t : Table) →
    ((r : ℕ) → broken t r ≡ false) → None ≡ fault_in rule broken rows t
unasked rule broken rows t h = sym (below_none (λ r. cond (broken t r) (Some (fault rule t r)) None) (rows t) (λ k lt. rw (h k)))

-- where class 0 is not there, no row of the classes breaks a rule
pub class_rows : {K : Type 0} (xs : List ClassRow) (test : ℕ → ClassRow → Bool) (rule : K) →
    table_fault xs test rule Classes ≡ first_below (row_fault xs test rule Classes) (class_places xs)
class_rows [] test rule = refl
class_rows (x ∷ xs) test rule = refl
