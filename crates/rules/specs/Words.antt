-- Words that every rule may use: rows and ranges of a table, and tests of its rows.
use Rattle.std.specs.Prelude.{ℕ, ◌+◌, ◌-◌, Bool, false, List, length, take, drop, Some, None, Option, nat_le, nat_lt, slice_get}

-- a thing that is there and passes the test
abbrev pub passes : {A : Type 0} → Option A → (A → Bool) → Bool
passes None p = false
passes (Some x) p = p x

-- the row at `i`, if there is one, passes the test
abbrev pub at : {A : Type 0} → List A → ℕ → (A → Bool) → Bool
at xs i p = passes (slice_get xs i) p

-- there is no row `i`
abbrev pub absent : {A : Type 0} → ℕ → List A → Bool
absent i xs = nat_le (length xs) i

-- the range passes the end, whether or not it is empty
abbrev pub past_end : {A : Type 0} → ℕ → ℕ → List A → Bool
past_end first count xs = nat_lt (length xs) (first + count)

-- the rows of a range
abbrev pub part : {A : Type 0} → ℕ → ℕ → List A → List A
part first count xs = take count (drop first xs)

-- the rows from `first` up to `end`
abbrev pub between : {A : Type 0} → ℕ → ℕ → List A → List A
between first end xs = part first (end - first) xs
