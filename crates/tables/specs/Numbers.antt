-- Numbers of bytes, and rows of numbers.
use Rattle.std.specs.Prelude.{ℕ, zero, suc, ◌+◌, ◌*◌, List, [], ◌∷◌, take, drop}

-- the two-byte numbers of a byte string, the high byte first; a last odd byte is left out
abbrev pub numbers_of : List ℕ → List ℕ
numbers_of [] = []
numbers_of (hi ∷ []) = []
numbers_of (hi ∷ lo ∷ rest) = (hi * 256 + lo) ∷ numbers_of rest

-- the first `count` rows of a list of numbers, each of `width` numbers, which `spelled` makes a row of
abbrev pub rows_of : {R : Type 0} → ℕ → (List ℕ → R) → ℕ → List ℕ → List R
rows_of width spelled zero ns = []
rows_of width spelled (suc count) ns = spelled (take width ns) ∷ rows_of width spelled count (drop width ns)
