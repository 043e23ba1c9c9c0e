-- Rows, as the chunks of numbers that they are read from, and how many numbers the bytes of a header spell.
use Rattle.std.proofs.Common.{◌≡◌, ℕ, zero, suc, ◌*◌, ◌<◌, ◌≤◌, ◌/◌, List, [], ◌∷◌, map, length, take, drop, refl, ap, length-drop, length-take, arith}
use Rattle.std.proofs.Math.Nat.{le-div_iff_mul-le}
use Rattle.std.proofs.lemmas.List.{take_all}
use Rattle.std.specs.Simd.{first_chunks}
use Rattle.tables.specs.Numbers.{numbers_of, rows_of}

-- as many whole chunks as the rows need
pub as_many : (w count n : ℕ) → 0 < w → count * w ≤ n → count ≤ n / w
as_many w count n pos h = (le-div_iff_mul-le pos).1 h

-- the rows, a chunk of `w` numbers at a time
pub rows_chunked : {R : Type 0} (w : ℕ) (f : List ℕ → R) (count k : ℕ) (ns : List ℕ) → count ≤ k →
    map f (take count (first_chunks w k ns)) ≡ rows_of w f count ns
rows_chunked w f zero k ns h = refl
rows_chunked w f (suc count) zero ns h = absurd (omega arith)
rows_chunked w f (suc count) (suc k) ns h = rw (rows_chunked w f count k (drop w ns) (omega arith))

-- two bytes to a number
pub numbers_length : (xs : List ℕ) (k : ℕ) → length xs ≡ 2 * k → length (numbers_of xs) ≡ k
numbers_length [] k h = omega arith
numbers_length (a ∷ []) k h = absurd (omega arith)
numbers_length (a ∷ b ∷ xs) zero h = absurd (omega arith)
numbers_length (a ∷ b ∷ xs) (suc k) h = ap suc (numbers_length xs k (omega arith))

-- the header's numbers are eleven
pub header_cells : (bs : List ℕ) → 27 ≤ length bs → length (numbers_of (take 22 (drop 5 bs))) ≡ 11
header_cells bs h = numbers_length _ 11 (simp (length-take, length-drop) (omega arith))

-- and so they are one row
pub only_chunk : (ns : List ℕ) → length ns ≡ 11 → first_chunks 11 (length ns / 11) ns ≡ ns ∷ []
only_chunk ns h = rw (h, take_all 11 ns (omega arith))
