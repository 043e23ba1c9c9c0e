-- One step of a walk along rows, and a row that was read by its place.
use Rattle.std.proofs.Common.{◌≡◌, ℕ, ◌+◌, ◌<◌, Bool, List, ◌∷◌, length, get_or, drop, refl, add-one, drop-cons}
use Rattle.std.proofs.lemmas.Option.{slice_get_read}
use Rattle.rules.specs.Words.{at}

-- the list behind a place, at a row that was read there
pub behind : {A : Type 0} (xs : List A) (i : ℕ) (x : A) → i < length xs → x ≡ get_or xs i x → drop i xs ≡ x ∷ drop (i + 1) xs
behind xs i x lt e = rw (add-one, drop-cons xs i x lt, ← e)

-- the row at a place that was read
pub at_read : {A : Type 0} (xs : List A) (i : ℕ) (x : A) (p : A → Bool) → i < length xs → x ≡ get_or xs i x → at xs i p ≡ p x
at_read xs i x p lt e = rw (slice_get_read xs (length xs) i x refl lt e)
