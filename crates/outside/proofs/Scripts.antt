-- The first numbers of a list.
use Rattle.std.proofs.Common.{◌≡◌, ℕ, List, length, take, min, arith, ap, ◌∙◌}
use Rattle.std.proofs.lemmas.List.{take_min}

-- they stand within the list's length
pub take_within : {A : Type 0} (n : ℕ) (xs : List A) → take (min (length xs) n) xs ≡ take n xs
take_within n xs = let e : min (length xs) n ≡ min n (length xs) = omega arith in ap (λ k. take k xs) e ∙ take_min n xs
