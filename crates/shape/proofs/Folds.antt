-- A test of all rows one after another, without a stop.
use Rattle.std.proofs.Common.{◌≡◌, Bool, false, ◌||◌, List, [], ◌∷◌, ◌∙◌, arith}
use Rattle.std.specs.Prelude.{fold}
use Rattle.std.specs.List.{list_any}

module _ {A : Type 0} (p : A → Bool) where
  fold_or : (found : Bool) (xs : List A) → fold (λ found y. found || p y) found xs ≡ (found || list_any p xs)
  fold_or found [] = grind arith
  fold_or found (x ∷ xs) = fold_or (found || p x) xs ∙ grind arith

  pub fold_any : (xs : List A) → fold (λ found y. found || p y) false xs ≡ list_any p xs
  fold_any xs = fold_or false xs
