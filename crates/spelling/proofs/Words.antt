-- A word that is a number, or how often and a number.
use Rattle.std.proofs.Common.{◌≡◌, ℕ, ◌^◌, ◌<◌, List, ◌∷◌, ◌++◌, Bor, Option, Some, None, unwrap_or, codes, inl, inr, sym, ap, ap₂, ◌∙◌, arith, take-append-drop}
use Rattle.std.proofs.lemmas.Str.Pattern.{IsSplitOnceResult, drop_at_char}
use Rattle.std.specs.Str.Parse.{IsNumeral, digits_value, without_leading_plus}
use Rattle.spelling.specs.Text.{Writes, AreNumbers}

-- what was parsed is what the word writes
pub parsed : (bits : ℕ) (word : List ℕ) (number : ℕ) → IsNumeral 10 (without_leading_plus word) → digits_value 10 (without_leading_plus word) < 2 ^ bits →
    number ≡ digits_value 10 (without_leading_plus word) → Writes bits word number
parsed bits word number digits room value = record { digits = digits; value = sym value; room = rw value room }

module _ (word : List ℕ) (one whole : Bor (List ℕ)) (times number : ℕ) (ones : one.now ≡ codes "1") (is : whole.now ≡ word) where
  pub numbers : (split : Option (Bor (List ℕ) × Bor (List ℕ))) → IsSplitOnceResult 42 word split → Writes 16 (unwrap_or split (one, whole)).0.now times →
      Writes 16 (unwrap_or split (one, whole)).1.now number → AreNumbers word times number
  numbers None h front back = inl (sym (rw ones at front).value, rw is at back)
  numbers (Some x) (i, j, found, front_is, back_is, within, front_length, back_length) front back =
      let star = drop_at_char 42 word i j found.1 (omega arith) in
      let cut : word ≡ x.0.now ++ (42 ∷ x.1.now) = sym (take-append-drop i word) ∙ ap₂ (λ (f b : List ℕ). f ++ b) (sym front_is) (star ∙ ap (λ (b : List ℕ). 42 ∷ b) (sym back_is)) in
      inr (x.0.now, x.1.now, cut, front, back)
