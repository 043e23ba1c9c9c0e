-- The lines of choices and answers, one by one.
use Rattle.std.proofs.Common.{◌≡◌, ℕ, zero, suc, ◌<◌, min, List, [], ◌∷◌, ◌++◌, length, get_or, take, Result, refl, sym, ap, ◌∙◌, arith, append_assoc}
use Rattle.std.proofs.lemmas.List.{append-nil}
use Rattle.steps.specs.declared.refusal.Refusal.{Refusal}
use Rattle.entry.specs.Listings.{choice_line, choice_lines}

-- one line more
pub lines_more : {A : Type 0} (k : ℕ) (ns : List ℕ) (rs : List (Result A Refusal)) (n : ℕ) (a : Result A Refusal) → k < length ns → k < length rs →
    n ≡ get_or ns k 0 → ((d : Result A Refusal) → a ≡ get_or rs k d) →
    choice_lines (take k ns) (take k rs) ++ choice_line n a ≡ choice_lines (take (suc k) ns) (take (suc k) rs)
lines_more k [] rs n a lt lt′ e e′ = absurd (omega arith)
lines_more k (x ∷ ns) [] n a lt lt′ e e′ = absurd (omega arith)
lines_more zero (x ∷ ns) (y ∷ rs) n a lt lt′ e e′ = let e″ = e′ y in rw (e, e″) (sym (append-nil (choice_line x y)))
lines_more (suc k) (x ∷ ns) (y ∷ rs) n a lt lt′ e e′ =
    append_assoc (choice_line x y) (choice_lines (take k ns) (take k rs)) (choice_line n a)
    ∙ ap (λ bs. choice_line x y ++ bs) (lines_more k ns rs n a (omega arith) (omega arith) e e′)

-- lines end where choices or answers do
pub lines_all : {A : Type 0} (k : ℕ) (ns : List ℕ) (rs : List (Result A Refusal)) → k ≡ min (length ns) (length rs) →
    choice_lines (take k ns) (take k rs) ≡ choice_lines ns rs
lines_all k [] rs e = let none : k ≡ 0 = omega arith in rw none refl
lines_all k (x ∷ ns) [] e = let none : k ≡ 0 = omega arith in rw none refl
lines_all zero (x ∷ ns) (y ∷ rs) e = absurd (omega arith)
lines_all (suc k) (x ∷ ns) (y ∷ rs) e = ap (λ bs. choice_line x y ++ bs) (lines_all k ns rs (omega arith))
