-- The depth of a recursion on rows never shows.
use Rattle.std.proofs.Common.{◌≡◌, ℕ, zero, suc, ◌<◌, Bool, true, false, cond, ltb, refl, ap, arith, ltb-true}
use mathlib.Core.Path.{fun_ext}
use Rattle.syntax.specs.Descent.{below, descend_to, descend}

module _ {A : Type 0} (none : A) (step : ℕ → (ℕ → A) → A) where
  -- what lower rows have is the same, if it is the same at each of them
  below_same : (row : ℕ) (f g : ℕ → A) → ((n : ℕ) → n < row → f n ≡ g n) → below none row f ≡ below none row g
  below_same row f g same = fun_ext (λ n. go n (ltb n row) refl)
    where
      go : (n : ℕ) (b : Bool) → ltb n row ≡ b → cond b (f n) none ≡ cond b (g n) none
      go n true e = same n (ltb-true n row e)
      go n false e = refl

  depths_agree : (d d' row : ℕ) → row < d → row < d' → descend_to none step d row ≡ descend_to none step d' row
  unfolding descend_to
  depths_agree zero d' row lt lt' = absurd (omega arith)
  depths_agree (suc d) zero row lt lt' = absurd (omega arith)
  depths_agree (suc d) (suc d') row lt lt' =
      ap (step row) (below_same row (descend_to none step d) (descend_to none step d') (λ n less. depths_agree d d' n (omega arith) (omega arith)))

  -- what a row has is made from what the lower rows have
  pub descend_step : (row : ℕ) → descend none step row ≡ step row (below none row (descend none step))
  unfolding descend_to descend
  descend_step row = ap (step row) (below_same row (descend_to none step row) (descend none step) (λ n less. depths_agree row (suc n) n less (omega arith)))
