-- Definitions by recursion on the number of a row, which look at lower rows only.
use Rattle.std.specs.Prelude.{ℕ, zero, suc, cond, nat_lt}

-- what a lower row has, and nothing at any other row
abbrev pub below : {A : Type 0} → (none : A) (row : ℕ) → (ℕ → A) → ℕ → A
below none row f n = cond (nat_lt n row) (f n) none

-- `step` makes what a row has from what the lower rows have; a depth above the row's number suffices
unfoldable pub descend_to : {A : Type 0} → (none : A) → (ℕ → (ℕ → A) → A) → (depth row : ℕ) → A
descend_to none step zero row = none
descend_to none step (suc depth) row = step row (below none row (descend_to none step depth))

-- what a row has, made from what the lower rows have
unfoldable pub descend : {A : Type 0} → (none : A) → (ℕ → (ℕ → A) → A) → (row : ℕ) → A
descend none step row = descend_to none step (suc row) row
