-- The account of a run.
use Rattle.std.specs.Prelude.{ℕ, ◌+◌, zero, suc, Bool, length, cond}
use Rattle.std.specs.List.{count_by}
use Rattle.steps.specs.Configurations.{Configuration}
use Rattle.steps.specs.States.{is_unfinished}

-- how many of the numbers from 1 to n pass
abbrev pub count_to : ℕ → (ℕ → Bool) → ℕ
count_to zero p = 0
count_to (suc n) p = cond (p (suc n)) 1 0 + count_to n p

-- the five numbers
pub record Account : Type 0 where
  pub calls : ℕ
  pub returned : ℕ
  pub answered : ℕ
  pub unfinished : ℕ
  pub waiting : ℕ

-- Calls, returns, replies, unfinished processes, and the calls from 1 to 128 that wait outside.
abbrev pub account : Configuration → (waiting : ℕ → Bool) → Account
account c waiting = record {
  calls = length c.calls;
  returned = c.returned;
  answered = c.answered;
  unfinished = count_by (λ x. is_unfinished x.state) c.calls;
  waiting = count_to 128 waiting;
}
