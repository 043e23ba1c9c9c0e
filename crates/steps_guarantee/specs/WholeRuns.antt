-- Whole runs: opened, led through a list of choices, and closed.
use Rattle.std.specs.Prelude.{◌≡◌, ℕ, List}
use Rattle.tables.specs.Layout.{Content}
use Rattle.outside.specs.declared.outside.Outside.{Ghosts}
use Rattle.steps.specs.Account.{Account}
use Rattle.steps.specs.Histories.{Answer, History, Linked, answers_in, choices_in, first, now}
use Rattle.steps_guarantee.specs.Guarantee.{Guarantee}
use Rattle.steps_guarantee.specs.Numbers.{numbers_of}

-- There is a history that is linked, that began over the outside `o`, with these choices and answers, and that ended over the outside `o′`; the
-- account has the numbers that are counted in it; and it is as guaranteed.
pub record WholeRun {O : Type 0} (g : Ghosts O) (m : Content) (o : O) (choices : List ℕ) (answers : List Answer) (account : Account) (o′ : O) : Type 0 where
  pub history : History O
  pub linked : Linked g m history
  pub begins : (first history).outside ≡ o
  pub chooses : choices_in history ≡ choices
  pub tells : answers_in history ≡ answers
  pub ends : (now history).outside ≡ o′
  pub accounts : account ≡ numbers_of g m history
  pub guaranteed : Guarantee g m history
