use Rattle.std.proofs.Common.{◌≡◌, ◌⊎◌, ℕ, None}
use Rattle.outside.proofs.tests.deliver_all.Given as goal

abbrev pub invariant-loop-delivered : goal.invariant-loop-delivered
invariant-loop-delivered g l = (n : ℕ) → (g.O.Outside.waits l.outside n ≡ None) ⊎ (g.O.Outside.waits l.outside n ≡ g.O.Outside.waits l.fn.outside n)
