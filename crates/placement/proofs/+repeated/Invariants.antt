use Rattle.std.proofs.Common.{length}
use Rattle.placement.proofs.+repeated.Given as goal

abbrev pub decreases-repeated : goal.decreases-repeated
decreases-repeated l = length l.numbers.now
