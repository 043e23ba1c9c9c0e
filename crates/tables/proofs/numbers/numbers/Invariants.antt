use Rattle.std.proofs.Common.{◌≡◌, ◌+◌, ◌/◌, ◌≤◌, ◌++◌, length, vec_items, vec_len, vec_capacity}
use Rattle.tables.specs.Numbers.{numbers_of}
use Rattle.tables.proofs.numbers.numbers.Given as goal

-- What is read and what is left are all that the bytes spell, and there is memory for what is left.
abbrev pub invariant-loop-left : goal.invariant-loop-left
invariant-loop-left l = record {
  spelled : vec_items l.numbers ++ numbers_of l.left ≡ numbers_of l.bytes;
  memory : vec_len l.numbers + length l.left / 2 ≤ vec_capacity l.numbers;
}

abbrev pub decreases-loop-left : goal.decreases-loop-left
decreases-loop-left l = length l.left
