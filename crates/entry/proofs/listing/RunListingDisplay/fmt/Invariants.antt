use Rattle.std.proofs.Common.{length, take, vec_items}
use Rattle.std.specs.Fmt.{HasWritten, IsPlainFormatter}
use Rattle.entry.specs.Listings.{choice_lines}
use Rattle.entry.proofs.listing.RunListingDisplay.fmt.Given as goal

-- The lines of the choices that were gone through are written.
abbrev pub invariant-loop-choice : goal.invariant-loop-choice
invariant-loop-choice g l =
    IsPlainFormatter l.initial.f → HasWritten g.W.Write.write_str_gives l.initial.f
    (choice_lines (take (length l.yielded) (vec_items l.self.choices)) (take (length l.yielded) (vec_items l.self.run.answers))) l.f
