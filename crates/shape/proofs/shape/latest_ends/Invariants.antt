use Rattle.std.proofs.Common.{◌≡◌, ℕ, ◌<◌, length, drop, slice_index, vec_items}
use Rattle.tables.specs.Layout.{content}
use Rattle.shape.specs.Earliest.{latest_end}
use Rattle.shape.proofs.shape.latest_ends.Given as goal

-- the interfaces that are left raise each row's end to its latest
abbrev pub invariant-loop-interface : goal.invariant-loop-interface
invariant-loop-interface l =
    (length (vec_items l.ends) ≡ length (content l.t).signatures)
    × ((r : ℕ) → r < length (content l.t).signatures →
    latest_end (slice_index (vec_items l.ends) r) r (drop l.interface-index (content l.t).interfaces) ≡ latest_end 0 r (content l.t).interfaces)
