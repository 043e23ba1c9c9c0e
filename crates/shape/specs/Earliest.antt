-- The earliest signature that some interface holds together with a given one.
use Rattle.std.specs.Prelude.{◌≡◌, ℕ, ◌+◌, ◌<◌, min, max, Bool, cond, ◌&&◌, List, length, fold, nat_eq, nat_le, nat_lt, slice_index}
use Rattle.tables.specs.declared.rows.InterfaceRow.{InterfaceRow}
use Rattle.tables.specs.Layout.{Content}

abbrev pub holds_row : ℕ → InterfaceRow → Bool
holds_row r i = nat_le i.first r && nat_lt r (i.first + i.count)

-- the lower of a row and the first of an interface, where that holds row `r`
abbrev pub lowered : ℕ → ℕ → InterfaceRow → ℕ
lowered r low i = cond (holds_row r i) (min low i.first) low

abbrev pub earliest_from : ℕ → ℕ → List InterfaceRow → ℕ
earliest_from low r is = fold (lowered r) low is

-- the later of an end and the interface's, where that begins with row `r`
abbrev pub later_end : ℕ → ℕ → InterfaceRow → ℕ
later_end r end i = cond (nat_eq i.first r) (max end (i.first + i.count)) end

-- where the longest interface that begins with row `r` ends, or `end` where that is later
abbrev pub latest_end : ℕ → ℕ → List InterfaceRow → ℕ
latest_end end r is = fold (later_end r) end is

-- for each signature, where the longest interface that begins with it ends; 0 where none begins with it
abbrev pub AreEnds : List ℕ → Content → Type 0
AreEnds ends m =
    (length ends ≡ length m.signatures)
    × ((r : ℕ) → r < length m.signatures → slice_index ends r ≡ latest_end 0 r m.interfaces)
