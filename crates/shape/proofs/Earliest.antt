-- The earliest signature that an interface holds together with a given one, found from where the interfaces end.
use Rattle.std.proofs.Common.{◌≡◌, ℕ, ◌+◌, ◌≤◌, ◌<◌, List, [], ◌∷◌, length, slice_index, inl, inr, arith}
use Rattle.std.proofs.lemmas.Bool.{cases_lt}
use Rattle.tables.specs.declared.rows.InterfaceRow.{InterfaceRow}
use Rattle.tables.specs.Layout.{Content}
use Rattle.shape.specs.Earliest.{lowered, earliest_from, later_end, latest_end, AreEnds}

not_raised : (r low : ℕ) (i : InterfaceRow) → lowered r low i ≤ low
not_raised r low i = grind arith

-- the earliest is not behind the row
pub not_behind : (low r : ℕ) (is : List InterfaceRow) → earliest_from low r is ≤ low
not_behind low r [] = omega arith
not_behind low r (i ∷ is) = omega (arith, not_raised r low i, not_behind (lowered r low i) r is)

-- an interface that begins with `p` and ends behind the row holds both
not_later : (low p r end : ℕ) (is : List InterfaceRow) → p ≤ r → (r < end → low ≤ p) → r < latest_end end p is → earliest_from low r is ≤ p
not_later low p r end [] le low-end lt = low-end lt
not_later low p r end (i ∷ is) le low-end lt = not_later (lowered r low i) p r (later_end p end i) is le (λ less. grind arith) lt

-- with the earliest begins an interface that ends behind the row
ends_behind : (low p r end : ℕ) (is : List InterfaceRow) → (low ≡ p → r < end) → earliest_from low r is ≡ p → r < latest_end end p is
ends_behind low p r end [] low-end e = low-end e
ends_behind low p r end (i ∷ is) low-end e = ends_behind (lowered r low i) p r (later_end p end i) is (λ same. grind arith) e

-- the earliest of the next row is not before that of this one
pub moves_on : (low high r : ℕ) (is : List InterfaceRow) → low ≤ r → low ≤ high → earliest_from low r is ≤ earliest_from high (r + 1) is
moves_on low high r [] le less = less
moves_on low high r (i ∷ is) le less =
    moves_on (lowered r low i) (lowered (r + 1) high i) r is (omega (arith, not_raised r low i)) (grind arith)

module _ (ends : List ℕ) (m : Content) (held : AreEnds ends m) (p r : ℕ) (there : r < length m.signatures) (least : p ≤ earliest_from r r m.interfaces) where
  pub earliest_here : p ≤ r → r < slice_index ends p → p ≡ earliest_from r r m.interfaces
  earliest_here le behind =
      let end : r < latest_end 0 p m.interfaces = omega (arith, held.1 p (omega arith)) in
      omega (arith, not_later r p r 0 m.interfaces le (λ less. absurd (omega arith)) end)

  pub earliest_later : p < r → slice_index ends p ≤ r → p + 1 ≤ earliest_from r r m.interfaces
  earliest_later lt before =
      let end : latest_end 0 p m.interfaces ≤ r = omega (arith, held.1 p (omega arith)) in
      elim (cases_lt p (earliest_from r r m.interfaces)) [
        | inl less ↦ omega arith
        | inr not ↦ absurd (let behind = ends_behind r p r 0 m.interfaces (λ same. absurd (omega arith)) (omega arith) in omega arith)
      ]
