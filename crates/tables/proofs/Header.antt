-- A header that keeps its rules, and the numbers behind it.
use Rattle.std.proofs.Common.{◌≡◌, ℕ, ◌+◌, ◌-◌, ◌*◌, true, false, eqb, List, length, take, drop, None, sym, arith, length-drop}
use Rattle.std.proofs.lemmas.List.{take_rest}
use Rattle.std.proofs.lemmas.Bool.{eq-eqb}
use Rattle.tables.specs.declared.tables.Counts.{Counts}
use Rattle.tables.specs.Numbers.{numbers_of}
use Rattle.tables.specs.Layout.{Content, cells_of, over_limit, wrong_length, header_counts, cut, content_of}
use Rattle.tables.specs.Reading.{header_verdict}
use Rattle.tables.proofs.Steps.{numbers_length}

-- the numbers behind the header are as many as the rows need
pub enough : (bs : List ℕ) (k : ℕ) → 27 + 2 * k ≡ length bs → length (numbers_of (take (length bs - 27) (drop 27 bs))) ≡ k
enough bs k fill = rw (take_rest bs 27) (numbers_length (drop 27 bs) k (simp length-drop (omega arith)))

pub keeps : (bs : List ℕ) (c : Counts) → false ≡ wrong_length bs → c ≡ header_counts bs → false ≡ over_limit c →
    27 + 2 * cells_of c ≡ length bs → header_verdict bs ≡ None
keeps bs c length-kept e limits fill =
    let limits-kept : over_limit (header_counts bs) ≡ false = rw e at (sym limits) in
    let filled : eqb (27 + 2 * cells_of (header_counts bs)) (length bs) ≡ true = eq-eqb _ _ (rw e at fill) in
    rw (sym length-kept, limits-kept, filled)

pub whole : (bs : List ℕ) (c : Counts) (t : Content) → c ≡ header_counts bs →
    t ≡ cut c (numbers_of (take (length bs - 27) (drop 27 bs))) → t ≡ content_of bs
whole bs c t e h = rw (e, take_rest bs 27) at h
