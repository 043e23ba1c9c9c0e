-- What lies in the range of a row that breaks no rule is held by that row.
use Rattle.std.proofs.Common.{◌≡◌, ℕ, zero, suc, ◌+◌, ◌-◌, ◌<◌, ◌≤◌, Bool, true, false, ltb, List, [], ◌∷◌, length, get_or, Some, None, Option, refl, sym, ap, ◌∙◌, inl, inr, arith, ltb-true, leb-true}
use Rattle.std.proofs.lemmas.Bool.{and_parts, cases_Bool, eqb-true, not-false}
use Rattle.std.proofs.lemmas.List.FromFn.{get_or-map-range_with_len, length-map-range_with_len}
use Rattle.std.proofs.lemmas.Option.{none-some, slice_get_within, slice_get-get_or}
use Rattle.std.specs.List.{slice_get}
use Rattle.tables.specs.declared.place.Place.{Place}
use Rattle.tables.specs.declared.place.Table.{Table}
use Rattle.rules.specs.Words.{part, past_end}
use Rattle.rules.proofs.Rows.{known, any_kept, part_row}
use Rattle.placement.specs.Holders.{Holders, place, first_row, in_range, extent, holders}
use Rattle.placement.specs.Placement.{elsewhere, overlaps}

pub range_parts : (k first count : ℕ) → in_range k first count ≡ true → (first ≤ k) × (k < first + count)
range_parts k first count e =
    let p = and_parts _ _ e in
    (leb-true first k p.0, ltb-true k (first + count) p.1)

-- a range that does not pass the end is there whole
pub whole_extent : {A : Type 0} (first count : ℕ) (xs : List A) → past_end first count xs ≡ false → extent first count (length xs) ≡ count
whole_extent first count xs e = rw e

-- a row that passes a test has a first one that does
first_there : {A : Type 0} (test : A → Bool) (table : Table) (r : ℕ) (xs : List A) (j : ℕ) (x : A) → slice_get xs j ≡ Some x → test x ≡ true →
    (p : Place) × (first_row test table r xs ≡ Some p)
first_there test table r [] j x e hit = absurd (none-some x e)
first_there test table r (y ∷ ys) zero x e hit =
    let same : y ≡ x = cc in
    (place table r, rw (same, hit) refl)
first_there test table r (y ∷ ys) (suc j) x e hit = elim (cases_Bool (test y)) [
  | inl first ↦ (place table r, rw first refl)
  | inr later ↦ (let p = first_there test table (r + 1) ys j x e hit in (p.0, rw later p.1))
]

-- the first one is there, and passes
first_named : {A : Type 0} (test : A → Bool) (table : Table) (r : ℕ) (xs : List A) (p : Place) → first_row test table r xs ≡ Some p →
    (i : ℕ) × (x : A) × (p.row ≡ r + i) × (slice_get xs i ≡ Some x) × (test x ≡ true)
first_named test table r [] p e = absurd (none-some p e)
first_named test table r (y ∷ ys) p e = elim (cases_Bool (test y)) [
  | inl first ↦ (
      let same : place table r ≡ p = known (rw first at e) in
      (0, y, ap (λ (z : Place). z.row) (sym same) ∙ omega arith, refl, first)
      )
  | inr later ↦ (
      let q = first_named test table (r + 1) ys p (rw later at e) in
      (suc q.0, q.1, q.2 ∙ omega arith, q.3, q.4)
      )
]

-- no less than the range is there of it
pub in_extent : (k first count n : ℕ) → in_range k first (extent first count n) ≡ true → in_range k first count ≡ true
in_extent k first count n e = elim (cases_Bool (ltb n (first + count))) [
  | inl past ↦ (let p = range_parts k first 0 (rw past at e) in absurd (omega arith))
  | inr there ↦ rw there at e
]

here : (by p : Place) → elsewhere by (Some p) ≡ false → p.row ≡ by.row
here by p e = eqb-true p.row by.row (and_parts _ _ (not-false _ e)).1

-- who holds the things of a table, by the rows of another, of which the one at `j` names a range
module _ {A B : Type 0} (xs : List A) (ys : List B) (names : ℕ → B → Bool) (table : Table) where
  abbrev held : Holders
  held = holders (λ k. first_row (names k) table 0 ys) xs

  held_at : (k : ℕ) (x : A) → slice_get xs k ≡ Some x → get_or held k None ≡ first_row (names k) table 0 ys
  held_at k x e = get_or-map-range_with_len (λ k. first_row (names k) table 0 ys) 0 (length xs) k k None (slice_get_within xs k x e) (omega arith)

  pub owned : (k : ℕ) (x : A) (j : ℕ) (y : B) (first count : ℕ) → slice_get xs k ≡ Some x → slice_get ys j ≡ Some y → names k y ≡ true →
      in_range k first count ≡ true → overlaps held (place table j) first count ≡ false → (p : Place) × (get_or held k None ≡ Some p) × (p.row ≡ j)
  owned k x j y first count there row named inside own =
      let p = first_there (names k) table 0 ys j y row named in
      let at = held_at k x there ∙ p.1 in
      let r = range_parts k first count inside in
      let long = length-map-range_with_len (λ k. first_row (names k) table 0 ys) 0 (length xs) in
      let within = slice_get_within xs k x there in
      let found : slice_get held k ≡ Some (Some p.0) = slice_get-get_or held k None (omega arith) ∙ ap (λ (o : Option Place). Some o) at in
      (p.0, at, here (place table j) p.0 (any_kept (elsewhere (place table j)) (part first count held) (k - first) (Some p.0) own (part_row held first count k r.0 r.1 ∙ found)))

  -- and a thing that is held is in the range of the row that holds it
  pub owner : (k : ℕ) (x : A) (p : Place) → slice_get xs k ≡ Some x → get_or held k None ≡ Some p → (y : B) × (slice_get ys p.row ≡ Some y) × (names k y ≡ true)
  owner k x p there at =
      let r = first_named (names k) table 0 ys p (sym (held_at k x there) ∙ at) in
      let row : 0 + r.0 ≡ r.0 = omega arith in
      (r.1, ap (slice_get ys) (r.2 ∙ row) ∙ r.3, r.4)
