-- Tables that counts within their limits cut are within theirs.
use Rattle.std.proofs.Common.{◌≡◌, ℕ, zero, suc, false, List, length, drop, None, refl, ap, inl, inr, arith}
use Rattle.std.proofs.lemmas.Bool.{cases_Bool, or_parts}
use Rattle.std.proofs.lemmas.Bool.Decides.{nat_tests}
use Rattle.tables.specs.declared.place.TableRule.TheVariants.{Length, Counts as CountsRule}
use Rattle.tables.specs.declared.tables.Counts.{Counts}
use Rattle.tables.specs.Layout.{over_limit, wrong_length, wrong_counts, header_counts, cut, content_of}
use Rattle.tables.specs.Limits.{IsWithinLimits}
use Rattle.tables.specs.Numbers.{numbers_of, rows_of}
use Rattle.tables.specs.Reading.{header_fault, header_verdict}
use Rattle.tables.proofs.First.{some_none}

rows_length : {R : Type 0} (width : ℕ) (spelled : List ℕ → R) (count : ℕ) (ns : List ℕ) → length (rows_of width spelled count ns) ≡ count
rows_length width spelled zero ns = refl
rows_length width spelled (suc count) ns = ap suc (rows_length width spelled count (drop width ns))

module _ (c : Counts) (kept : over_limit c ≡ false) where
  cut_limits : (ns : List ℕ) → IsWithinLimits (cut c ns)
  cut_limits ns = record {
    types = simp rows_length (grind (arith, nat_tests));
    lists = simp rows_length (grind (arith, nat_tests));
    constructors = simp rows_length (grind (arith, nat_tests));
    functions = simp rows_length (grind (arith, nat_tests));
    interfaces = simp rows_length (grind (arith, nat_tests));
    signatures = simp rows_length (grind (arith, nat_tests));
    classes = simp rows_length (grind (arith, nat_tests));
    methods = simp rows_length (grind (arith, nat_tests));
    nodes = simp rows_length (grind (arith, nat_tests));
    branches = simp rows_length (grind (arith, nat_tests));
    statements = simp rows_length (grind (arith, nat_tests));
  }

-- the tables behind a header that keeps its rules
pub within_limits : (bs : List ℕ) → header_verdict bs ≡ None → IsWithinLimits (content_of bs)
within_limits bs h = elim (cases_Bool (wrong_length bs)) [
  | inl wrong ↦ absurd (some_none (header_fault Length) (rw wrong at h))
  | inr right ↦ elim (cases_Bool (wrong_counts bs)) [
    | inl wrong ↦ absurd (some_none (header_fault CountsRule) (rw (right, wrong) at h))
    | inr counted ↦ cut_limits (header_counts bs) (or_parts (over_limit (header_counts bs)) _ counted).0 (numbers_of (drop 27 bs))
  ]
]
