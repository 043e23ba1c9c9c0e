-- A name that an interface holds twice: one look at the rows from the earliest on answers for all interfaces.
use Rattle.std.proofs.Common.{◌≡◌, ℕ, ◌+◌, ◌-◌, ◌≤◌, ◌<◌, min, Bool, true, false, ◌||◌, eqb, ltb, leb, List, [], ◌∷◌, length, get_or, take, drop, Some, None, Option, sym, refl, ◌∙◌, inl, inr, arith}
use Rattle.std.proofs.lemmas.List.{drop-drop}
use Rattle.std.proofs.lemmas.List.Folds.{list_any-append}
use Rattle.std.proofs.Math.Seq.{take-add}
use Rattle.std.proofs.Math.Bool.{or-false}
use Rattle.std.proofs.lemmas.Bool.{cases_Bool, cases_lt, and_parts, leb-true}
use Rattle.std.specs.List.{list_any, slice_get}
use Rattle.tables.specs.declared.rows.InterfaceRow.{InterfaceRow}
use Rattle.tables.specs.declared.rows.SignatureRow.{SignatureRow}
use Rattle.tables.specs.declared.place.Table.TheVariants.{Signatures}
use Rattle.tables.specs.declared.place.TableRule.TheVariants.{Shape}
use Rattle.tables.specs.Layout.{Content}
use Rattle.tables.specs.Least.{fault, first_below}
use Rattle.rules.specs.Faults.{row_fault, places}
use Rattle.rules.specs.Words.{between, passes}
use Rattle.rules.proofs.Searches.{row_passes, row_breaks, unasked}
use Rattle.shape.specs.Earliest.{holds_row, earliest_from}
use Rattle.shape.specs.Shape.{shares_name, signature_shape, signature_fault, shape_broken}

-- Bools.
before : (a b : Bool) → (a || (b || a)) ≡ (b || a)
before a b = grind arith

behind : (a b : Bool) → ((a || b) || b) ≡ (a || b)
behind a b = grind arith

regroup : (share rest old new : Bool) → (share || old) ≡ new → ((share || rest) || old) ≡ (rest || new)
regroup share rest old new e = grind arith

-- the rows before a place between two others, and those from it on
apart : {A : Type 0} (p : A → Bool) (xs : List A) (a b r : ℕ) → a ≤ b → b ≤ r →
    list_any p (between a r xs) ≡ (list_any p (between a b xs) || list_any p (between b r xs))
apart p xs a b r ab br =
    let n : r - a ≡ (b - a) + (r - b) = omega arith in
    let m : a + (b - a) ≡ b = omega arith in
    rw (n, take-add (b - a) (r - b) (drop a xs), list_any-append p (take (b - a) (drop a xs)), drop-drop (b - a) a xs, m)

-- the rows from the lower of two places on
joined : {A : Type 0} (p : A → Bool) (xs : List A) (a b r : ℕ) → a ≤ r → b ≤ r →
    (list_any p (between a r xs) || list_any p (between b r xs)) ≡ list_any p (between (min b a) r xs)
joined p xs a b r ar br =
    elim (cases_lt b a) [
      | inl lt ↦ (
          let m : min b a ≡ b = omega arith in
          let le : b ≤ a = omega arith in
          rw (m, apart p xs b a r le ar) (before (list_any p (between a r xs)) (list_any p (between b a xs)))
          )
      | inr ge ↦ (
          let m : min b a ≡ a = omega arith in
          rw (m, apart p xs a b r ge br) (behind (list_any p (between a b xs)) (list_any p (between b r xs)))
          )
    ]

module _ (m : Content) (r : ℕ) (x : SignatureRow) where
  shared : (low : ℕ) (is : List InterfaceRow) → low ≤ r →
      (list_any (shares_name m r x) is || list_any (λ y. eqb y.name x.name) (between low r m.signatures))
      ≡ list_any (λ y. eqb y.name x.name) (between (earliest_from low r is) r m.signatures)
  shared low [] le = refl
  shared low (i ∷ is) le =
      elim (cases_Bool (holds_row r i)) [
        | inl holds ↦ (
            let first : i.first ≤ r = leb-true i.first r (and_parts (leb i.first r) (ltb r (i.first + i.count)) holds).0 in
            let lower : min low i.first ≤ r = omega arith in
            rw holds (regroup _ (list_any (shares_name m r x) is) _ _ (joined (λ y. eqb y.name x.name) m.signatures i.first low r first le)
            ∙ shared (min low i.first) is lower)
            )
        | inr not ↦ rw not (shared low is le)
      ]

  -- the rows that were looked at answer for all interfaces
  pub signature_judged : list_any (λ y. eqb y.name x.name) (between (earliest_from r r m.interfaces) r m.signatures) ≡ signature_shape m r x
  signature_judged =
      let none : r - r ≡ 0 = omega arith in
      sym (rw none at (shared r m.interfaces (omega arith))) ∙ or-false _

-- without interfaces no signature breaks the rule
never : {A : Type 0} (o : Option A) → passes o (λ x. false) ≡ false
never None = refl
never (Some x) = refl

pub unasked_signatures : (m : Content) → m.interfaces ≡ [] → None ≡ signature_fault m
unasked_signatures m e = unasked Shape (shape_broken m) (places m) Signatures (λ r. rw (e, never (slice_get m.signatures r)))

-- no signature before this row breaks the rule
abbrev pub NoneBefore : Content → ℕ → Type 0
NoneBefore m r = first_below (row_fault m.signatures (signature_shape m) Shape Signatures) r ≡ None

-- one signature, of which it is found whether one from the earliest on has its name
module _ (m : Content) (r first : ℕ) (found : Bool) (x : SignatureRow) (least : first ≡ earliest_from r r m.interfaces)
    (named : found ≡ list_any (λ y. eqb y.name x.name) (between first r m.signatures))
    (there : r < length m.signatures) (e : x ≡ get_or m.signatures r x) (none : NoneBefore m r) where
  judged : found ≡ signature_shape m r x
  judged = named ∙ rw least (signature_judged m r x)

  pub signature_passes : found ≡ false → NoneBefore m (r + 1)
  signature_passes miss = row_passes m.signatures (signature_shape m) (fault Shape Signatures) r x there e none (sym miss ∙ judged)

  pub signature_breaks : found ≡ true → Some (fault Shape Signatures r) ≡ signature_fault m
  signature_breaks hit = row_breaks m.signatures (signature_shape m) (fault Shape Signatures) r x there e none (sym hit ∙ judged)
