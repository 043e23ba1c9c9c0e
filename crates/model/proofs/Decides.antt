-- The header's rules come first, and no row breaks one of them; then the rules of the tables decide, one after another.
use Rattle.std.proofs.Common.{◌≡◌, ℕ, Bool, true, false, cond, not, List, is_some, Some, None, Ok, Err, Option, Result, sym, refl, ap, ◌∙◌, inl, inr, lit≤}
use Rattle.std.proofs.lemmas.Bool.{both_ways}
use Rattle.tables.specs.declared.place.Fault.{Fault}
use Rattle.tables.specs.declared.place.Table.{Table}
use Rattle.tables.specs.declared.place.Table.TheVariants as table
use Rattle.tables.specs.declared.place.TableRule.{TableRule}
use Rattle.tables.specs.declared.place.TableRule.TheVariants.{Length, Counts, Range, Placement, Shape, Method}
use Rattle.tables.specs.declared.check.CheckError.{CheckError}
use Rattle.tables.specs.declared.check.CheckError.TheVariants.{NoMemory, Refused}
use Rattle.tables.specs.declared.tables.Tables.{Tables}
use Rattle.tables.specs.Layout.{Content, wrong_length, wrong_counts, content, content_of}
use Rattle.tables.specs.Least.{or_else, under_rule, verdict_of, Judges}
use Rattle.tables.specs.Limits.{IsWithinLimits}
use Rattle.tables.specs.Places.{rule_number}
use Rattle.tables.specs.Reading.{header_fault, header_verdict, Reads}
use Rattle.tables.proofs.First.{In, Rising, some_none}
use Rattle.tables.proofs.Least.{none_rule, judges}
use Rattle.tables.proofs.Limits.{within_limits}
use Rattle.model.specs.Reading.{Checks, JudgesBytes, table_faults}
use Rattle.model.specs.Rules.{at_header, all_rules, judged_with, case_of, verdict_in, keeps_rules}

sound_header : (t : Table) → at_header false t ≡ false
sound_header table.Header = refl
sound_header table.Types = refl
sound_header table.Lists = refl
sound_header table.Constructors = refl
sound_header table.Functions = refl
sound_header table.Interfaces = refl
sound_header table.Signatures = refl
sound_header table.Classes = refl
sound_header table.Methods = refl
sound_header table.Nodes = refl
sound_header table.Branches = refl
sound_header table.Statements = refl

module _ (m : Content) where
  sound_length : (counts : Bool) → under_rule (judged_with false counts m) Length ≡ None
  sound_length counts = none_rule (judged_with false counts m) Length (λ t r lt hit. both_ways (at_header false t) (sound_header t) hit)

  sound_counts : (length : Bool) → under_rule (judged_with length false m) Counts ≡ None
  sound_counts length = none_rule (judged_with length false m) Counts (λ t r lt hit. both_ways (at_header false t) (sound_header t) hit)

  -- what decides, by the header's length and counts
  length_decides : (counts : Bool) → verdict_of (judged_with true counts m) ≡ Some (header_fault Length)
  length_decides counts = refl

  counts_decide : verdict_of (judged_with false true m) ≡ Some (header_fault Counts)
  counts_decide = rw (sound_length true)

  tables_decide : verdict_of (judged_with false false m) ≡ table_faults m
  tables_decide =
      ap (λ (v : Option (Fault TableRule)). or_else v (or_else (under_rule (judged_with false false m) Counts) (table_faults m))) (sound_length false)
      ∙ ap (λ (v : Option (Fault TableRule)). or_else v (table_faults m)) (sound_counts false)

  by_header : (length counts : Bool) →
      verdict_of (judged_with length counts m) ≡ cond length (Some (header_fault Length)) (cond counts (Some (header_fault Counts)) (table_faults m))
  by_header true counts = length_decides counts
  by_header false true = counts_decide
  by_header false false = tables_decide

-- the verdict of bytes by that of their header
decided : (bs : List ℕ) → verdict_in bs ≡ or_else (header_verdict bs) (table_faults (content_of bs))
unfolding verdict_in
decided bs = by_header (content_of bs) (wrong_length bs) (wrong_counts bs) ∙ go (wrong_length bs) (wrong_counts bs)
  where
    go : (length counts : Bool) →
        cond length (Some (header_fault Length)) (cond counts (Some (header_fault Counts)) (table_faults (content_of bs)))
        ≡ or_else (cond length (Some (header_fault Length)) (cond counts (Some (header_fault Counts)) None)) (table_faults (content_of bs))
    go true counts = refl
    go false true = refl
    go false false = refl

pub header_decides : (bs : List ℕ) (f : Fault TableRule) → header_verdict bs ≡ Some f → verdict_in bs ≡ Some f
header_decides bs f h = decided bs ∙ ap (λ (v : Option (Fault TableRule)). or_else v (table_faults (content_of bs))) h

-- the verdict of bytes whose tables were judged
pub checked : (bs : List ℕ) (m : Content) (v : Option (Fault TableRule)) → (header_verdict bs ≡ None) × (m ≡ content_of bs) → v ≡ table_faults m → verdict_in bs ≡ v
checked bs m v read e =
    decided bs ∙ ap (λ (h : Option (Fault TableRule)). or_else h (table_faults (content_of bs))) read.0 ∙ sym (e ∙ ap table_faults read.1)

pub unread : (bs : List ℕ) (e : CheckError TableRule) → Reads bs (Err e) → Checks bs (Err e)
unread bs NoMemory h = tt
unread bs (Refused f) h = header_decides bs f h

pub rules_complete : (rule : TableRule) → In rule all_rules
rules_complete Length = inl refl
rules_complete Counts = inr (inl refl)
rules_complete Range = inr (inr (inl refl))
rules_complete Placement = inr (inr (inr (inl refl)))
rules_complete Shape = inr (inr (inr (inr (inl refl))))
rules_complete Method = inr (inr (inr (inr (inr (inl refl)))))

pub rules_rising : Rising rule_number 0 all_rules
rules_rising = (lit≤ tt, (lit≤ tt, (lit≤ tt, (lit≤ tt, (lit≤ tt, (lit≤ tt, tt))))))

-- a verdict that is the defined one is the least fault
judged_by : (bs : List ℕ) (v : Option (Fault TableRule)) → verdict_in bs ≡ v → Judges rule_number (case_of bs) v
unfolding verdict_in
judged_by bs v e = judges rule_number (case_of bs) rules_complete rules_rising v (sym e)

pub judge_bytes : (bs : List ℕ) (r : Result Tables (CheckError TableRule)) → Checks bs r → JudgesBytes bs r
judge_bytes bs (Ok t) h = judged_by bs None h.0
judge_bytes bs (Err (Refused f)) h = judged_by bs (Some f) h
judge_bytes bs (Err NoMemory) h = tt

-- bytes that pass have a header that keeps its rules
header_keeps : (bs : List ℕ) → verdict_in bs ≡ None → header_verdict bs ≡ None
header_keeps bs none = by (header_verdict bs) refl
  where
    by : (v : Option (Fault TableRule)) → header_verdict bs ≡ v → header_verdict bs ≡ None
    by (Some f) e = absurd (some_none f (sym (header_decides bs f e) ∙ none))
    by None e = e

-- the tables of bytes that pass keep every rule by themselves
pub tables_keep : (bs : List ℕ) (t : Tables) → Checks bs (Ok t) → keeps_rules (content t) ≡ true
unfolding keeps_rules
tables_keep bs t h = ap (λ (v : Option (Fault TableRule)). not (is_some v)) (tables_decide (content t) ∙ none)
  where
    none : table_faults (content t) ≡ None
    none =
        ap table_faults h.1
        ∙ sym (ap (λ (v : Option (Fault TableRule)). or_else v (table_faults (content_of bs))) (header_keeps bs h.0)) ∙ sym (decided bs) ∙ h.0

-- and their limits
pub tables_limited : (bs : List ℕ) (t : Tables) → Checks bs (Ok t) → IsWithinLimits (content t)
tables_limited bs t h = rw h.1 (within_limits bs (header_keeps bs h.0))
