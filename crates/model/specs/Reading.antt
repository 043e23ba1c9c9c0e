-- What the check of a model's bytes answers, and what reading them makes.
use Rattle.std.specs.Prelude.{◌≡◌, ℕ, false, List, [], ◌∷◌, Some, None, Ok, Err, vec_items, Option, Result, Vec}
use Rattle.std.specs.declared.alloc.Global.{Global}
use Rattle.tables.specs.declared.check.CheckError.{CheckError}
use Rattle.tables.specs.declared.check.CheckError.TheVariants.{NoMemory, Refused}
use Rattle.tables.specs.declared.place.Fault.{Fault}
use Rattle.tables.specs.declared.place.TableRule.{TableRule}
use Rattle.tables.specs.declared.place.TableRule.TheVariants.{Range, Placement, Shape, Method}
use Rattle.tables.specs.declared.tables.Tables.{Tables}
use Rattle.tables.specs.Layout.{Content, content, content_of}
use Rattle.tables.specs.Least.{first_in, under_rule, Judges}
use Rattle.tables.specs.Places.{rule_number}
use Rattle.model.specs.declared.model.ReadModel.{ReadModel}
use Rattle.model.specs.Rules.{judged_with, case_of, verdict_in}

-- The first fault of tables, rule by rule.
abbrev pub table_faults : Content → Option (Fault TableRule)
table_faults m = first_in (under_rule (judged_with false false m)) (Range ∷ Placement ∷ Shape ∷ Method ∷ [])

-- The tables that the bytes spell where no rule is broken, else the least fault; want of memory says nothing of the bytes.
abbrev pub Checks : List ℕ → Result Tables (CheckError TableRule) → Type 0
Checks bs (Ok t) = (verdict_in bs ≡ None) × (content t ≡ content_of bs)
Checks bs (Err (Refused f)) = verdict_in bs ≡ Some f
Checks bs (Err NoMemory) = Unit {0}

-- A fault that is told is broken, and no rule is broken at a lower place; the bytes pass exactly if no rule is broken anywhere.
abbrev pub JudgesBytes : {A : Type 0} → List ℕ → Result A (CheckError TableRule) → Type 0
JudgesBytes bs (Ok t) = Judges rule_number (case_of bs) None
JudgesBytes bs (Err (Refused f)) = Judges rule_number (case_of bs) (Some f)
JudgesBytes bs (Err NoMemory) = Unit {0}

abbrev pub ReadsModel : Vec ℕ Global → Result ReadModel (CheckError TableRule) → Type 0
ReadsModel bytes (Ok m) = (verdict_in (vec_items bytes) ≡ None) × (m.bytes ≡ bytes) × (content m.tables ≡ content_of (vec_items bytes))
ReadsModel bytes (Err (Refused f)) = verdict_in (vec_items bytes) ≡ Some f
ReadsModel bytes (Err NoMemory) = Unit {0}
