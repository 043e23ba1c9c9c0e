-- Loading: all rules of a model, those of the tables and then those of typing, and what loading answers.
use Rattle.std.specs.Prelude.{◌≡◌, ℕ, Bool, List, [], ◌++◌, map, Some, None, Ok, Err, vec_items, Result}
use Rattle.tables.specs.declared.place.Fault.{Fault}
use Rattle.tables.specs.declared.place.Table.{Table}
use Rattle.tables.specs.declared.place.TableRule.{TableRule}
use Rattle.tables.specs.Layout.{content, content_of}
use Rattle.tables.specs.Least.{Case, fault, Judges}
use Rattle.tables.specs.Places.{rule_number}
use Rattle.rules.specs.Faults.{places}
use Rattle.model.specs.Rules.{all_rules, case_of, verdict_in}
use Rattle.typing.specs.declared.rule.TypingRule.{TypingRule}
use Rattle.typing.specs.Typing.{typing_number, typing_case, typing_verdict}
use Rattle.loading.specs.declared.accepted.AcceptedModel.{AcceptedModel}
use Rattle.loading.specs.declared.load.LoadError.{LoadError}
use Rattle.loading.specs.declared.load.LoadError.TheVariants.{NoMemory, Refused}
use Rattle.loading.specs.declared.load.LoadFault.{LoadFault}
use Rattle.loading.specs.declared.load.LoadFault.TheVariants.{Reading, Typing}

-- A rule of a model: one of the tables, or one of typing.
pub data ModelRule : Type 0 where
  of_tables : TableRule → ModelRule
  of_typing : TypingRule → ModelRule

-- the number under which a breach is reported
abbrev pub model_number : ModelRule → ℕ
model_number (of_tables r) = rule_number r
model_number (of_typing r) = typing_number r

-- which place of a model breaks which rule
abbrev pub model_broken : List ℕ → ModelRule → Table → ℕ → Bool
model_broken bs (of_tables r) = (case_of bs).broken r
model_broken bs (of_typing r) = (typing_case (content_of bs)).broken r

-- all rules, in the order of their numbers
abbrev pub model_rules : List ModelRule
model_rules = map of_tables all_rules ++ map of_typing (typing_case (content_of [])).rules

-- A model's bytes, as they are judged by all rules.
abbrev pub model_case : List ℕ → Case ModelRule
model_case bs = record { rules = model_rules; rows = places (content_of bs); broken = model_broken bs }

-- A loading fault is a reading or a typing fault, whole: its rule, its table and its row.
abbrev pub whole_fault : LoadFault → Fault ModelRule
whole_fault (Reading f) = fault (of_tables f.rule) f.table f.row
whole_fault (Typing f) = fault (of_typing f.rule) f.table f.row

-- the number of the rule that a fault names
abbrev pub fault_number : LoadFault → ℕ
fault_number f = model_number (whole_fault f).rule

-- The first fault of the tables, else the first of typing.
abbrev pub LoadRefuses : List ℕ → LoadFault → Type 0
LoadRefuses bs (Reading f) = verdict_in bs ≡ Some f
LoadRefuses bs (Typing f) = (verdict_in bs ≡ None) × (typing_verdict (content_of bs) ≡ Some f)

-- The accepted model of these bytes where no rule is broken, else the fault; want of memory says nothing of the bytes.
abbrev pub Loads : List ℕ → Result AcceptedModel LoadError → Type 0
Loads bs (Ok a) =
    (verdict_in bs ≡ None) × (typing_verdict (content_of bs) ≡ None)
    × (vec_items a.model.bytes ≡ bs) × (content a.model.tables ≡ content_of bs)
Loads bs (Err (Refused f)) = LoadRefuses bs f
Loads bs (Err NoMemory) = Unit {0}

-- A fault that is told is broken, and no rule is broken at a lower place; bytes are accepted exactly if no rule is broken anywhere.
abbrev pub JudgesModel : List ℕ → Result AcceptedModel LoadError → Type 0
JudgesModel bs (Ok a) = Judges model_number (model_case bs) None
JudgesModel bs (Err (Refused f)) = Judges model_number (model_case bs) (Some (whole_fault f))
JudgesModel bs (Err NoMemory) = Unit {0}
