-- New objects.
use Rattle.std.specs.Prelude.{ℕ, Bool, true, false, cond, List, length, Some, None, Err, Option, nat_lt}
use Rattle.std.specs.List.{slice_get}
use Rattle.tables.specs.declared.rows.ClassRow.{ClassRow}
use Rattle.tables.specs.Layout.{Content}
use Rattle.rules.specs.Words.{part}
use Rattle.shape.specs.Shape.{is_outside_class}
use Rattle.syntax.specs.declared.statements.Creation.{Creation}
use Rattle.syntax.specs.declared.statements.Group.{Group}
use Rattle.syntax.specs.declared.statements.Group.TheVariants as group
use Rattle.syntax.specs.Nodes.{parts}
use Rattle.evaluation.specs.declared.value.Value.{Value}
use Rattle.evaluation.specs.Rules.{all_of}
use Rattle.steps.specs.declared.records.CallRecord.{CallRecord}
use Rattle.steps.specs.declared.refusal.Refusal.TheVariants as refusal
use Rattle.steps.specs.Configurations.{Configuration, call_environment}
use Rattle.steps.specs.Defaults.{with_defaults}
use Rattle.steps.specs.Outcomes.{Outcome, not_there, on_answer, silent}
use Rattle.steps.specs.Rules as rule

module _ (m : Content) (c : Configuration) (n : ℕ) (x : CallRecord) where
  -- the rule of a new object of a class that is outside or not
  abbrev pub new_by : Group → (outside : Bool) → Configuration → (class : ℕ) (fields : List Value) (target : Option ℕ) (next : ℕ) → Configuration
  new_by g true d = rule.new_outside_object d n x
  new_by group.Own false d = rule.new_object d n x
  new_by group.New false d = rule.new_cog_object d n x

  -- The fields are the arguments, and then defaults. There are 64 objects at most.
  abbrev pub new_of_class : (target : Option ℕ) → Creation → (next : ℕ) → List Value → Configuration → Option ClassRow → Outcome
  new_of_class target e next vs d None = not_there
  new_of_class target e next vs d (Some k) =
      cond (nat_lt (length d.objects) 64)
      (silent (new_by e.group (is_outside_class k) d e.class (with_defaults m vs (part k.fields_first k.fields m.lists)) target next))
      (Err refusal.NoObjectLeft)

  -- a new object of a class
  abbrev pub new_step : (target : Option ℕ) → Creation → (next : ℕ) → Outcome
  new_step target e next =
      on_answer m c x (all_of (parts e.arguments) (call_environment c x)) (λ vs d. new_of_class target e next vs d (slice_get m.classes e.class))
