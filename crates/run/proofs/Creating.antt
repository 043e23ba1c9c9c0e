-- The rules of new objects, by the group of the object.
use Rattle.std.proofs.Common.{◌≡◌, ℕ, ◌+◌, Bool, true, false, List, length, Option, refl}
use Rattle.tables.specs.Layout.{Content}
use Rattle.syntax.specs.declared.statements.Group.{Group}
use Rattle.syntax.specs.declared.statements.Group.TheVariants as group
use Rattle.evaluation.specs.declared.value.Value.{Value}
use Rattle.evaluation.specs.declared.value.Value.TheVariants as value
use Rattle.steps.specs.declared.records.CallRecord.{CallRecord}
use Rattle.steps.specs.Changes.{at_statement, with_target}
use Rattle.steps.specs.Configurations.{Configuration, group_of}
use Rattle.steps.specs.Creating.{new_by}
use Rattle.run_state.specs.Changes.{with_object_made}

pub new_by_is : (m : Content) (c : Configuration) (n : ℕ) (x : CallRecord) (g : Group) (outside : Bool) (d : Configuration) (class : ℕ) (fields : List Value) (target : Option ℕ) (next : ℕ) →
    new_by m c n x g outside d class fields target next ≡
    with_target (with_object_made d class (group_of d x.object) g outside fields) n (at_statement x next) target (value.Object (length d.objects + 1))
new_by_is m c n x g true d class fields target next = refl
new_by_is m c n x group.Own false d class fields target next = refl
new_by_is m c n x group.New false d class fields target next = refl
