-- What lasts of a configuration, whatever is chosen.
use Rattle.std.specs.Prelude.{◌≡◌, ℕ, Some}
use Rattle.evaluation.specs.declared.value.Value.{Value}
use Rattle.steps.specs.declared.records.CallRecord.{CallRecord}
use Rattle.steps.specs.declared.records.ObjectRecord.{ObjectRecord}
use Rattle.steps.specs.Configurations.{Configuration, call_at, object_at, value_at}

-- every call's object is there
abbrev pub HaveObjects : Configuration → Type 0
HaveObjects c = (n : ℕ) (x : CallRecord) → call_at c n ≡ Some x → (o : ObjectRecord) × (object_at c x.object ≡ Some o)

-- A future that has a value keeps it.
abbrev pub KeepsValues : Configuration → Configuration → Type 0
KeepsValues c d = (f : ℕ) (v : Value) → value_at c f ≡ Some v → value_at d f ≡ Some v

-- one call, at two moments
pub record IsSameCall (x y : CallRecord) : Type 0 where
  pub object : y.object ≡ x.object
  pub method : y.method ≡ x.method
  pub caller : y.caller ≡ x.caller

-- one object, at two moments
pub record IsSameObject (o p : ObjectRecord) : Type 0 where
  pub class : p.class ≡ o.class
  pub group : p.group ≡ o.group

-- A number that is in use stays that of the same call, or of the same object.
pub record KeepsIdentities (c d : Configuration) : Type 0 where
  pub calls : (n : ℕ) (x : CallRecord) → call_at c n ≡ Some x → (y : CallRecord) × (call_at d n ≡ Some y) × IsSameCall x y
  pub objects : (n : ℕ) (o : ObjectRecord) → object_at c n ≡ Some o → (p : ObjectRecord) × (object_at d n ≡ Some p) × IsSameObject o p
