-- Configurations: what a run holds at a moment.
use Rattle.std.specs.Prelude.{ℕ, zero, suc, Bool, false, List, [], Some, None, Option, ◌==◌}
use Rattle.std.specs.List.{slice_get}
use Rattle.tables.specs.declared.rows.ClassRow.{ClassRow}
use Rattle.tables.specs.declared.rows.MethodRow.{MethodRow}
use Rattle.tables.specs.Layout.{Content}
use Rattle.syntax.specs.declared.statements.Statement.{Statement}
use Rattle.syntax.specs.declared.types.ValueType.{ValueType}
use Rattle.syntax.specs.Rows.{given}
use Rattle.syntax.specs.Statements.{statement_of}
use Rattle.syntax.specs.Types.{type_at}
use Rattle.evaluation.specs.declared.value.Value.{Value}
use Rattle.evaluation.specs.Carried.{statement_environment}
use Rattle.evaluation.specs.Plans.{Environment}
use Rattle.evaluation.specs.Values.{Data}
use Rattle.steps.specs.declared.records.CallRecord.{CallRecord}
use Rattle.steps.specs.declared.records.ObjectRecord.{ObjectRecord}

-- The objects, the calls and the cells of a run; how many groups there are, how many returns were performed, and how many replies came.
pub record Configuration : Type 0 where
  pub objects : List ObjectRecord
  pub calls : List CallRecord
  pub cells : List Data
  pub groups : ℕ
  pub returned : ℕ
  pub answered : ℕ

-- Objects and calls have numbers from 1 on.
abbrev pub item_at : {A : Type 0} → List A → ℕ → Option A
item_at xs zero = None
item_at xs (suc n) = slice_get xs n

-- the object of a number, and the call of a number
abbrev pub object_at : Configuration → ℕ → Option ObjectRecord
object_at c n = item_at c.objects n

abbrev pub call_at : Configuration → ℕ → Option CallRecord
call_at c n = item_at c.calls n

-- the value of a call's future, if it is resolved
abbrev pub value_at : Configuration → ℕ → Option Value
value_at c f = given (call_at c f) (λ x. x.result)

-- the group of an object, if it has one
abbrev pub group_of : Configuration → ℕ → Option ℕ
group_of c o = given (object_at c o) (λ y. y.group)

-- two objects are in one group; those without a group are in none
abbrev pub same_group : Option ℕ → Option ℕ → Bool
same_group (Some a) (Some b) = a == b
same_group _ _ = false

-- the fields of an object that was looked up
abbrev pub fields_of : Option ObjectRecord → List Value
fields_of None = []
fields_of (Some o) = o.fields

-- What a call's expressions see: its slots, and from 128 on the fields of its object.
abbrev pub call_environment : Configuration → CallRecord → Environment
call_environment c x = statement_environment x.slots (fields_of (object_at c x.object))

module _ (m : Content) where
  -- the class of an object
  abbrev pub class_of : Configuration → ℕ → Option ClassRow
  class_of c o = given (object_at c o) (λ y. slice_get m.classes y.class)

  -- the method of a call
  abbrev pub method_of : CallRecord → Option MethodRow
  method_of x = slice_get m.methods x.method

  -- the type of the value of a call's future
  abbrev pub result_type : CallRecord → Option ValueType
  result_type x = given (method_of x) (λ y. type_at m y.result)

  -- the statement in a row
  abbrev pub statement_at : ℕ → Option Statement
  statement_at row = given (slice_get m.statements row) statement_of
