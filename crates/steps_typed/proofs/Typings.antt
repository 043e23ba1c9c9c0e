-- Types of objects, calls and makers over referents and cells: what holds of them lasts as the configuration grows.
use Rattle.std.specs.Prelude.{is_some, not, ◌≡◌, ℕ, false, true, List, Some, None, Option, ⊤}
use Rattle.std.specs.List.{slice_get}
use Rattle.tables.specs.declared.rows.ClassRow.{ClassRow}
use Rattle.tables.specs.declared.rows.MethodRow.{MethodRow}
use Rattle.tables.specs.Layout.{Content}
use Rattle.placement.specs.Holders.{in_range}
use Rattle.shape.specs.Shape.{is_outside_class}
use Rattle.syntax.specs.declared.statements.Call.{Call}
use Rattle.syntax.specs.declared.statements.Statement.TheVariants as statement
use Rattle.syntax.specs.declared.types.ValueType.{ValueType}
use Rattle.syntax.specs.Rows.{given}
use Rattle.syntax.specs.Types.{type_at}
use Rattle.typing.specs.Scopes.{declared, method_scope}
use Rattle.typing.specs.StatementLaws.{Takes}
use Rattle.typing.specs.Statements.{goes_on}
use Rattle.evaluation.specs.declared.value.Value.{Value}
use Rattle.evaluation.specs.Typed.{Referents, Has, CellsTyped}
use Rattle.evaluation.specs.Values.{Data}
use Rattle.steps.specs.declared.records.CallRecord.{CallRecord}
use Rattle.steps.specs.declared.records.ObjectRecord.{ObjectRecord}
use Rattle.steps.specs.Configurations.{Configuration, call_at, object_at, statement_at}
use Rattle.steps.specs.Sound.{referents, result_row}
use Rattle.steps.specs.States.{callee_of, is_outside, is_unfinished}
use Rattle.syntax.specs.Types.{is_plain_type}

module _ (m : Content) where
  -- the row of the type of the result of a call that may be there, and the class of an object that may be there
  abbrev pub row_of : Option CallRecord → Option ℕ
  row_of o = given o (result_row m)

  abbrev pub class_in : Option ObjectRecord → Option ClassRow
  class_in o = given o (λ y. slice_get m.classes y.class)

  module _ (known : Referents) (cells : List Data) where
    -- values of the types that the slots of a range are declared with
    pub record RangeTyped (vs : List Value) (first count : ℕ) : Type 0 where
      pub each : (i : ℕ) (t : ValueType) → declared m first count i ≡ Some t → (v : Value) × (slice_get vs i ≡ Some v) × Has m known cells v t

    -- An object's fields have the types that its class declares. It has a group exactly if its class is not outside.
    pub record ObjectTyped (o : ObjectRecord) : Type 0 where
      pub class : ClassRow
      pub there : slice_get m.classes o.class ≡ Some class
      pub fields : RangeTyped o.fields class.fields_first class.fields
      pub grouped : is_some o.group ≡ not (is_outside_class class)

    abbrev pub ResultTyped : MethodRow → Option Value → Type 0
    ResultTyped y None = ⊤
    ResultTyped y (Some v) = (t : ValueType) × (type_at m y.result ≡ Some t) × Has m known cells v t

    -- The object of a call has the method that is called. Slots and result have the types that the method declares. An unfinished
    -- process stands at a statement of the method, and the result of a call that is out is plain.
    pub record CallTyped (x : CallRecord) : Type 0 where
      pub class : ClassRow
      pub of_class : known.class_of x.object ≡ Some class
      pub method : MethodRow
      pub called : slice_get m.methods x.method ≡ Some method
      pub belongs : in_range x.method class.methods_first class.methods_count ≡ true
      pub slots : RangeTyped x.slots method.slots_first method.slots
      pub result : ResultTyped method x.result
      pub stands : is_unfinished x.state ≡ true → goes_on method x.statement ≡ true
      pub inside : is_unfinished x.state ≡ true → is_outside_class class ≡ false
      pub plain : is_outside x.state ≡ true → (t : ValueType) × (type_at m method.result ≡ Some t) × (is_plain_type t ≡ true)

  -- A maker stands at the call statement whose result it waits for, and the target there takes that.
  pub record MakerTyped (known : Referents) (x : CallRecord) (callee : ℕ) : Type 0 where
    pub target : Option ℕ
    pub call : Call
    pub next : ℕ
    pub stands : statement_at m x.statement ≡ Some (statement.Call target call next)
    pub class : ClassRow
    pub of_class : known.class_of x.object ≡ Some class
    pub method : MethodRow
    pub called : slice_get m.methods x.method ≡ Some method
    pub row : ℕ
    pub type : ValueType
    pub results : known.result_of callee ≡ Some row
    pub typed : type_at m row ≡ Some type
    pub takes : Takes (method_scope m class method) target type

  -- Cells, objects, calls and the makers of synchronous calls are typed.
  pub record ConfigurationTyped (c : Configuration) : Type 0 where
    pub store : CellsTyped m (referents m c) c.cells
    pub objects : (n : ℕ) (o : ObjectRecord) → object_at c n ≡ Some o → ObjectTyped (referents m c) c.cells o
    pub calls : (n : ℕ) (x : CallRecord) → call_at c n ≡ Some x → CallTyped (referents m c) c.cells x
    pub makers : (n k : ℕ) (x : CallRecord) → call_at c n ≡ Some x → callee_of x.state ≡ Some k → MakerTyped (referents m c) x k
