-- Sound configurations: what holds of every configuration of a run of an accepted model.
use Rattle.std.specs.Prelude.{◌≡◌, ℕ, ◌+◌, ◌≤◌, true, false, not, length, Some, Option, is_some}
use Rattle.std.specs.List.{count_by, slice_get}
use Rattle.std.specs.Option.{option_map}
use Rattle.tables.specs.declared.rows.ClassRow.{ClassRow}
use Rattle.tables.specs.declared.rows.MethodRow.{MethodRow}
use Rattle.tables.specs.Layout.{Content}
use Rattle.placement.specs.Holders.{in_range}
use Rattle.shape.specs.Shape.{is_outside_class}
use Rattle.syntax.specs.declared.statements.Call.{Call}
use Rattle.syntax.specs.declared.statements.Statement.TheVariants as statement
use Rattle.syntax.specs.declared.types.ValueType.{ValueType}
use Rattle.syntax.specs.Rows.{given, when}
use Rattle.syntax.specs.Types.{is_plain_type}
use Rattle.typing.specs.Scopes.{Bindings, declared, method_scope}
use Rattle.typing.specs.StatementLaws.{Takes}
use Rattle.typing.specs.Statements.{goes_on}
use Rattle.outside.specs.declared.value.Sort.{Sort}
use Rattle.outside.specs.Outsides.{Joins, Leaves, Waits}
use Rattle.evaluation.specs.declared.value.Value.{Value}
use Rattle.evaluation.specs.Typed.{CellsTyped, Has, Referents}
use Rattle.steps.specs.declared.records.CallRecord.{CallRecord}
use Rattle.steps.specs.declared.records.ObjectRecord.{ObjectRecord}
use Rattle.steps.specs.declared.state.CallState.TheVariants as state
use Rattle.steps.specs.Configurations.{Configuration, call_at, class_of, group_of, method_of, object_at, result_type, same_group, statement_at, value_at}
use Rattle.steps.specs.Crossing.{result_sort}
use Rattle.steps.specs.Outcomes.{Request}
use Rattle.steps.specs.States.{callee_of, is_active, is_ended, is_outside, is_unfinished}

-- Where values stand: the fields of objects, and the slots and the futures of calls.
pub data Location : Type 0 where
  field : (object k : ℕ) → Location
  slot : (call k : ℕ) → Location
  future : (call : ℕ) → Location

-- the value that stands at a location
abbrev pub location_value : Configuration → Location → Option Value
location_value c (Location.field n k) = given (object_at c n) (λ o. slice_get o.fields k)
location_value c (Location.slot n k) = given (call_at c n) (λ x. slice_get x.slots k)
location_value c (Location.future n) = value_at c n

module _ (m : Content) where
  -- the type that a location is declared with
  abbrev pub location_type : Configuration → Location → Option ValueType
  location_type c (Location.field n k) = given (class_of m c n) (λ y. declared m y.fields_first y.fields k)
  location_type c (Location.slot n k) = given (call_at c n) (λ x. given (method_of m x) (λ y. declared m y.slots_first y.slots k))
  location_type c (Location.future n) = given (call_at c n) (result_type m)

  -- the row of the type of a call's result
  abbrev pub result_row : CallRecord → Option ℕ
  result_row x = option_map (λ y. y.result) (method_of m x)

  -- what values refer to: the classes of objects, and the results of calls
  abbrev pub referents : Configuration → Referents
  referents c = record { class_of = class_of m c; result_of = λ f. given (call_at c f) result_row }

  -- Each value has the type of its location, no declared field or slot is without a value, and cells are typed.
  pub record ValuesTyped (c : Configuration) : Type 0 where
    pub values : (l : Location) (v : Value) (t : ValueType) → location_value c l ≡ Some v → location_type c l ≡ Some t → Has m (referents c) c.cells v t
    pub fields : (n k : ℕ) (t : ValueType) → location_type c (Location.field n k) ≡ Some t → is_some (location_value c (Location.field n k)) ≡ true
    pub slots : (n k : ℕ) (t : ValueType) → location_type c (Location.slot n k) ≡ Some t → is_some (location_value c (Location.slot n k)) ≡ true
    pub cells : CellsTyped m (referents c) c.cells

  -- The class of an object is there, and the object has a group exactly if its class is not outside.
  pub record ObjectFits (o : ObjectRecord) : Type 0 where
    pub class : ClassRow
    pub there : slice_get m.classes o.class ≡ Some class
    pub grouped : is_some o.group ≡ not (is_outside_class class)

  -- The object of a call has the method that is called. An unfinished process is of a class that is not outside and stands at a statement of
  -- its method; the result of a call that is out is plain.
  pub record CallFits (c : Configuration) (x : CallRecord) : Type 0 where
    pub class : ClassRow
    pub of_class : class_of m c x.object ≡ Some class
    pub method : MethodRow
    pub called : method_of m x ≡ Some method
    pub belongs : in_range x.method class.methods_first class.methods_count ≡ true
    pub inside : is_unfinished x.state ≡ true → is_outside_class class ≡ false
    pub stands : is_unfinished x.state ≡ true → goes_on method x.statement ≡ true
    pub plain : is_outside x.state ≡ true → (t : ValueType) × (result_type m x ≡ Some t) × (is_plain_type t ≡ true)

  -- the types of the slots and fields that a call's statements see
  abbrev pub scope_of : Configuration → CallRecord → Option Bindings
  scope_of c x = given (class_of m c x.object) (λ k. option_map (method_scope m k) (method_of m x))

  -- The maker of a synchronous call stands at a call statement, of which the target takes the result's type.
  pub record MakerFits (c : Configuration) (x : CallRecord) (callee : ℕ) : Type 0 where
    pub target : Option ℕ
    pub call : Call
    pub next : ℕ
    pub stands : statement_at m x.statement ≡ Some (statement.Call target call next)
    pub scope : Bindings
    pub sees : scope_of c x ≡ Some scope
    pub type : ValueType
    pub gives : location_type c (Location.future callee) ≡ Some type
    pub takes : Takes scope target type

  -- Values are typed, and objects, calls and the makers of synchronous calls fit the model.
  pub record IsTyped (c : Configuration) : Type 0 where
    pub values : ValuesTyped c
    pub objects : (n : ℕ) (o : ObjectRecord) → object_at c n ≡ Some o → ObjectFits o
    pub calls : (n : ℕ) (x : CallRecord) → call_at c n ≡ Some x → CallFits c x
    pub makers : (n callee : ℕ) (x : CallRecord) → call_at c n ≡ Some x → callee_of x.state ≡ Some callee → MakerFits c x callee

  -- the sort with which a call waits outside, if it is out
  abbrev pub waiting_sort : CallRecord → Option Sort
  waiting_sort x = when (is_outside x.state) (Some (result_sort m x))

  -- the calls of a configuration that are out
  abbrev pub calls_outside : Configuration → Waits
  calls_outside c n = given (call_at c n) waiting_sort

-- two processes of one group
abbrev pub Beside : Configuration → CallRecord → CallRecord → Type 0
Beside c x y = same_group (group_of c x.object) (group_of c y.object) ≡ true

-- Who is active, who has returned, and who waits for whom.
pub record InOrder (c : Configuration) : Type 0 where
  -- a group has at most one active process
  pub one_active : (n k : ℕ) (x y : CallRecord) → call_at c n ≡ Some x → call_at c k ≡ Some y → is_active x.state ≡ true → is_active y.state ≡ true →
      Beside c x y → n ≡ k
  -- the future of a call is resolved exactly if the call ended
  pub resolved : (n : ℕ) (x : CallRecord) → call_at c n ≡ Some x → is_some x.result ≡ is_ended x.state
  -- the call that runs in a maker's place names it as its caller, and is not finished
  pub calling : (n k : ℕ) (x : CallRecord) → call_at c n ≡ Some x → x.state ≡ state.Calling k →
      (y : CallRecord) × (call_at c k ≡ Some y) × (y.caller ≡ Some n) × (is_unfinished y.state ≡ true)
  -- the caller of an unfinished process waits for it, in its group
  pub callers : (n k : ℕ) (x : CallRecord) → call_at c n ≡ Some x → is_unfinished x.state ≡ true → x.caller ≡ Some k →
      (y : CallRecord) × (call_at c k ≡ Some y) × (y.state ≡ state.Calling n) × Beside c y x
  -- each call returned, was answered, is unfinished or is out
  pub balance : length c.calls ≡ c.returned + c.answered + count_by (λ x. is_unfinished x.state) c.calls + count_by (λ x. is_outside x.state) c.calls
  -- there are at most 128
  pub few : length c.calls ≤ 128

-- A configuration over an outside in which these calls wait.
pub record Sound (m : Content) (c : Configuration) (waits : Waits) : Type 0 where
  pub typed : IsTyped m c
  pub order : InOrder c
  -- exactly the calls that are out wait outside, each with the sort of its result
  pub outside : (n : ℕ) → waits n ≡ calls_outside m c n

-- what becomes of the waiting calls by what is asked of an outside
abbrev pub WaitsBecome : Waits → Request → Waits → Type 0
WaitsBecome w Request.nothing w′ = (n : ℕ) → w′ n ≡ w n
WaitsBecome w (Request.take g) w′ = Joins w g.call g.sort w′
WaitsBecome w (Request.deliver call) w′ = Leaves w call w′
