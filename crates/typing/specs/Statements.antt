-- The rules of statements. A statement stands in a method of a class, in the scope of the method's slots and the class's fields.
use Rattle.std.specs.Prelude.{ℕ, Bool, true, false, ◌&&◌, List, Some, None, Option, nat_eq}
use Rattle.std.specs.List.{find, slice_get, list_all}
use Rattle.std.specs.Option.{option_map}
use Rattle.tables.specs.declared.rows.ClassRow.{ClassRow}
use Rattle.tables.specs.declared.rows.InterfaceRow.{InterfaceRow}
use Rattle.tables.specs.declared.rows.ListRow.{ListRow}
use Rattle.tables.specs.declared.rows.MethodRow.{MethodRow}
use Rattle.tables.specs.declared.rows.SignatureRow.{SignatureRow}
use Rattle.tables.specs.Layout.{Content}
use Rattle.rules.specs.Words.{part, passes}
use Rattle.placement.specs.Holders.{in_range}
use Rattle.mapping.specs.Bindings.{lookup}
use Rattle.syntax.specs.declared.statements.Call.{Call}
use Rattle.syntax.specs.declared.statements.Creation.{Creation}
use Rattle.syntax.specs.declared.statements.Manner.{Manner}
use Rattle.syntax.specs.declared.statements.Manner.TheVariants as manner
use Rattle.syntax.specs.declared.statements.Statement.{Statement}
use Rattle.syntax.specs.declared.statements.Statement.TheVariants as statement
use Rattle.syntax.specs.declared.types.ValueType.{ValueType}
use Rattle.syntax.specs.declared.types.ValueType.TheVariants as type
use Rattle.syntax.specs.Nodes.{parts}
use Rattle.syntax.specs.Rows.{given}
use Rattle.syntax.specs.Types.{type_at, agree}
use Rattle.typing.specs.declared.calls.Heading.{Heading}
use Rattle.typing.specs.declared.within.Within.TheVariants as within
use Rattle.typing.specs.Expressions.{type_in, arguments_fit, lists_type}
use Rattle.typing.specs.Scopes.{Bindings}

-- The value of a future.
abbrev pub value_of : Content → ValueType → Option ValueType
value_of m type.Unit = None
value_of m type.Bool = None
value_of m type.Int = None
value_of m (type.Data d) = None
value_of m (type.Interface i) = None
value_of m (type.Future r) = type_at m r

-- What an await may name: a Bool or a future.
abbrev pub awaitable : ValueType → Bool
awaitable type.Unit = false
awaitable type.Bool = true
awaitable type.Int = false
awaitable (type.Data d) = false
awaitable (type.Interface i) = false
awaitable (type.Future r) = true

-- The heading of a method or a signature: what a call of it takes and gives.
abbrev pub method_heading : MethodRow → Heading
method_heading x = record { first = x.slots_first; count = x.parameters; result = x.result }

abbrev pub signature_heading : SignatureRow → Heading
signature_heading g = record { first = g.first; count = g.count; result = g.result }

-- the method of this name in a class
abbrev pub method_named : Content → ClassRow → ℕ → Option Heading
method_named m c name =
    option_map method_heading (find (λ x. nat_eq x.name name) (part c.methods_first c.methods_count m.methods))

-- the signature of this name in an interface
abbrev pub signature_in : Content → InterfaceRow → ℕ → Option Heading
signature_in m i name = option_map signature_heading (find (λ g. nat_eq g.name name) (part i.first i.count m.signatures))

-- the signature of this name in a type, if that is an interface
abbrev pub signature_named : Content → ValueType → ℕ → Option Heading
signature_named m type.Unit name = None
signature_named m type.Bool name = None
signature_named m type.Int name = None
signature_named m (type.Data d) name = None
signature_named m (type.Interface i) name = given (slice_get m.interfaces i) (λ x. signature_in m x name)
signature_named m (type.Future r) name = None

-- What a call gives: at once the result, else a future of it.
abbrev pub given_by : Content → Manner → ℕ → Option ValueType
given_by m manner.Asynchronous result = Some (type.Future result)
given_by m manner.Synchronous result = type_at m result

-- the parameters of a heading, and those of a class
abbrev pub heading_parameters : Content → Heading → List ListRow
heading_parameters m h = part h.first h.count m.lists

abbrev pub class_parameters : Content → ClassRow → List ListRow
class_parameters m c = part c.fields_first c.parameters m.lists

-- a statement of the same method
abbrev pub goes_on : MethodRow → ℕ → Bool
goes_on x next = in_range next x.statements_first x.statements_count

-- a thing has a type, which the target, if any, has too
abbrev pub takes : Bindings → Option ℕ → Option ValueType → Bool
takes s target None = false
takes s None (Some t) = true
takes s (Some slot) (Some t) = agree (lookup slot s) (Some t)

-- the target, if any, is of an interface that the class lists
abbrev pub takes_object : Content → Bindings → Option ℕ → ClassRow → Bool
takes_object m s None k = true
takes_object m s (Some slot) k = passes (lookup slot s) (lists_type m k)

-- an await may name the slots
abbrev pub all_awaitable : Bindings → List ℕ → Bool
all_awaitable s slots = list_all (λ slot. passes (lookup slot s) awaitable) slots

module _ (m : Content) (c : ClassRow) (s : Bindings) where
  -- expressions and arguments of a statement of the class
  abbrev pub type_here : ℕ → Option ValueType
  type_here n = type_in m (within.Class c) n s

  abbrev pub arguments_here : List ℕ → List ListRow → Bool
  arguments_here ns xs = arguments_fit m (within.Class c) (type_in m (within.Class c)) s ns xs

  -- the value of the future that an expression gives
  abbrev pub future_value : ℕ → Option ValueType
  future_value n = given (type_here n) (value_of m)

  -- without an object a call is on `this`, and reaches every method of the class; else the object is of an interface
  abbrev pub reached : Option ℕ → ℕ → Option Heading
  reached None name = method_named m c name
  reached (Some object) name = given (type_here object) (λ t. signature_named m t name)

  -- the arguments fit the class that is named, and the target takes an object of it
  abbrev pub new_rule : Option ℕ → Creation → Bool
  new_rule target n = passes (slice_get m.classes n.class) (λ k. arguments_here (parts n.arguments) (class_parameters m k) && takes_object m s target k)

  -- there is such a method, the arguments fit it, and the target takes what the call gives
  abbrev pub call_rule : Option ℕ → Call → Bool
  call_rule target n =
      passes (reached n.object n.name) (λ h. arguments_here (parts n.arguments) (heading_parameters m h) && takes s target (given_by m n.manner h.result))

  -- The rule of each kind, in a method of the class.
  abbrev pub statement_rule : MethodRow → Statement → Bool
  statement_rule x (statement.Skip next) = goes_on x next
  statement_rule x (statement.Assign target value next) = takes s target (type_here value) && goes_on x next
  statement_rule x (statement.Branch test next other) = agree (type_here test) (Some type.Bool) && goes_on x next && goes_on x other
  statement_rule x (statement.Suspend next) = goes_on x next
  statement_rule x (statement.Await slots next) = all_awaitable s (parts slots) && goes_on x next
  statement_rule x (statement.Get target future next) = takes s target (future_value future) && goes_on x next
  statement_rule x (statement.New target creation next) = new_rule target creation && goes_on x next
  statement_rule x (statement.Call target call next) = call_rule target call && goes_on x next
  statement_rule x (statement.Return value) = agree (type_here value) (type_at m x.result)
