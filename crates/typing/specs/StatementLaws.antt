-- What a statement that keeps its rule says of its parts, kind by kind: a statement of a method of a class, in a scope.
use Rattle.std.specs.Prelude.{◌≡◌, ℕ, true, All, List, [], ◌∷◌, Some, None, Option, ⊤}
use Rattle.std.specs.List.{slice_get}
use Rattle.tables.specs.declared.rows.ClassRow.{ClassRow}
use Rattle.tables.specs.declared.rows.MethodRow.{MethodRow}
use Rattle.tables.specs.Layout.{Content}
use Rattle.mapping.specs.Bindings.{lookup}
use Rattle.syntax.specs.declared.statements.Call.{Call}
use Rattle.syntax.specs.declared.statements.Creation.{Creation}
use Rattle.syntax.specs.declared.statements.Statement.{Statement}
use Rattle.syntax.specs.declared.statements.Statement.TheVariants as statement
use Rattle.syntax.specs.declared.types.ValueType.{ValueType}
use Rattle.syntax.specs.declared.types.ValueType.TheVariants as type
use Rattle.syntax.specs.Nodes.{parts}
use Rattle.syntax.specs.Types.{type_at}
use Rattle.typing.specs.declared.calls.Heading.{Heading}
use Rattle.typing.specs.declared.within.Within.TheVariants as within
use Rattle.typing.specs.ExpressionLaws.{ArgumentsFit}
use Rattle.typing.specs.Expressions.{type_in, lists_type}
use Rattle.typing.specs.Scopes.{Bindings}
use Rattle.typing.specs.Statements.{value_of, awaitable, reached, given_by, heading_parameters, class_parameters, goes_on}

-- the target, if any, has this type
abbrev pub Takes : Bindings → Option ℕ → ValueType → Type 0
Takes s None t = ⊤
Takes s (Some slot) t = lookup slot s ≡ Some t

-- the target, if any, is of an interface that the class lists
abbrev pub TakesObject : Content → Bindings → Option ℕ → ClassRow → Type 0
TakesObject m s None k = ⊤
TakesObject m s (Some slot) k = (t : ValueType) × (lookup slot s ≡ Some t) × (lists_type m k t ≡ true)

-- a slot that an await may name
abbrev pub IsAwaitable : Bindings → ℕ → Type 0
IsAwaitable s slot = (t : ValueType) × (lookup slot s ≡ Some t) × (awaitable t ≡ true)

-- The statements that a statement may go on to.
abbrev pub successors : Statement → List ℕ
successors (statement.Skip next) = next ∷ []
successors (statement.Assign target value next) = next ∷ []
successors (statement.Branch test next other) = next ∷ other ∷ []
successors (statement.Suspend next) = next ∷ []
successors (statement.Await slots next) = next ∷ []
successors (statement.Get target future next) = next ∷ []
successors (statement.New target creation next) = next ∷ []
successors (statement.Call target call next) = next ∷ []
successors (statement.Return value) = []

module _ (m : Content) (c : ClassRow) (x : MethodRow) (s : Bindings) where
  -- an expression of the statement has this type
  abbrev pub Here : ℕ → ValueType → Type 0
  Here n t = type_in m (within.Class c) n s ≡ Some t

  -- the class is there, arguments fit it, and the target takes an object of it
  abbrev pub IsCreated : Option ℕ → Creation → Type 0
  IsCreated target n =
      (k : ClassRow) × (slice_get m.classes n.class ≡ Some k) × ArgumentsFit m Here (parts n.arguments) (class_parameters m k) × TakesObject m s target k

  -- the method is there, arguments fit it, and the target takes what the call gives
  abbrev pub IsCalled : Option ℕ → Call → Type 0
  IsCalled target n =
      (h : Heading) × (t : ValueType) × (reached m c s n.object n.name ≡ Some h) × ArgumentsFit m Here (parts n.arguments) (heading_parameters m h)
      × (given_by m n.manner h.result ≡ Some t) × Takes s target t

  -- What each kind says.
  abbrev pub KeptAs : Statement → Type 0
  KeptAs (statement.Skip next) = ⊤
  KeptAs (statement.Assign target value next) = (t : ValueType) × Here value t × Takes s target t
  KeptAs (statement.Branch test next other) = Here test type.Bool
  KeptAs (statement.Suspend next) = ⊤
  KeptAs (statement.Await slots next) = All (IsAwaitable s) (parts slots)
  KeptAs (statement.Get target future next) =
      (t : ValueType) × (u : ValueType) × Here future t × (value_of m t ≡ Some u) × Takes s target u
  KeptAs (statement.New target creation next) = IsCreated target creation
  KeptAs (statement.Call target call next) = IsCalled target call
  KeptAs (statement.Return value) = (t : ValueType) × Here value t × (type_at m x.result ≡ Some t)

  -- So much a statement says, and what it goes on to are statements of the method.
  pub record InvertsStatement (y : Statement) : Type 0 where
    pub kind : KeptAs y
    pub within : All (λ r. goes_on x r ≡ true) (successors y)
