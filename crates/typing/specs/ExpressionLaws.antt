-- What the type of an expression says of its parts, kind by kind: a typed node has the type that its rule gives, and its children,
-- which stand in lower rows, have the types that the rule asks for.
use Rattle.std.specs.Prelude.{◌≡◌, ℕ, ◌<◌, true, All, List, [], ◌∷◌, length, Some, ⊤}
use Rattle.std.specs.List.{slice_get}
use Rattle.tables.specs.declared.rows.BranchRow.{BranchRow}
use Rattle.tables.specs.declared.rows.ClassRow.{ClassRow}
use Rattle.tables.specs.declared.rows.ConstructorRow.{ConstructorRow}
use Rattle.tables.specs.declared.rows.FunctionRow.{FunctionRow}
use Rattle.tables.specs.declared.rows.ListRow.{ListRow}
use Rattle.tables.specs.Layout.{Content}
use Rattle.mapping.specs.Bindings.{lookup}
use Rattle.syntax.specs.declared.nodes.Node.{Node}
use Rattle.syntax.specs.declared.nodes.Node.TheVariants as node
use Rattle.syntax.specs.declared.nodes.Parts.{Parts}
use Rattle.syntax.specs.declared.types.ValueType.{ValueType}
use Rattle.syntax.specs.declared.types.ValueType.TheVariants as type
use Rattle.syntax.specs.Nodes.{parts, node_at}
use Rattle.syntax.specs.Types.{type_at, nullable}
use Rattle.typing.specs.declared.within.Within.{Within}
use Rattle.typing.specs.declared.within.Within.TheVariants as within
use Rattle.typing.specs.Expressions.{branches_of, function_parameters, lists_type, type_in}
use Rattle.typing.specs.Patterns.{parameters_of, pattern_scope}
use Rattle.typing.specs.Scopes.{Bindings, entry_type, function_scope}

-- Arguments that have the types of the parameters, one for one; `has` tells what it is that an argument has a type.
abbrev pub ArgumentsFit : {A : Type 0} → Content → (A → ValueType → Type 0) → List A → List ListRow → Type 0
ArgumentsFit m has [] [] = ⊤
ArgumentsFit m has [] (x ∷ xs) = ⊥
ArgumentsFit m has (a ∷ rest) [] = ⊥
ArgumentsFit m has (a ∷ rest) (x ∷ xs) = ((t : ValueType) × (entry_type m x ≡ Some t) × has a t) × ArgumentsFit m has rest xs

module _ (m : Content) (w : Within) (row : ℕ) where
  -- an expression in a lower row has this type
  abbrev pub Lower : Bindings → ℕ → ValueType → Type 0
  Lower s n t = (n < row) × (type_in m w n s ≡ Some t)

  -- two operands of this type
  abbrev pub Both : Bindings → ValueType → ℕ → ℕ → Type 0
  Both s t a b = Lower s a t × Lower s b t

  -- `this` stands in a statement, whose class lists the type
  abbrev pub IsThis : ℕ → ValueType → Type 0
  IsThis r t = (c : ClassRow) × (w ≡ within.Class c) × (type_at m r ≡ Some t) × (lists_type m c t ≡ true)

  -- a constructor's data, and arguments that fit
  abbrev pub IsConstructed : Bindings → ℕ → Parts → ValueType → Type 0
  IsConstructed s c ps t =
      (k : ConstructorRow) × (slice_get m.constructors c ≡ Some k) × (t ≡ type.Data k.number)
      × ArgumentsFit m (Lower s) (parts ps) (parameters_of m k)

  -- a function's result, and arguments that fit
  abbrev pub IsResult : Bindings → ℕ → Parts → ValueType → Type 0
  IsResult s f ps t =
      (g : FunctionRow) × (slice_get m.functions f ≡ Some g) × (type_at m g.result ≡ Some t)
      × ArgumentsFit m (Lower s) (parts ps) (function_parameters m g)

  -- the pattern fits what is examined, and the body has the type behind it
  abbrev pub IsBranch : FunctionRow → Bindings → ValueType → ValueType → BranchRow → Type 0
  IsBranch f s examined t b = (s' : Bindings) × (pattern_scope m f b.pattern s examined ≡ Some s') × Lower s' b.body t

  -- a case stands in a function; there is a branch, and each has the type
  abbrev pub IsCase : Bindings → ℕ → ℕ → ValueType → Type 0
  IsCase s e first t =
      (f : FunctionRow) × (examined : ValueType) × (w ≡ within.Function f) × Lower s e examined
      × (0 < length (branches_of m first)) × All (IsBranch f s examined t) (branches_of m first)

  -- What each kind says.
  abbrev pub TypedAs : Bindings → Node → ValueType → Type 0
  TypedAs s node.Unit t = t ≡ type.Unit
  TypedAs s node.False t = t ≡ type.Bool
  TypedAs s node.True t = t ≡ type.Bool
  TypedAs s (node.Int n) t = t ≡ type.Int
  TypedAs s (node.Null r) t = (type_at m r ≡ Some t) × (nullable t ≡ true)
  TypedAs s (node.Slot slot) t = lookup slot s ≡ Some t
  TypedAs s (node.This r) t = IsThis r t
  TypedAs s (node.Constructor c ps) t = IsConstructed s c ps t
  TypedAs s (node.Function f ps) t = IsResult s f ps t
  TypedAs s (node.Case e first) t = IsCase s e first t
  TypedAs s (node.Add a b) t = (t ≡ type.Int) × Both s type.Int a b
  TypedAs s (node.Subtract a b) t = (t ≡ type.Int) × Both s type.Int a b
  TypedAs s (node.Divide a b) t = (t ≡ type.Int) × Both s type.Int a b
  TypedAs s (node.Less a b) t = (t ≡ type.Bool) × Both s type.Int a b
  TypedAs s (node.Equal a b) t = (t ≡ type.Bool) × ((u : ValueType) × Both s u a b)
  TypedAs s (node.Not a) t = (t ≡ type.Bool) × Lower s a type.Bool
  TypedAs s (node.And a b) t = (t ≡ type.Bool) × Both s type.Bool a b
  TypedAs s node.Wildcard t = ⊥
  TypedAs s (node.Variable slot) t = ⊥

-- A typed row is a node, whose kind says so much.
abbrev pub Inverts : Content → Within → ℕ → Bindings → ValueType → Type 0
Inverts m w row s t = (n : Node) × (node_at m row ≡ Some n) × TypedAs m w row s n t

module _ (m : Content) where
  -- a function
  abbrev pub IsFunction : FunctionRow → Type 0
  IsFunction f = (i : ℕ) × (slice_get m.functions i ≡ Some f)

  -- A function's body has the type of its result.
  abbrev pub FunctionTyped : FunctionRow → Type 0
  FunctionTyped f = (t : ValueType) × (type_at m f.result ≡ Some t) × (type_in m (within.Function f) f.body (function_scope m f) ≡ Some t)
