-- The type of an expression: a rule for each kind of node, over the types of its children.
use Rattle.std.specs.Prelude.{ℕ, Bool, true, false, ◌&&◌, List, [], ◌∷◌, drop, Some, None, Option}
use Rattle.std.specs.List.{list_any, slice_get, list_all}
use Rattle.tables.specs.declared.rows.BranchRow.{BranchRow}
use Rattle.tables.specs.declared.rows.ClassRow.{ClassRow}
use Rattle.tables.specs.declared.rows.FunctionRow.{FunctionRow}
use Rattle.tables.specs.declared.rows.ListRow.{ListRow}
use Rattle.tables.specs.Layout.{Content}
use Rattle.rules.specs.Words.{part}
use Rattle.placement.specs.Holders.{run_length}
use Rattle.mapping.specs.Bindings.{lookup}
use Rattle.syntax.specs.declared.nodes.Node.{Node}
use Rattle.syntax.specs.declared.nodes.Node.TheVariants as node
use Rattle.syntax.specs.declared.nodes.Parts.{Parts}
use Rattle.syntax.specs.declared.types.ValueType.{ValueType}
use Rattle.syntax.specs.declared.types.ValueType.TheVariants as type
use Rattle.syntax.specs.Descent.{descend}
use Rattle.syntax.specs.Nodes.{parts, node_at}
use Rattle.syntax.specs.Rows.{given, when}
use Rattle.syntax.specs.Types.{type_at, agree}
use Rattle.typing.specs.declared.within.Within.{Within}
use Rattle.typing.specs.declared.within.Within.TheVariants as within
use Rattle.typing.specs.Scopes.{Bindings, entry_type}
use Rattle.typing.specs.Patterns.{null_type, parameters_of, pattern_scope}

-- a class lists a type among its interfaces
abbrev pub lists_type : Content → ClassRow → ValueType → Bool
lists_type m c t = list_any (λ x. agree (entry_type m x) (Some t)) (part c.interfaces_first c.interfaces_count m.lists)

-- an object sees itself as an interface that its class lists; in a function there is no object
abbrev pub this_type : Content → Within → ℕ → Option ValueType
this_type m (within.Function f) row = None
this_type m (within.Class c) row = given (type_at m row) (λ t. when (lists_type m c t) (Some t))

-- the branches of a case
abbrev pub branches_of : Content → ℕ → List BranchRow
branches_of m first = part first (run_length (drop first m.branches)) m.branches

-- the parameters of a function
abbrev pub function_parameters : Content → FunctionRow → List ListRow
function_parameters m g = part g.slots_first g.parameters m.lists

-- The rules, over `child`: the type that a lower row has in a scope.
module _ (m : Content) (w : Within) (child : ℕ → Bindings → Option ValueType) where
  -- arguments have the types of the parameters, one for one
  abbrev pub arguments_fit : Bindings → List ℕ → List ListRow → Bool
  arguments_fit s [] [] = true
  arguments_fit s [] (x ∷ xs) = false
  arguments_fit s (n ∷ ns) [] = false
  arguments_fit s (n ∷ ns) (x ∷ xs) = agree (child n s) (entry_type m x) && arguments_fit s ns xs

  -- a constructor's data, if the arguments fit
  abbrev pub constructor_type : Bindings → ℕ → Parts → Option ValueType
  constructor_type s c ps = given (slice_get m.constructors c) (λ k. when (arguments_fit s (parts ps) (parameters_of m k)) (Some (type.Data k.number)))

  -- a function's result, if the arguments fit
  abbrev pub function_type : Bindings → ℕ → Parts → Option ValueType
  function_type s f ps = given (slice_get m.functions f) (λ g. when (arguments_fit s (parts ps) (function_parameters m g)) (type_at m g.result))

  -- a branch's body, in the scope behind its pattern
  abbrev pub branch_type : FunctionRow → Bindings → ValueType → BranchRow → Option ValueType
  branch_type f s t b = given (pattern_scope m f b.pattern s t) (λ s'. child b.body s')

  -- all branches have this type
  abbrev pub all_have : FunctionRow → Bindings → ValueType → ValueType → List BranchRow → Bool
  all_have f s t u bs = list_all (λ b. agree (branch_type f s t b) (Some u)) bs

  -- the type of the first branch, if the others have it too
  abbrev pub common_type : FunctionRow → Bindings → ValueType → List BranchRow → Option ValueType
  common_type f s t [] = None
  common_type f s t (b ∷ bs) = given (branch_type f s t b) (λ u. when (all_have f s t u bs) (Some u))

  -- a case stands in functions only
  abbrev pub case_type : Within → Bindings → ℕ → ℕ → Option ValueType
  case_type (within.Function f) s e first = given (child e s) (λ t. common_type f s t (branches_of m first))
  case_type (within.Class c) s e first = None

  -- two operands of this type
  abbrev pub both : Bindings → ValueType → ℕ → ℕ → Bool
  both s t a b = agree (child a s) (Some t) && agree (child b s) (Some t)

  -- The rule of each kind.
  abbrev pub type_rule : Bindings → Node → Option ValueType
  type_rule s node.Unit = Some type.Unit
  type_rule s node.False = Some type.Bool
  type_rule s node.True = Some type.Bool
  type_rule s (node.Int n) = Some type.Int
  type_rule s (node.Null row) = null_type m row
  type_rule s (node.Slot slot) = lookup slot s
  type_rule s (node.This row) = this_type m w row
  type_rule s (node.Constructor c ps) = constructor_type s c ps
  type_rule s (node.Function f ps) = function_type s f ps
  type_rule s (node.Case e first) = case_type w s e first
  type_rule s (node.Add a b) = when (both s type.Int a b) (Some type.Int)
  type_rule s (node.Subtract a b) = when (both s type.Int a b) (Some type.Int)
  type_rule s (node.Divide a b) = when (both s type.Int a b) (Some type.Int)
  type_rule s (node.Less a b) = when (both s type.Int a b) (Some type.Bool)
  type_rule s (node.Equal a b) = when (agree (child a s) (child b s)) (Some type.Bool)
  type_rule s (node.Not a) = when (agree (child a s) (Some type.Bool)) (Some type.Bool)
  type_rule s (node.And a b) = when (both s type.Bool a b) (Some type.Bool)
  type_rule s node.Wildcard = None
  type_rule s (node.Variable slot) = None

-- what a row has that is not lower
abbrev pub no_type : Bindings → Option ValueType
no_type s = None

-- the rule of the node in a row, over the lower rows
abbrev pub type_step : Content → Within → ℕ → (ℕ → Bindings → Option ValueType) → Bindings → Option ValueType
type_step m w row child s = given (node_at m row) (type_rule m w child s)

-- The rules tied together: the type of the expression in a row.
unfoldable pub type_in : Content → Within → (row : ℕ) → Bindings → Option ValueType
type_in m w = descend no_type (type_step m w)
