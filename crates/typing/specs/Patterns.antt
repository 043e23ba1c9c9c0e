-- Which types a pattern fits, and what it binds. A pattern's rule takes the scope before it, and gives the scope behind it, or
-- nothing where the node is no pattern or does not fit the type.
use Rattle.std.specs.Prelude.{ℕ, List, [], ◌∷◌, Some, None, Option}
use Rattle.std.specs.List.{slice_get}
use Rattle.tables.specs.declared.rows.ConstructorRow.{ConstructorRow}
use Rattle.tables.specs.declared.rows.FunctionRow.{FunctionRow}
use Rattle.tables.specs.declared.rows.ListRow.{ListRow}
use Rattle.tables.specs.Layout.{Content}
use Rattle.rules.specs.Words.{part}
use Rattle.syntax.specs.declared.nodes.Node.{Node}
use Rattle.syntax.specs.declared.nodes.Node.TheVariants as node
use Rattle.syntax.specs.declared.nodes.Parts.{Parts}
use Rattle.syntax.specs.declared.types.ValueType.{ValueType}
use Rattle.syntax.specs.declared.types.ValueType.TheVariants as type
use Rattle.syntax.specs.Descent.{descend}
use Rattle.syntax.specs.Nodes.{parts, node_at}
use Rattle.syntax.specs.Rows.{given, when}
use Rattle.syntax.specs.Types.{type_at, same, agree, nullable}
use Rattle.typing.specs.Scopes.{Bindings, entry_type, declared, bind_free}

-- a null's type: an interface or a future
abbrev pub null_type : Content → ℕ → Option ValueType
null_type m row = given (type_at m row) (λ t. when (nullable t) (Some t))

-- the parameters of a constructor
abbrev pub parameters_of : Content → ConstructorRow → List ListRow
parameters_of m k = part k.first k.count m.lists

-- The slot of a pattern variable has the matched type; the variable is bound unless it is bound already.
abbrev pub variable_scope : Content → FunctionRow → Bindings → ℕ → ValueType → Option Bindings
variable_scope m f s slot t = when (agree (declared m f.slots_first f.slots slot) (Some t)) (Some (bind_free slot t s))

-- The rules, over `child`: the scope behind a pattern in a lower row.
module _ (m : Content) (f : FunctionRow) (child : ℕ → Bindings → ValueType → Option Bindings) where
  -- a child against the type of its parameter
  abbrev pub child_scope : Bindings → ℕ → ListRow → Option Bindings
  child_scope s n x = given (entry_type m x) (child n s)

  -- the children, left to right, against the parameters, one for one
  abbrev pub children_scope : Bindings → List ℕ → List ListRow → Option Bindings
  children_scope s [] [] = Some s
  children_scope s [] (x ∷ xs) = None
  children_scope s (n ∷ ns) [] = None
  children_scope s (n ∷ ns) (x ∷ xs) = given (child_scope s n x) (λ s'. children_scope s' ns xs)

  -- a constructor of the matched data, whose children fit
  abbrev pub constructor_scope : Bindings → ℕ → Parts → ValueType → Option Bindings
  constructor_scope s c ps t =
      given (slice_get m.constructors c) (λ k. when (same t (type.Data k.number)) (children_scope s (parts ps) (parameters_of m k)))

  -- The rule of each kind.
  abbrev pub pattern_rule : Bindings → Node → ValueType → Option Bindings
  pattern_rule s node.Unit t = when (same t type.Unit) (Some s)
  pattern_rule s node.False t = when (same t type.Bool) (Some s)
  pattern_rule s node.True t = when (same t type.Bool) (Some s)
  pattern_rule s (node.Int n) t = when (same t type.Int) (Some s)
  pattern_rule s (node.Null row) t = when (agree (null_type m row) (Some t)) (Some s)
  pattern_rule s (node.Slot slot) t = None
  pattern_rule s (node.This row) t = None
  pattern_rule s (node.Constructor c ps) t = constructor_scope s c ps t
  pattern_rule s (node.Function g ps) t = None
  pattern_rule s (node.Case e b) t = None
  pattern_rule s (node.Add a b) t = None
  pattern_rule s (node.Subtract a b) t = None
  pattern_rule s (node.Divide a b) t = None
  pattern_rule s (node.Less a b) t = None
  pattern_rule s (node.Equal a b) t = None
  pattern_rule s (node.Not a) t = None
  pattern_rule s (node.And a b) t = None
  pattern_rule s node.Wildcard t = Some s
  pattern_rule s (node.Variable slot) t = variable_scope m f s slot t

-- what a row has that is not lower
abbrev pub no_scope : Bindings → ValueType → Option Bindings
no_scope s t = None

-- the rule of the node in a row, over the lower rows
abbrev pub pattern_step : Content → FunctionRow → ℕ → (ℕ → Bindings → ValueType → Option Bindings) → Bindings → ValueType → Option Bindings
pattern_step m f row child s t = given (node_at m row) (λ n. pattern_rule m f child s n t)

-- The rules tied together: the scope behind the pattern in a row.
unfoldable pub pattern_scope : Content → FunctionRow → (row : ℕ) → Bindings → ValueType → Option Bindings
pattern_scope m f = descend no_scope (pattern_step m f)
