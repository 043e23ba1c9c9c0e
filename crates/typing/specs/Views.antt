-- What the code's structs stand for.
use Rattle.std.specs.Prelude.{ℕ, Option}
use Rattle.tables.specs.Layout.{content}
use Rattle.syntax.specs.declared.types.ValueType.{ValueType}
use Rattle.syntax.specs.Descent.{below}
use Rattle.typing.specs.declared.expressions.Expressions.{Expressions}
use Rattle.typing.specs.declared.patterns.Patterns.{Patterns}
use Rattle.typing.specs.Expressions.{no_type, type_in}
use Rattle.typing.specs.Patterns.{no_scope, pattern_scope}
use Rattle.typing.specs.Scopes.{Bindings}

-- the scopes behind a function's patterns that stand below a row
abbrev pub lower_scopes : Patterns → (row : ℕ) → ℕ → Bindings → ValueType → Option Bindings
lower_scopes p row = below no_scope row (pattern_scope (content p.t.now) p.function)

-- the types of expressions that stand below a row
abbrev pub lower_types : Expressions → (row : ℕ) → ℕ → Bindings → Option ValueType
lower_types e row = below no_type row (type_in (content e.t.now) e.within)
