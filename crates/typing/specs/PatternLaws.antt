-- What a pattern that fits says of its parts, kind by kind, and the scope behind it.
use Rattle.std.specs.Prelude.{◌≡◌, ℕ, ◌<◌, true, List, [], ◌∷◌, Some}
use Rattle.std.specs.List.{slice_get}
use Rattle.tables.specs.declared.rows.ConstructorRow.{ConstructorRow}
use Rattle.tables.specs.declared.rows.FunctionRow.{FunctionRow}
use Rattle.tables.specs.declared.rows.ListRow.{ListRow}
use Rattle.tables.specs.Layout.{Content}
use Rattle.syntax.specs.declared.nodes.Node.{Node}
use Rattle.syntax.specs.declared.nodes.Node.TheVariants as node
use Rattle.syntax.specs.declared.nodes.Parts.{Parts}
use Rattle.syntax.specs.declared.types.ValueType.{ValueType}
use Rattle.syntax.specs.declared.types.ValueType.TheVariants as type
use Rattle.syntax.specs.Nodes.{parts, node_at}
use Rattle.syntax.specs.Types.{type_at, nullable}
use Rattle.typing.specs.Patterns.{parameters_of, pattern_scope}
use Rattle.typing.specs.Scopes.{Bindings, entry_type, declared, bind_free}

module _ (m : Content) (f : FunctionRow) (row : ℕ) where
  -- a pattern in a lower row fits the type, and `s'` is the scope behind it
  abbrev pub LowerFits : Bindings → ℕ → ValueType → Bindings → Type 0
  LowerFits s n t s' = (n < row) × (pattern_scope m f n s t ≡ Some s')

  -- children that fit the parameters one for one, each in the scope behind the one before
  abbrev pub ChildrenFit : Bindings → List ℕ → List ListRow → Bindings → Type 0
  ChildrenFit s [] [] s' = s' ≡ s
  ChildrenFit s [] (x ∷ xs) s' = ⊥
  ChildrenFit s (n ∷ ns) [] s' = ⊥
  ChildrenFit s (n ∷ ns) (x ∷ xs) s' =
      (t : ValueType) × (behind : Bindings) × (entry_type m x ≡ Some t) × LowerFits s n t behind × ChildrenFit behind ns xs s'

  -- a constructor of the data
  abbrev pub ConstructorFits : Bindings → ℕ → Parts → ValueType → Bindings → Type 0
  ConstructorFits s c ps t s' =
      (k : ConstructorRow) × (slice_get m.constructors c ≡ Some k) × (t ≡ type.Data k.number)
      × ChildrenFit s (parts ps) (parameters_of m k) s'

  -- What each kind says.
  abbrev pub FitsAs : Bindings → Node → ValueType → Bindings → Type 0
  FitsAs s node.Unit t s' = (t ≡ type.Unit) × (s' ≡ s)
  FitsAs s node.False t s' = (t ≡ type.Bool) × (s' ≡ s)
  FitsAs s node.True t s' = (t ≡ type.Bool) × (s' ≡ s)
  FitsAs s (node.Int n) t s' = (t ≡ type.Int) × (s' ≡ s)
  FitsAs s (node.Null r) t s' = (type_at m r ≡ Some t) × (nullable t ≡ true) × (s' ≡ s)
  FitsAs s (node.Slot slot) t s' = ⊥
  FitsAs s (node.This r) t s' = ⊥
  FitsAs s (node.Constructor c ps) t s' = ConstructorFits s c ps t s'
  FitsAs s (node.Function g ps) t s' = ⊥
  FitsAs s (node.Case e b) t s' = ⊥
  FitsAs s (node.Add a b) t s' = ⊥
  FitsAs s (node.Subtract a b) t s' = ⊥
  FitsAs s (node.Divide a b) t s' = ⊥
  FitsAs s (node.Less a b) t s' = ⊥
  FitsAs s (node.Equal a b) t s' = ⊥
  FitsAs s (node.Not a) t s' = ⊥
  FitsAs s (node.And a b) t s' = ⊥
  FitsAs s node.Wildcard t s' = s' ≡ s
  FitsAs s (node.Variable slot) t s' = (declared m f.slots_first f.slots slot ≡ Some t) × (s' ≡ bind_free slot t s)

-- A row that fits is a node, whose kind says so much.
abbrev pub InvertsPattern : Content → FunctionRow → ℕ → Bindings → ValueType → Bindings → Type 0
InvertsPattern m f row s t s' = (n : Node) × (node_at m row ≡ Some n) × FitsAs m f row s n t s'
