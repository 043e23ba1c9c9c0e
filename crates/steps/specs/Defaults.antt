-- The default of each type, with which fields and slots begin that are no parameters.
use Rattle.std.specs.Prelude.{ℕ, false, List, ◌++◌, map, drop, length, pos, Some, None, Option, nat_eq}
use Rattle.std.specs.List.{position}
use Rattle.std.specs.Option.{unwrap_or}
use Rattle.tables.specs.declared.rows.ListRow.{ListRow}
use Rattle.tables.specs.Layout.{Content}
use Rattle.syntax.specs.declared.types.ValueType.{ValueType}
use Rattle.syntax.specs.declared.types.ValueType.TheVariants as type
use Rattle.typing.specs.Scopes.{entry_type}
use Rattle.evaluation.specs.declared.value.Value.{Value}
use Rattle.evaluation.specs.declared.value.Value.TheVariants as value

module _ (m : Content) where
  -- the first constructor of a data
  abbrev pub first_constructor : ℕ → ℕ
  first_constructor d = unwrap_or (position (λ k. nat_eq k.number d) m.constructors) 0

  -- the default of a type
  abbrev pub default_of : ValueType → Value
  default_of type.Unit = value.Unit
  default_of type.Bool = value.Bool false
  default_of type.Int = value.Int (pos 0)
  default_of (type.Data d) = value.Constant (first_constructor d)
  default_of (type.Interface i) = value.Null
  default_of (type.Future r) = value.Null

  -- where the type is known
  abbrev pub known_default : Option ValueType → Value
  known_default None = value.Unit
  known_default (Some t) = default_of t

  -- values for the first entries of a list, and defaults for the others
  abbrev pub with_defaults : List Value → List ListRow → List Value
  with_defaults vs xs = vs ++ map (λ x. known_default (entry_type m x)) (drop (length vs) xs)
