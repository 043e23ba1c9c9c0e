-- Types, and what a row of the types says.
use Rattle.std.specs.Prelude.{ℕ, Bool, true, false, ◌&&◌, Some, None, Option, ◌==◌}
use Rattle.std.specs.List.{slice_get}
use Rattle.tables.specs.declared.kinds.TypeKind.{TypeKind}
use Rattle.tables.specs.declared.kinds.TypeKind.TheVariants as kind
use Rattle.tables.specs.declared.rows.TypeRow.{TypeRow}
use Rattle.tables.specs.Kinds.{type_kind}
use Rattle.tables.specs.Layout.{Content}
use Rattle.syntax.specs.declared.types.ValueType.{ValueType}
use Rattle.syntax.specs.declared.types.ValueType.TheVariants as type
use Rattle.syntax.specs.Rows.{given}

-- A data is named by its number, an interface by its row, a future by the row of the type of its value.
abbrev pub type_as : ℕ → Option TypeKind → Option ValueType
type_as ref None = None
type_as ref (Some kind.Unit) = Some type.Unit
type_as ref (Some kind.Bool) = Some type.Bool
type_as ref (Some kind.Int) = Some type.Int
type_as ref (Some kind.Data) = Some (type.Data ref)
type_as ref (Some kind.Interface) = Some (type.Interface ref)
type_as ref (Some kind.Future) = Some (type.Future ref)

-- the type that a row says
abbrev pub type_of : TypeRow → Option ValueType
type_of x = type_as x.reference (type_kind x.kind)

-- the type in a row
abbrev pub type_at : Content → ℕ → Option ValueType
type_at m row = given (slice_get m.types row) type_of

-- the number of a type's kind in the format
abbrev pub kind_number : ValueType → ℕ
kind_number type.Unit = 0
kind_number type.Bool = 1
kind_number type.Int = 2
kind_number (type.Data d) = 3
kind_number (type.Interface i) = 4
kind_number (type.Future r) = 5

-- what a type names; 0 where it names nothing
abbrev pub named : ValueType → ℕ
named type.Unit = 0
named type.Bool = 0
named type.Int = 0
named (type.Data d) = d
named (type.Interface i) = i
named (type.Future r) = r

-- Two types are the same if they are of one kind and name the same thing.
abbrev pub same : ValueType → ValueType → Bool
same a b = kind_number a == kind_number b && named a == named b

-- both are there, and the same
abbrev pub agree : Option ValueType → Option ValueType → Bool
agree None b = false
agree (Some a) None = false
agree (Some a) (Some b) = same a b

-- null is a value of the interfaces and of the futures
abbrev pub nullable : ValueType → Bool
nullable type.Unit = false
nullable type.Bool = false
nullable type.Int = false
nullable (type.Data d) = false
nullable (type.Interface i) = true
nullable (type.Future r) = true

-- Unit, Bool and Int
abbrev pub is_plain_type : ValueType → Bool
is_plain_type type.Unit = true
is_plain_type type.Bool = true
is_plain_type type.Int = true
is_plain_type (type.Data d) = false
is_plain_type (type.Interface i) = false
is_plain_type (type.Future r) = false
