-- When two rows of the types are the same type, and what a type's row says.
use Rattle.std.specs.Prelude.{Bool, true, false, not, ◌&&◌, ◌||◌, Some, None, Option, ◌==◌}
use Rattle.tables.specs.declared.kinds.TypeKind.{TypeKind}
use Rattle.tables.specs.declared.kinds.TypeKind.TheVariants as type
use Rattle.tables.specs.declared.rows.TypeRow.{TypeRow}
use Rattle.tables.specs.Kinds.{type_kind}

-- kinds that name something: a data, an interface, the type of a future
abbrev pub refers : Option TypeKind → Bool
refers None = false
refers (Some type.Unit) = false
refers (Some type.Bool) = false
refers (Some type.Int) = false
refers (Some type.Data) = true
refers (Some type.Interface) = true
refers (Some type.Future) = true

-- what a kind does not name is not compared
abbrev pub same_type : TypeRow → TypeRow → Bool
same_type x y = x.kind == y.kind && (not (refers (type_kind x.kind)) || x.reference == y.reference)

abbrev pub is_unit_kind : Option TypeKind → Bool
is_unit_kind None = false
is_unit_kind (Some type.Unit) = true
is_unit_kind (Some type.Bool) = false
is_unit_kind (Some type.Int) = false
is_unit_kind (Some type.Data) = false
is_unit_kind (Some type.Interface) = false
is_unit_kind (Some type.Future) = false

abbrev pub is_unit : TypeRow → Bool
is_unit x = is_unit_kind (type_kind x.kind)

-- Unit, Bool or Int
abbrev pub is_plain_kind : Option TypeKind → Bool
is_plain_kind None = false
is_plain_kind (Some type.Unit) = true
is_plain_kind (Some type.Bool) = true
is_plain_kind (Some type.Int) = true
is_plain_kind (Some type.Data) = false
is_plain_kind (Some type.Interface) = false
is_plain_kind (Some type.Future) = false

abbrev pub is_plain : TypeRow → Bool
is_plain x = is_plain_kind (type_kind x.kind)

abbrev pub is_interface_kind : Option TypeKind → Bool
is_interface_kind None = false
is_interface_kind (Some type.Unit) = false
is_interface_kind (Some type.Bool) = false
is_interface_kind (Some type.Int) = false
is_interface_kind (Some type.Data) = false
is_interface_kind (Some type.Interface) = true
is_interface_kind (Some type.Future) = false

abbrev pub is_interface : TypeRow → Bool
is_interface x = is_interface_kind (type_kind x.kind)
