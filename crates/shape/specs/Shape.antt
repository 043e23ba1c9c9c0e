-- Rule 5, Shape: types, names, defaults, classes and methods. Each test is true of a row that breaks it.
use Rattle.std.specs.Prelude.{ℕ, ◌+◌, Bool, true, false, cond, not, ◌&&◌, ◌||◌, List, [], ◌∷◌, take, Some, None, Option, ◌==◌, nat_eq, nat_le, nat_lt, slice_index_or}
use Rattle.std.specs.List.{list_any}
use Rattle.tables.specs.declared.place.Fault.{Fault}
use Rattle.tables.specs.declared.place.Place.{Place}
use Rattle.tables.specs.declared.place.Table.{Table}
use Rattle.tables.specs.declared.place.Table.TheVariants as table
use Rattle.tables.specs.declared.place.TableRule.{TableRule}
use Rattle.tables.specs.declared.place.TableRule.TheVariants.{Shape}
use Rattle.tables.specs.declared.rows.TypeRow.{TypeRow}
use Rattle.tables.specs.declared.rows.ListRow.{ListRow}
use Rattle.tables.specs.declared.rows.ConstructorRow.{ConstructorRow}
use Rattle.tables.specs.declared.rows.InterfaceRow.{InterfaceRow}
use Rattle.tables.specs.declared.rows.SignatureRow.{SignatureRow}
use Rattle.tables.specs.declared.rows.ClassRow.{ClassRow}
use Rattle.tables.specs.declared.rows.MethodRow.{MethodRow}
use Rattle.tables.specs.Layout.{Content}
use Rattle.rules.specs.Faults.{table_fault}
use Rattle.rules.specs.Words.{at, part, between}
use Rattle.rules.specs.Types.{same_type, is_unit, is_plain, is_interface}
use Rattle.placement.specs.Holders.{Holders, method_classes}

-- A type that an earlier row is already.
abbrev pub type_shape : Content → ℕ → TypeRow → Bool
type_shape m r x = list_any (same_type x) (take r m.types)

-- The first constructor of a data, its default, that takes parameters.
abbrev pub constructor_shape : Content → ℕ → ConstructorRow → Bool
constructor_shape m r x = nat_lt 0 x.count && not (list_any (λ y. nat_eq y.number x.number) (take r m.constructors))

-- A signature whose name an earlier one of an interface has that holds both.
abbrev pub shares_name : Content → ℕ → SignatureRow → InterfaceRow → Bool
shares_name m r x i = nat_le i.first r && nat_lt r (i.first + i.count)
    && list_any (λ y. nat_eq y.name x.name) (between i.first r m.signatures)

abbrev pub signature_shape : Content → ℕ → SignatureRow → Bool
signature_shape m r x = list_any (shares_name m r x) m.interfaces

abbrev pub signature_fault : Content → Option (Fault TableRule)
signature_fault m = table_fault m.signatures (signature_shape m) Shape table.Signatures

-- an outside class, by its flag
abbrev pub is_outside_class : ClassRow → Bool
is_outside_class x = x.outside == 1

-- A class that lists something else than interfaces, an outside class with fields, and what class 0 may not be: outside, with fields,
-- without methods, or with a first method that takes something or returns something else than Unit.
abbrev pub not_interface : Content → ListRow → Bool
not_interface m x = not (at m.types x.entry is_interface)

abbrev pub not_main : Content → MethodRow → Bool
not_main m x = nat_lt 0 x.parameters || not (at m.types x.result is_unit)

abbrev pub not_first : Content → ClassRow → Bool
not_first m x = is_outside_class x || nat_lt 0 x.fields || x.methods_count == 0 || at m.methods x.methods_first (not_main m)

abbrev pub class_shape : Content → ℕ → ClassRow → Bool
class_shape m r x = list_any (not_interface m) (part x.interfaces_first x.interfaces_count m.lists)
    || (is_outside_class x && nat_lt 0 x.fields)
    || (r == 0 && not_first m x)

-- A method of an outside class with statements, or with another type than Unit, Bool or Int in or out.
abbrev pub not_plain : Content → ListRow → Bool
not_plain m x = not (at m.types x.entry is_plain)

abbrev pub outside_method_shape : Content → MethodRow → Bool
outside_method_shape m x = nat_lt 0 x.statements_count
    || not (at m.types x.result is_plain)
    || list_any (not_plain m) (part x.slots_first x.parameters m.lists)

-- A method of any other class, or of no class, without a statement.
abbrev pub inside_method_shape : MethodRow → Bool
inside_method_shape x = x.statements_count == 0

-- A method whose name an earlier one of its class has.
abbrev pub repeats_name : Content → ℕ → MethodRow → ClassRow → Bool
repeats_name m r x c = list_any (λ y. nat_eq y.name x.name) (between c.methods_first r m.methods)

abbrev pub method_shape_in : Content → ℕ → MethodRow → ClassRow → Bool
method_shape_in m r x c = repeats_name m r x c || cond (is_outside_class c) (outside_method_shape m x) (inside_method_shape x)

abbrev pub method_shape_of : Content → ℕ → MethodRow → Option Place → Bool
method_shape_of m r x None = inside_method_shape x
method_shape_of m r x (Some class) = at m.classes class.row (method_shape_in m r x)

abbrev pub method_shape : Content → Holders → ℕ → MethodRow → Bool
method_shape m classes r x = method_shape_of m r x (slice_index_or classes r None)

-- Which places break the rule. Without a class the place of class 0 does.
abbrev pub classes_broken : Content → List ClassRow → ℕ → Bool
classes_broken m [] r = true
classes_broken m (x ∷ xs) r = at (x ∷ xs) r (class_shape m r)

abbrev pub shape_broken : Content → Table → ℕ → Bool
shape_broken m table.Header r = false
shape_broken m table.Types r = at m.types r (type_shape m r)
shape_broken m table.Lists r = false
shape_broken m table.Constructors r = at m.constructors r (constructor_shape m r)
shape_broken m table.Functions r = false
shape_broken m table.Interfaces r = false
shape_broken m table.Signatures r = at m.signatures r (signature_shape m r)
shape_broken m table.Classes r = classes_broken m m.classes r
shape_broken m table.Methods r = at m.methods r (method_shape m (method_classes m) r)
shape_broken m table.Nodes r = false
shape_broken m table.Branches r = false
shape_broken m table.Statements r = false
