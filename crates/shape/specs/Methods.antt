-- Rule 6, Method: a class has, for each signature of its interfaces, a method of that name with equal parameters and result.
use Rattle.std.specs.Prelude.{ℕ, Bool, false, not, ◌&&◌, List, length, ◌==◌}
use Rattle.std.specs.List.{list_any, list_all, zip}
use Rattle.tables.specs.declared.place.Table.{Table}
use Rattle.tables.specs.declared.place.Table.TheVariants as table
use Rattle.tables.specs.declared.rows.TypeRow.{TypeRow}
use Rattle.tables.specs.declared.rows.ListRow.{ListRow}
use Rattle.tables.specs.declared.rows.InterfaceRow.{InterfaceRow}
use Rattle.tables.specs.declared.rows.SignatureRow.{SignatureRow}
use Rattle.tables.specs.declared.rows.ClassRow.{ClassRow}
use Rattle.tables.specs.declared.rows.MethodRow.{MethodRow}
use Rattle.tables.specs.Layout.{Content}
use Rattle.rules.specs.Words.{at, part}
use Rattle.rules.specs.Types.{same_type, is_interface}

abbrev pub same_type_at : Content → ℕ → ℕ → Bool
same_type_at m i j = at m.types i (λ x. at m.types j (same_type x))

-- as many, and each the same as the one in its place
abbrev pub same_types : Content → List ListRow → List ListRow → Bool
same_types m xs ys = length xs == length ys && list_all (λ p. same_type_at m p.0.entry p.1.entry) (zip xs ys)

-- the method is as the signature says
abbrev pub fits : Content → SignatureRow → MethodRow → Bool
fits m s x = x.name == s.name
    && same_type_at m s.result x.result
    && same_types m (part s.first s.count m.lists) (part x.slots_first x.parameters m.lists)

abbrev pub lacks_signature : Content → ClassRow → SignatureRow → Bool
lacks_signature m c s = not (list_any (fits m s) (part c.methods_first c.methods_count m.methods))

abbrev pub lacks_interface : Content → ClassRow → InterfaceRow → Bool
lacks_interface m c i = list_any (lacks_signature m c) (part i.first i.count m.signatures)

abbrev pub lacks_type : Content → ClassRow → TypeRow → Bool
lacks_type m c x = is_interface x && at m.interfaces x.reference (lacks_interface m c)

abbrev pub lacks_listed : Content → ClassRow → ListRow → Bool
lacks_listed m c x = at m.types x.entry (lacks_type m c)

abbrev pub class_method : Content → ClassRow → Bool
class_method m c = list_any (lacks_listed m c) (part c.interfaces_first c.interfaces_count m.lists)

-- Which places break the rule.
abbrev pub method_broken : Content → Table → ℕ → Bool
method_broken m table.Header r = false
method_broken m table.Types r = false
method_broken m table.Lists r = false
method_broken m table.Constructors r = false
method_broken m table.Functions r = false
method_broken m table.Interfaces r = false
method_broken m table.Signatures r = false
method_broken m table.Classes r = at m.classes r (class_method m)
method_broken m table.Methods r = false
method_broken m table.Nodes r = false
method_broken m table.Branches r = false
method_broken m table.Statements r = false
