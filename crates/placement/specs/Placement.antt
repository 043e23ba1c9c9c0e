-- Rule 4, Placement: rows that have to stand lower, and things that have two places. Each test is true of a row that breaks it.
use Rattle.std.specs.Prelude.{ℕ, Bool, false, not, ◌&&◌, ◌||◌, leb, List, [], ◌∷◌, Some, None, Option, ◌==◌, nat_eq, nat_le, slice_index_or}
use Rattle.std.specs.List.{list_any}
use Rattle.tables.specs.declared.kinds.TypeKind.{TypeKind}
use Rattle.tables.specs.declared.kinds.TypeKind.TheVariants as type
use Rattle.tables.specs.declared.place.Place.{Place}
use Rattle.tables.specs.declared.place.Table.{Table}
use Rattle.tables.specs.declared.place.Table.TheVariants as table
use Rattle.tables.specs.declared.rows.TypeRow.{TypeRow}
use Rattle.tables.specs.declared.rows.FunctionRow.{FunctionRow}
use Rattle.tables.specs.declared.rows.ClassRow.{ClassRow}
use Rattle.tables.specs.declared.rows.MethodRow.{MethodRow}
use Rattle.tables.specs.declared.rows.NodeRow.{NodeRow}
use Rattle.tables.specs.declared.rows.BranchRow.{BranchRow}
use Rattle.tables.specs.declared.rows.StatementRow.{StatementRow}
use Rattle.tables.specs.Kinds.{type_kind}
use Rattle.tables.specs.Layout.{Content}
use Rattle.tables.specs.Places.{table_number}
use Rattle.rules.specs.Words.{at, part}
use Rattle.rules.specs.Uses.{function_uses, node_uses, branch_uses, statement_uses}
use Rattle.placement.specs.Holders.{Holders, place, reach, node_users, branch_cases, method_classes, statement_methods}

-- A future is of an earlier type.
abbrev pub future_above : ℕ → ℕ → Option TypeKind → Bool
future_above r ref None = false
future_above r ref (Some type.Unit) = false
future_above r ref (Some type.Bool) = false
future_above r ref (Some type.Int) = false
future_above r ref (Some type.Data) = false
future_above r ref (Some type.Interface) = false
future_above r ref (Some type.Future) = nat_le r ref

abbrev pub type_placement : ℕ → TypeRow → Bool
type_placement r x = future_above r x.reference (type_kind x.kind)

-- a thing that is held, and by another row
abbrev pub elsewhere : Place → Option Place → Bool
elsewhere by None = false
elsewhere by (Some holder) = not (table_number holder.table == table_number by.table && holder.row == by.row)

-- a number that stands twice
abbrev pub repeated : List ℕ → Bool
repeated [] = false
repeated (x ∷ xs) = list_any (λ y. nat_eq y x) xs || repeated xs

-- A row uses a node of another user, or one node twice.
abbrev pub reused : Holders → Place → List ℕ → Bool
reused users by uses = list_any (λ n. elsewhere by (slice_index_or users n None)) uses || repeated uses

-- A row's range holds something of another row.
abbrev pub overlaps : Holders → Place → ℕ → ℕ → Bool
overlaps held by first count = list_any (elsewhere by) (part first count held)

abbrev pub function_placement : Holders → ℕ → FunctionRow → Bool
function_placement users r x = reused users (place table.Functions r) (function_uses x)

abbrev pub class_placement : Holders → ℕ → ClassRow → Bool
class_placement classes r x = overlaps classes (place table.Classes r) x.methods_first x.methods_count

abbrev pub method_placement : Holders → ℕ → MethodRow → Bool
method_placement methods r x = overlaps methods (place table.Methods r) x.statements_first x.statements_count

-- A node's children stand lower; a case reaches no branch of another case.
abbrev pub node_placement : Content → Holders → Holders → ℕ → NodeRow → Bool
node_placement m users cases r x = list_any (leb r) (node_uses x)
    || reused users (place table.Nodes r) (node_uses x)
    || overlaps cases (place table.Nodes r) x.reference (reach m.branches x)

-- The pattern and the body of a branch stand lower than its case.
abbrev pub above_case : List ℕ → Option Place → Bool
above_case uses None = false
above_case uses (Some case) = list_any (leb case.row) uses

abbrev pub branch_placement : Holders → Holders → ℕ → BranchRow → Bool
branch_placement users cases r x = above_case (branch_uses x) (slice_index_or cases r None) || reused users (place table.Branches r) (branch_uses x)

abbrev pub statement_placement : Holders → ℕ → StatementRow → Bool
statement_placement users r x = reused users (place table.Statements r) (statement_uses x)

-- Which places break the rule.
abbrev pub placement_broken : Content → Table → ℕ → Bool
placement_broken m table.Header r = false
placement_broken m table.Types r = at m.types r (type_placement r)
placement_broken m table.Lists r = false
placement_broken m table.Constructors r = false
placement_broken m table.Functions r = at m.functions r (function_placement (node_users m) r)
placement_broken m table.Interfaces r = false
placement_broken m table.Signatures r = false
placement_broken m table.Classes r = at m.classes r (class_placement (method_classes m) r)
placement_broken m table.Methods r = at m.methods r (method_placement (statement_methods m) r)
placement_broken m table.Nodes r = at m.nodes r (node_placement m (node_users m) (branch_cases m) r)
placement_broken m table.Branches r = at m.branches r (branch_placement (node_users m) (branch_cases m) r)
placement_broken m table.Statements r = at m.statements r (statement_placement (node_users m) r)
