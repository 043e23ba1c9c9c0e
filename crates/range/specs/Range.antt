-- Rule 3, Range: kinds, flags, counts, limits, rows and ranges that are not there. Each test is true of a row that breaks it.
use Rattle.std.specs.Prelude.{ℕ, ◌+◌, Bool, true, false, not, ◌&&◌, ◌||◌, List, length, Some, None, Option, ◌==◌, nat_eq, nat_le, nat_lt}
use Rattle.std.specs.List.{list_any}
use Rattle.tables.specs.declared.kinds.TypeKind.{TypeKind}
use Rattle.tables.specs.declared.kinds.TypeKind.TheVariants as type
use Rattle.tables.specs.declared.kinds.NodeKind.{NodeKind}
use Rattle.tables.specs.declared.kinds.NodeKind.TheVariants as node
use Rattle.tables.specs.declared.kinds.StatementKind.{StatementKind}
use Rattle.tables.specs.declared.kinds.StatementKind.TheVariants as statement
use Rattle.tables.specs.declared.place.Table.{Table}
use Rattle.tables.specs.declared.place.Table.TheVariants as table
use Rattle.tables.specs.declared.rows.TypeRow.{TypeRow}
use Rattle.tables.specs.declared.rows.ListRow.{ListRow}
use Rattle.tables.specs.declared.rows.ConstructorRow.{ConstructorRow}
use Rattle.tables.specs.declared.rows.FunctionRow.{FunctionRow}
use Rattle.tables.specs.declared.rows.InterfaceRow.{InterfaceRow}
use Rattle.tables.specs.declared.rows.SignatureRow.{SignatureRow}
use Rattle.tables.specs.declared.rows.ClassRow.{ClassRow}
use Rattle.tables.specs.declared.rows.MethodRow.{MethodRow}
use Rattle.tables.specs.declared.rows.NodeRow.{NodeRow}
use Rattle.tables.specs.declared.rows.BranchRow.{BranchRow}
use Rattle.tables.specs.declared.rows.StatementRow.{StatementRow}
use Rattle.tables.specs.Kinds.{type_kind, node_kind, statement_kind}
use Rattle.tables.specs.Layout.{Content}
use Rattle.rules.specs.Words.{at, absent, past_end}
use Rattle.rules.specs.Uses.{function_uses, node_uses, branch_uses, statement_uses}

-- A type: a kind that there is, and what a data, an interface or a future refers to.
abbrev pub type_absent : Content → ℕ → Option TypeKind → Bool
type_absent m ref None = true
type_absent m ref (Some type.Unit) = false
type_absent m ref (Some type.Bool) = false
type_absent m ref (Some type.Int) = false
type_absent m ref (Some type.Data) = not (list_any (λ c. nat_eq c.number ref) m.constructors)
type_absent m ref (Some type.Interface) = absent ref m.interfaces
type_absent m ref (Some type.Future) = absent ref m.types

abbrev pub type_range : Content → TypeRow → Bool
type_range m x = type_absent m x.reference (type_kind x.kind)

-- A list's entry: a row of the types.
abbrev pub list_range : Content → ListRow → Bool
list_range m x = absent x.entry m.types

-- Parameters that are a list: at most four.
abbrev pub parameters_range : Content → ℕ → ℕ → Bool
parameters_range m first count = past_end first count m.lists || nat_lt 4 count

-- Slots or fields, a list that begins with the parameters: at most eight, and at most four parameters, no more than there are slots.
abbrev pub slots_range : Content → ℕ → ℕ → ℕ → Bool
slots_range m first parameters slots = past_end first slots m.lists || nat_lt 8 slots || nat_lt 4 parameters || nat_lt slots parameters

abbrev pub constructor_range : Content → ConstructorRow → Bool
constructor_range m x = parameters_range m x.first x.count

-- Nodes that a row uses.
abbrev pub uses_absent : Content → List ℕ → Bool
uses_absent m uses = list_any (nat_le (length m.nodes)) uses

abbrev pub function_range : Content → FunctionRow → Bool
function_range m x = absent x.result m.types || slots_range m x.slots_first x.parameters x.slots || uses_absent m (function_uses x)

abbrev pub interface_range : Content → InterfaceRow → Bool
interface_range m x = past_end x.first x.count m.signatures

abbrev pub signature_range : Content → SignatureRow → Bool
signature_range m x = absent x.result m.types || parameters_range m x.first x.count

abbrev pub class_range : Content → ClassRow → Bool
class_range m x = nat_lt 1 x.outside
    || past_end x.interfaces_first x.interfaces_count m.lists
    || slots_range m x.fields_first x.parameters x.fields
    || past_end x.methods_first x.methods_count m.methods

abbrev pub method_range : Content → MethodRow → Bool
method_range m x = absent x.result m.types
    || slots_range m x.slots_first x.parameters x.slots
    || past_end x.statements_first x.statements_count m.statements

-- The least and the most children that a node of a kind has.
abbrev pub node_counts : NodeKind → ℕ × ℕ
node_counts node.Unit = (0, 0)
node_counts node.False = (0, 0)
node_counts node.True = (0, 0)
node_counts node.Int = (0, 0)
node_counts node.Null = (0, 0)
node_counts node.Slot = (0, 0)
node_counts node.This = (0, 0)
node_counts node.Constructor = (0, 4)
node_counts node.Function = (0, 4)
node_counts node.Case = (1, 1)
node_counts node.Add = (2, 2)
node_counts node.Subtract = (2, 2)
node_counts node.Divide = (2, 2)
node_counts node.Less = (2, 2)
node_counts node.Equal = (2, 2)
node_counts node.Not = (1, 1)
node_counts node.And = (2, 2)
node_counts node.Wildcard = (0, 0)
node_counts node.Variable = (0, 0)

-- a count that is none of those
abbrev pub wrong_count : ℕ × ℕ → ℕ → Bool
wrong_count counts count = nat_lt count counts.0 || nat_lt counts.1 count

-- What the kind of a node refers to. Numbers and slots refer to no row.
abbrev pub node_absent : Content → ℕ → NodeKind → Bool
node_absent m ref node.Unit = false
node_absent m ref node.False = false
node_absent m ref node.True = false
node_absent m ref node.Int = false
node_absent m ref node.Null = absent ref m.types
node_absent m ref node.Slot = false
node_absent m ref node.This = absent ref m.types
node_absent m ref node.Constructor = absent ref m.constructors
node_absent m ref node.Function = absent ref m.functions
node_absent m ref node.Case = absent ref m.branches
node_absent m ref node.Add = false
node_absent m ref node.Subtract = false
node_absent m ref node.Divide = false
node_absent m ref node.Less = false
node_absent m ref node.Equal = false
node_absent m ref node.Not = false
node_absent m ref node.And = false
node_absent m ref node.Wildcard = false
node_absent m ref node.Variable = false

abbrev pub node_range_as : Content → NodeRow → Option NodeKind → Bool
node_range_as m x None = true
node_range_as m x (Some kind) = wrong_count (node_counts kind) x.count || node_absent m x.reference kind || uses_absent m (node_uses x)

abbrev pub node_range : Content → NodeRow → Bool
node_range m x = node_range_as m x (node_kind x.kind)

-- A branch: a flag that is 0 or 1, and a next row where it says that there is one.
abbrev pub branch_range : Content → ℕ → BranchRow → Bool
branch_range m r x = nat_lt 1 x.more || (x.more == 1 && absent (r + 1) m.branches) || uses_absent m (branch_uses x)

-- The least and the most parts that a statement of a kind has.
abbrev pub statement_counts : StatementKind → ℕ × ℕ
statement_counts statement.Skip = (0, 0)
statement_counts statement.Assign = (1, 1)
statement_counts statement.Branch = (1, 1)
statement_counts statement.Suspend = (0, 0)
statement_counts statement.Await = (1, 4)
statement_counts statement.Get = (1, 1)
statement_counts statement.New = (0, 4)
statement_counts statement.NewGroup = (0, 4)
statement_counts statement.AsyncCall = (0, 4)
statement_counts statement.SyncCall = (0, 4)
statement_counts statement.Return = (1, 1)

-- The rows that a statement of a kind refers to: the next statement, the other one, and the class of a new object.
abbrev pub statement_absent : Content → StatementRow → StatementKind → Bool
statement_absent m x statement.Skip = absent x.next m.statements
statement_absent m x statement.Assign = absent x.next m.statements
statement_absent m x statement.Branch = absent x.next m.statements || absent x.other m.statements
statement_absent m x statement.Suspend = absent x.next m.statements
statement_absent m x statement.Await = absent x.next m.statements
statement_absent m x statement.Get = absent x.next m.statements
statement_absent m x statement.New = absent x.next m.statements || absent x.reference m.classes
statement_absent m x statement.NewGroup = absent x.next m.statements || absent x.reference m.classes
statement_absent m x statement.AsyncCall = absent x.next m.statements
statement_absent m x statement.SyncCall = absent x.next m.statements
statement_absent m x statement.Return = false

abbrev pub statement_range_as : Content → StatementRow → Option StatementKind → Bool
statement_range_as m x None = true
statement_range_as m x (Some kind) = wrong_count (statement_counts kind) x.count || statement_absent m x kind || uses_absent m (statement_uses x)

abbrev pub statement_range : Content → StatementRow → Bool
statement_range m x = statement_range_as m x (statement_kind x.kind)

-- Which places break the rule.
abbrev pub range_broken : Content → Table → ℕ → Bool
range_broken m table.Header r = false
range_broken m table.Types r = at m.types r (type_range m)
range_broken m table.Lists r = at m.lists r (list_range m)
range_broken m table.Constructors r = at m.constructors r (constructor_range m)
range_broken m table.Functions r = at m.functions r (function_range m)
range_broken m table.Interfaces r = at m.interfaces r (interface_range m)
range_broken m table.Signatures r = at m.signatures r (signature_range m)
range_broken m table.Classes r = at m.classes r (class_range m)
range_broken m table.Methods r = at m.methods r (method_range m)
range_broken m table.Nodes r = at m.nodes r (node_range m)
range_broken m table.Branches r = at m.branches r (branch_range m r)
range_broken m table.Statements r = at m.statements r (statement_range m)
