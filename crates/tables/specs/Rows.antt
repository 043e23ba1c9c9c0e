-- What each row says: its numbers, column by column in the order of the format.
use Rattle.std.specs.Prelude.{ℕ, List, slice_index}
use Rattle.tables.specs.declared.rows.TypeRow.{TypeRow}
use Rattle.tables.specs.declared.rows.ListRow.{ListRow}
use Rattle.tables.specs.declared.rows.ConstructorRow.{ConstructorRow}
use Rattle.tables.specs.declared.rows.FunctionRow.{FunctionRow}
use Rattle.tables.specs.declared.rows.InterfaceRow.{InterfaceRow}
use Rattle.tables.specs.declared.rows.SignatureRow.{SignatureRow}
use Rattle.tables.specs.declared.rows.ClassRow.{ClassRow}
use Rattle.tables.specs.declared.rows.MethodRow.{MethodRow}
use Rattle.tables.specs.declared.rows.NodeRow.{NodeRow}
use Rattle.tables.specs.declared.rows.BranchRow.{BranchRow}
use Rattle.tables.specs.declared.rows.StatementRow.{StatementRow}

abbrev pub type_row : List ℕ → TypeRow
type_row ns = record { kind = slice_index ns 0; reference = slice_index ns 1 }

abbrev pub list_row : List ℕ → ListRow
list_row ns = record { entry = slice_index ns 0 }

abbrev pub constructor_row : List ℕ → ConstructorRow
constructor_row ns = record { number = slice_index ns 0; first = slice_index ns 1; count = slice_index ns 2 }

abbrev pub function_row : List ℕ → FunctionRow
function_row ns = record { result = slice_index ns 0; slots_first = slice_index ns 1; parameters = slice_index ns 2; slots = slice_index ns 3; body = slice_index ns 4 }

abbrev pub interface_row : List ℕ → InterfaceRow
interface_row ns = record { first = slice_index ns 0; count = slice_index ns 1 }

abbrev pub signature_row : List ℕ → SignatureRow
signature_row ns = record { name = slice_index ns 0; result = slice_index ns 1; first = slice_index ns 2; count = slice_index ns 3 }

abbrev pub class_row : List ℕ → ClassRow
class_row ns = record { outside = slice_index ns 0; interfaces_first = slice_index ns 1; interfaces_count = slice_index ns 2; fields_first = slice_index ns 3; parameters = slice_index ns 4; fields = slice_index ns 5; methods_first = slice_index ns 6; methods_count = slice_index ns 7 }

abbrev pub method_row : List ℕ → MethodRow
method_row ns = record { name = slice_index ns 0; result = slice_index ns 1; slots_first = slice_index ns 2; parameters = slice_index ns 3; slots = slice_index ns 4; statements_first = slice_index ns 5; statements_count = slice_index ns 6 }

abbrev pub node_row : List ℕ → NodeRow
node_row ns = record { kind = slice_index ns 0; reference = slice_index ns 1; count = slice_index ns 2; p1 = slice_index ns 3; p2 = slice_index ns 4; p3 = slice_index ns 5; p4 = slice_index ns 6 }

abbrev pub branch_row : List ℕ → BranchRow
branch_row ns = record { pattern = slice_index ns 0; body = slice_index ns 1; more = slice_index ns 2 }

abbrev pub statement_row : List ℕ → StatementRow
statement_row ns = record { kind = slice_index ns 0; target = slice_index ns 1; object = slice_index ns 2; reference = slice_index ns 3; count = slice_index ns 4; p1 = slice_index ns 5; p2 = slice_index ns 6; p3 = slice_index ns 7; p4 = slice_index ns 8; next = slice_index ns 9; other = slice_index ns 10 }
