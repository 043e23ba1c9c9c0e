-- The layout of a model's bytes: a length of four bytes, a version, eleven counts, and the rows of eleven tables, one after another.
use Rattle.std.specs.Prelude.{ℕ, ◌+◌, ◌*◌, Bool, not, ◌||◌, List, length, take, drop, vec_items, ◌==◌, nat_lt, slice_index}
use Rattle.tables.specs.declared.rows.TypeRow.{TypeRow}
use Rattle.tables.specs.declared.rows.ListRow.{ListRow}
use Rattle.tables.specs.declared.rows.ConstructorRow.{ConstructorRow}
use Rattle.tables.specs.declared.rows.FunctionRow.{FunctionRow}
use Rattle.tables.specs.declared.rows.InterfaceRow.{InterfaceRow}
use Rattle.tables.specs.declared.rows.SignatureRow.{SignatureRow}
use Rattle.tables.specs.declared.rows.ClassRow.{ClassRow}
use Rattle.tables.specs.declared.rows.MethodRow.{MethodRow}
use Rattle.tables.specs.declared.rows.NodeRow.{NodeRow}
use Rattle.tables.specs.declared.rows.BranchRow.{BranchRow}
use Rattle.tables.specs.declared.rows.StatementRow.{StatementRow}
use Rattle.tables.specs.declared.tables.Counts.{Counts}
use Rattle.tables.specs.declared.tables.Tables.{Tables}
use Rattle.tables.specs.Numbers.{numbers_of, rows_of}
use Rattle.tables.specs.Rows.{type_row, list_row, constructor_row, function_row, interface_row, signature_row, class_row, method_row, node_row, branch_row, statement_row}

-- The length that the first four bytes state, of all that follows them.
abbrev pub stated_length : List ℕ → ℕ
stated_length bs = ((slice_index bs 0 * 256 + slice_index bs 1) * 256 + slice_index bs 2) * 256 + slice_index bs 3

-- The header has 27 bytes, the length is the one stated, and the version is 1; `true` where that fails.
abbrev pub wrong_length : List ℕ → Bool
wrong_length bs = nat_lt (length bs) 27 || not (stated_length bs + 4 == length bs) || not (slice_index bs 4 == 1)

-- The counts, one for each table.
abbrev pub counts : List ℕ → Counts
counts ns = record {
  types = slice_index ns 0;
  lists = slice_index ns 1;
  constructors = slice_index ns 2;
  functions = slice_index ns 3;
  interfaces = slice_index ns 4;
  signatures = slice_index ns 5;
  classes = slice_index ns 6;
  methods = slice_index ns 7;
  nodes = slice_index ns 8;
  branches = slice_index ns 9;
  statements = slice_index ns 10;
}

-- A table may have 255 rows, but the nodes 1,024 and the statements 512; `true` where there are more.
abbrev pub over_limit : Counts → Bool
over_limit c = nat_lt 255 c.types || nat_lt 255 c.lists || nat_lt 255 c.constructors || nat_lt 255 c.functions || nat_lt 255 c.interfaces || nat_lt 255 c.signatures || nat_lt 255 c.classes || nat_lt 255 c.methods || nat_lt 1024 c.nodes || nat_lt 255 c.branches || nat_lt 512 c.statements

-- How many numbers the rows of all tables have.
abbrev pub cells_of : Counts → ℕ
cells_of c = c.types * 2 + c.lists * 1 + c.constructors * 3 + c.functions * 5 + c.interfaces * 2 + c.signatures * 4 + c.classes * 8 + c.methods * 7 + c.nodes * 7 + c.branches * 3 + c.statements * 11

-- The counts in the header of a model.
abbrev pub header_counts : List ℕ → Counts
header_counts bs = counts (numbers_of (take 22 (drop 5 bs)))

-- The counts keep their limits, and the rows fill what the header leaves; `true` where that fails.
abbrev pub wrong_counts : List ℕ → Bool
wrong_counts bs = over_limit (header_counts bs) || not (27 + 2 * cells_of (header_counts bs) == length bs)

-- Where each table but the first begins among the numbers behind the header.
abbrev pub lists_at : Counts → ℕ
lists_at c = c.types * 2

abbrev pub constructors_at : Counts → ℕ
constructors_at c = lists_at c + c.lists * 1

abbrev pub functions_at : Counts → ℕ
functions_at c = constructors_at c + c.constructors * 3

abbrev pub interfaces_at : Counts → ℕ
interfaces_at c = functions_at c + c.functions * 5

abbrev pub signatures_at : Counts → ℕ
signatures_at c = interfaces_at c + c.interfaces * 2

abbrev pub classes_at : Counts → ℕ
classes_at c = signatures_at c + c.signatures * 4

abbrev pub methods_at : Counts → ℕ
methods_at c = classes_at c + c.classes * 8

abbrev pub nodes_at : Counts → ℕ
nodes_at c = methods_at c + c.methods * 7

abbrev pub branches_at : Counts → ℕ
branches_at c = nodes_at c + c.nodes * 7

abbrev pub statements_at : Counts → ℕ
statements_at c = branches_at c + c.branches * 3

-- What the eleven tables hold.
pub record Content : Type 0 where
  pub types : List TypeRow
  pub lists : List ListRow
  pub constructors : List ConstructorRow
  pub functions : List FunctionRow
  pub interfaces : List InterfaceRow
  pub signatures : List SignatureRow
  pub classes : List ClassRow
  pub methods : List MethodRow
  pub nodes : List NodeRow
  pub branches : List BranchRow
  pub statements : List StatementRow

abbrev pub content : Tables → Content
content t = record {
  types = vec_items t.types;
  lists = vec_items t.lists;
  constructors = vec_items t.constructors;
  functions = vec_items t.functions;
  interfaces = vec_items t.interfaces;
  signatures = vec_items t.signatures;
  classes = vec_items t.classes;
  methods = vec_items t.methods;
  nodes = vec_items t.nodes;
  branches = vec_items t.branches;
  statements = vec_items t.statements;
}

-- The tables, as the counts cut them from the numbers behind the header.
abbrev pub cut : Counts → List ℕ → Content
cut c ns = record {
  types = rows_of 2 type_row c.types ns;
  lists = rows_of 1 list_row c.lists (drop (lists_at c) ns);
  constructors = rows_of 3 constructor_row c.constructors (drop (constructors_at c) ns);
  functions = rows_of 5 function_row c.functions (drop (functions_at c) ns);
  interfaces = rows_of 2 interface_row c.interfaces (drop (interfaces_at c) ns);
  signatures = rows_of 4 signature_row c.signatures (drop (signatures_at c) ns);
  classes = rows_of 8 class_row c.classes (drop (classes_at c) ns);
  methods = rows_of 7 method_row c.methods (drop (methods_at c) ns);
  nodes = rows_of 7 node_row c.nodes (drop (nodes_at c) ns);
  branches = rows_of 3 branch_row c.branches (drop (branches_at c) ns);
  statements = rows_of 11 statement_row c.statements (drop (statements_at c) ns);
}

abbrev pub content_of : List ℕ → Content
content_of bs = cut (header_counts bs) (numbers_of (drop 27 bs))
