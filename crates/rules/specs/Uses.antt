-- Which nodes a row uses: a function its body, a node its children, a branch its pattern and body, a statement its parts
-- and the object that it calls. The slots of an await are no nodes.
use Rattle.std.specs.Prelude.{ℕ, ◌-◌, cond, List, [], ◌∷◌, ◌++◌, take, Some, None, Option, ◌==◌}
use Rattle.tables.specs.declared.kinds.StatementKind.{StatementKind}
use Rattle.tables.specs.declared.kinds.StatementKind.TheVariants.{Skip, Assign, Branch, Suspend, Await, Get, New, NewGroup, AsyncCall, SyncCall, Return}
use Rattle.tables.specs.declared.rows.FunctionRow.{FunctionRow}
use Rattle.tables.specs.declared.rows.NodeRow.{NodeRow}
use Rattle.tables.specs.declared.rows.BranchRow.{BranchRow}
use Rattle.tables.specs.declared.rows.StatementRow.{StatementRow}
use Rattle.tables.specs.Kinds.{statement_kind}

abbrev pub function_uses : FunctionRow → List ℕ
function_uses x = x.body ∷ []

abbrev pub node_uses : NodeRow → List ℕ
node_uses x = take x.count (x.p1 ∷ x.p2 ∷ x.p3 ∷ x.p4 ∷ [])

abbrev pub branch_uses : BranchRow → List ℕ
branch_uses x = x.pattern ∷ x.body ∷ []

-- an object is a node's row and 1 more, or 0 for `this`
abbrev pub object_uses : StatementRow → List ℕ
object_uses x = cond (x.object == 0) [] ((x.object - 1) ∷ [])

abbrev pub part_uses : StatementRow → List ℕ
part_uses x = take x.count (x.p1 ∷ x.p2 ∷ x.p3 ∷ x.p4 ∷ [])

abbrev pub uses_as : StatementRow → Option StatementKind → List ℕ
uses_as x None = []
uses_as x (Some Skip) = part_uses x
uses_as x (Some Assign) = part_uses x
uses_as x (Some Branch) = part_uses x
uses_as x (Some Suspend) = part_uses x
uses_as x (Some Await) = []
uses_as x (Some Get) = part_uses x
uses_as x (Some New) = part_uses x
uses_as x (Some NewGroup) = part_uses x
uses_as x (Some AsyncCall) = object_uses x ++ part_uses x
uses_as x (Some SyncCall) = object_uses x ++ part_uses x
uses_as x (Some Return) = part_uses x

abbrev pub statement_uses : StatementRow → List ℕ
statement_uses x = uses_as x (statement_kind x.kind)
