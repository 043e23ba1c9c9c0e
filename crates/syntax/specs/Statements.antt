-- What a row of the statements says.
use Rattle.std.specs.Prelude.{ℕ, ◌-◌, cond, [], ◌∷◌, Some, None, Option, ◌==◌}
use Rattle.tables.specs.declared.kinds.StatementKind.{StatementKind}
use Rattle.tables.specs.declared.kinds.StatementKind.TheVariants as kind
use Rattle.tables.specs.declared.rows.StatementRow.{StatementRow}
use Rattle.tables.specs.Kinds.{statement_kind}
use Rattle.syntax.specs.declared.nodes.Parts.{Parts}
use Rattle.syntax.specs.declared.statements.Group.{Group}
use Rattle.syntax.specs.declared.statements.Group.TheVariants as group
use Rattle.syntax.specs.declared.statements.Manner.{Manner}
use Rattle.syntax.specs.declared.statements.Manner.TheVariants as manner
use Rattle.syntax.specs.declared.statements.Statement.{Statement}
use Rattle.syntax.specs.declared.statements.Statement.TheVariants as statement

-- a target is a slot, an object a node, written as one more; 0 is none
abbrev pub one_less : ℕ → Option ℕ
one_less n = cond (n == 0) None (Some (n - 1))

-- the arguments, or the slots of an await: the first `count` of p1 to p4
abbrev pub parts_of : StatementRow → Parts
parts_of x = record { rows = x.p1 ∷ x.p2 ∷ x.p3 ∷ x.p4 ∷ []; count = x.count }

-- a new object, in the group of its maker or in a new one
abbrev pub new_of : StatementRow → Group → Statement
new_of x g = statement.New (one_less x.target) (record { group = g; class = x.reference; arguments = parts_of x }) x.next

-- a call, asynchronous or synchronous
abbrev pub call_of : StatementRow → Manner → Statement
call_of x how =
    statement.Call (one_less x.target) (record { manner = how; object = one_less x.object; name = x.reference; arguments = parts_of x }) x.next

-- what a row says under each kind, and nothing under a kind that is unknown
abbrev pub statement_as : StatementRow → Option StatementKind → Option Statement
statement_as x None = None
statement_as x (Some kind.Skip) = Some (statement.Skip x.next)
statement_as x (Some kind.Assign) = Some (statement.Assign (one_less x.target) x.p1 x.next)
statement_as x (Some kind.Branch) = Some (statement.Branch x.p1 x.next x.other)
statement_as x (Some kind.Suspend) = Some (statement.Suspend x.next)
statement_as x (Some kind.Await) = Some (statement.Await (parts_of x) x.next)
statement_as x (Some kind.Get) = Some (statement.Get (one_less x.target) x.p1 x.next)
statement_as x (Some kind.New) = Some (new_of x group.Own)
statement_as x (Some kind.NewGroup) = Some (new_of x group.New)
statement_as x (Some kind.AsyncCall) = Some (call_of x manner.Asynchronous)
statement_as x (Some kind.SyncCall) = Some (call_of x manner.Synchronous)
statement_as x (Some kind.Return) = Some (statement.Return x.p1)

-- what a row says
abbrev pub statement_of : StatementRow → Option Statement
statement_of x = statement_as x (statement_kind x.kind)
