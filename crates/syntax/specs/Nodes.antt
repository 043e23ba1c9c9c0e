-- What a row of the nodes says.
use Rattle.std.specs.Prelude.{ℕ, List, [], ◌∷◌, take, Some, None, Option}
use Rattle.std.specs.List.{slice_get}
use Rattle.tables.specs.declared.kinds.NodeKind.{NodeKind}
use Rattle.tables.specs.declared.kinds.NodeKind.TheVariants as kind
use Rattle.tables.specs.declared.rows.NodeRow.{NodeRow}
use Rattle.tables.specs.Kinds.{node_kind}
use Rattle.tables.specs.Layout.{Content}
use Rattle.syntax.specs.declared.nodes.Node.{Node}
use Rattle.syntax.specs.declared.nodes.Node.TheVariants as node
use Rattle.syntax.specs.declared.nodes.Parts.{Parts}
use Rattle.syntax.specs.Rows.{given}

-- the rows of the parts: the first `count` of the four
abbrev pub parts : Parts → List ℕ
parts p = take p.count p.rows

-- the children of a node: the first `count` of p1 to p4
abbrev pub children_of : NodeRow → Parts
children_of x = record { rows = x.p1 ∷ x.p2 ∷ x.p3 ∷ x.p4 ∷ []; count = x.count }

-- what a row says under each kind, and nothing under a kind that is unknown
abbrev pub node_as : NodeRow → Option NodeKind → Option Node
node_as x None = None
node_as x (Some kind.Unit) = Some node.Unit
node_as x (Some kind.False) = Some node.False
node_as x (Some kind.True) = Some node.True
node_as x (Some kind.Int) = Some (node.Int x.reference)
node_as x (Some kind.Null) = Some (node.Null x.reference)
node_as x (Some kind.Slot) = Some (node.Slot x.reference)
node_as x (Some kind.This) = Some (node.This x.reference)
node_as x (Some kind.Constructor) = Some (node.Constructor x.reference (children_of x))
node_as x (Some kind.Function) = Some (node.Function x.reference (children_of x))
node_as x (Some kind.Case) = Some (node.Case x.p1 x.reference)
node_as x (Some kind.Add) = Some (node.Add x.p1 x.p2)
node_as x (Some kind.Subtract) = Some (node.Subtract x.p1 x.p2)
node_as x (Some kind.Divide) = Some (node.Divide x.p1 x.p2)
node_as x (Some kind.Less) = Some (node.Less x.p1 x.p2)
node_as x (Some kind.Equal) = Some (node.Equal x.p1 x.p2)
node_as x (Some kind.Not) = Some (node.Not x.p1)
node_as x (Some kind.And) = Some (node.And x.p1 x.p2)
node_as x (Some kind.Wildcard) = Some node.Wildcard
node_as x (Some kind.Variable) = Some (node.Variable x.reference)

-- what a row says
abbrev pub node_of : NodeRow → Option Node
node_of x = node_as x (node_kind x.kind)

-- the node in a row
abbrev pub node_at : Content → ℕ → Option Node
node_at m row = given (slice_get m.nodes row) node_of
