-- The kinds of types, nodes and statements by their numbers.
use Rattle.std.specs.Prelude.{ℕ, cond, List, [], ◌∷◌, Some, None, Ok, Err, Option, Result, ◌==◌}
use Rattle.tables.specs.declared.kinds.UnknownKind.{UnknownKind}
use Rattle.tables.specs.declared.kinds.TypeKind.{TypeKind}
use Rattle.tables.specs.declared.kinds.TypeKind.TheVariants as type
use Rattle.tables.specs.declared.kinds.NodeKind.{NodeKind}
use Rattle.tables.specs.declared.kinds.NodeKind.TheVariants as node
use Rattle.tables.specs.declared.kinds.StatementKind.{StatementKind}
use Rattle.tables.specs.declared.kinds.StatementKind.TheVariants as statement

-- what stands under the number `n`
abbrev pub under : {K : Type 0} → ℕ → List (ℕ × K) → Option K
under n [] = None
under n (k ∷ ks) = cond (n == k.0) (Some k.1) (under n ks)

-- the kind that stands under the number `n`, or that none does
abbrev pub known : {K : Type 0} → ℕ → Option K → Result K UnknownKind
known n None = Err (record { number = n })
known n (Some kind) = Ok kind

abbrev pub type_kind : ℕ → Option TypeKind
type_kind n = under n (
    (0, type.Unit)
    ∷ (1, type.Bool)
    ∷ (2, type.Int)
    ∷ (3, type.Data)
    ∷ (4, type.Interface)
    ∷ (5, type.Future)
    ∷ [])

abbrev pub node_kind : ℕ → Option NodeKind
node_kind n = under n (
    (0, node.Unit)
    ∷ (1, node.False)
    ∷ (2, node.True)
    ∷ (3, node.Int)
    ∷ (4, node.Null)
    ∷ (5, node.Slot)
    ∷ (6, node.This)
    ∷ (7, node.Constructor)
    ∷ (8, node.Function)
    ∷ (9, node.Case)
    ∷ (10, node.Add)
    ∷ (11, node.Subtract)
    ∷ (12, node.Divide)
    ∷ (13, node.Less)
    ∷ (14, node.Equal)
    ∷ (15, node.Not)
    ∷ (16, node.And)
    ∷ (17, node.Wildcard)
    ∷ (18, node.Variable)
    ∷ [])

abbrev pub statement_kind : ℕ → Option StatementKind
statement_kind n = under n (
    (0, statement.Skip)
    ∷ (1, statement.Assign)
    ∷ (2, statement.Branch)
    ∷ (3, statement.Suspend)
    ∷ (4, statement.Await)
    ∷ (5, statement.Get)
    ∷ (6, statement.New)
    ∷ (7, statement.NewGroup)
    ∷ (8, statement.AsyncCall)
    ∷ (9, statement.SyncCall)
    ∷ (10, statement.Return)
    ∷ [])
