-- Who holds what: a node its user, a branch its case, a method its class, a statement its method. The first row that names a
-- thing holds it.
use Rattle.std.specs.Prelude.{ℕ, suc, ◌+◌, Bool, true, false, cond, ◌&&◌, List, [], ◌∷◌, map, length, drop, Some, None, Option, ◌==◌, nat_eq, nat_le, nat_lt}
use Rattle.std.specs.List.{range_with_len, list_any}
use Rattle.tables.specs.declared.kinds.NodeKind.{NodeKind}
use Rattle.tables.specs.declared.kinds.NodeKind.TheVariants as node
use Rattle.tables.specs.declared.place.Place.{Place}
use Rattle.tables.specs.declared.place.Table.{Table}
use Rattle.tables.specs.declared.place.Table.TheVariants.{Functions, Classes, Methods, Nodes, Branches, Statements}
use Rattle.tables.specs.declared.rows.BranchRow.{BranchRow}
use Rattle.tables.specs.declared.rows.ClassRow.{ClassRow}
use Rattle.tables.specs.declared.rows.MethodRow.{MethodRow}
use Rattle.tables.specs.declared.rows.NodeRow.{NodeRow}
use Rattle.tables.specs.Kinds.{node_kind}
use Rattle.tables.specs.Layout.{Content}
use Rattle.tables.specs.Least.{or_else}
use Rattle.rules.specs.Uses.{function_uses, node_uses, branch_uses, statement_uses}

-- the holder of each row of a table, if it has one
abbrev pub Holders : Type 0
Holders = List (Option Place)

abbrev pub place : Table → ℕ → Place
place table row = record { table = table; row = row }

-- the first row that passes the test, where the rows are counted from `r` on
abbrev pub first_row : {A : Type 0} → (A → Bool) → Table → ℕ → List A → Option Place
first_row test table r [] = None
first_row test table r (x ∷ xs) = cond (test x) (Some (place table r)) (first_row test table (r + 1) xs)

-- the thing `k` is one of these, or lies in a range
abbrev pub among : ℕ → List ℕ → Bool
among k is = list_any (nat_eq k) is

abbrev pub in_range : ℕ → ℕ → ℕ → Bool
in_range k first count = nat_le first k && nat_lt k (first + count)

-- how much of a range there is in a table of `n` rows: all of it, or nothing where it passes the end
abbrev pub extent : ℕ → ℕ → ℕ → ℕ
extent first count n = cond (nat_lt n (first + count)) 0 count

-- how many branches a case has, whose first is the first of these
abbrev pub run_length : List BranchRow → ℕ
run_length [] = 0
run_length (x ∷ xs) = cond (x.more == 1) (suc (run_length xs)) 1

abbrev pub is_case : Option NodeKind → Bool
is_case None = false
is_case (Some node.Unit) = false
is_case (Some node.False) = false
is_case (Some node.True) = false
is_case (Some node.Int) = false
is_case (Some node.Null) = false
is_case (Some node.Slot) = false
is_case (Some node.This) = false
is_case (Some node.Constructor) = false
is_case (Some node.Function) = false
is_case (Some node.Case) = true
is_case (Some node.Add) = false
is_case (Some node.Subtract) = false
is_case (Some node.Divide) = false
is_case (Some node.Less) = false
is_case (Some node.Equal) = false
is_case (Some node.Not) = false
is_case (Some node.And) = false
is_case (Some node.Wildcard) = false
is_case (Some node.Variable) = false

-- how many branches a node reaches, from the one that it refers to
abbrev pub reach : List BranchRow → NodeRow → ℕ
reach branches x = cond (is_case (node_kind x.kind)) (run_length (drop x.reference branches)) 0

-- The user of a node, in the order functions, nodes, branches, statements.
abbrev pub user_of : Content → ℕ → Option Place
user_of m k =
    or_else (first_row (λ x. among k (function_uses x)) Functions 0 m.functions)
    (or_else (first_row (λ x. among k (node_uses x)) Nodes 0 m.nodes)
    (or_else (first_row (λ x. among k (branch_uses x)) Branches 0 m.branches)
    (first_row (λ x. among k (statement_uses x)) Statements 0 m.statements)))

-- The case of a branch, the class of a method, the method of a statement.
abbrev pub reaches : List BranchRow → ℕ → NodeRow → Bool
reaches branches k x = in_range k x.reference (reach branches x)

abbrev pub has_method : ℕ → ℕ → ClassRow → Bool
has_method n k x = in_range k x.methods_first (extent x.methods_first x.methods_count n)

abbrev pub has_statement : ℕ → ℕ → MethodRow → Bool
has_statement n k x = in_range k x.statements_first (extent x.statements_first x.statements_count n)

-- The holders of all rows of a table.
abbrev pub holders : {A : Type 0} → (ℕ → Option Place) → List A → Holders
holders holder xs = map holder (range_with_len 0 (length xs))

unfoldable pub node_users : Content → Holders
node_users m = holders (user_of m) m.nodes

unfoldable pub branch_cases : Content → Holders
branch_cases m = holders (λ k. first_row (reaches m.branches k) Nodes 0 m.nodes) m.branches

unfoldable pub method_classes : Content → Holders
method_classes m = holders (λ k. first_row (has_method (length m.methods) k) Classes 0 m.classes) m.methods

unfoldable pub statement_methods : Content → Holders
statement_methods m = holders (λ k. first_row (has_statement (length m.statements) k) Methods 0 m.methods) m.statements
