-- Claims, by which the holders are found: rows claim what they name, one after another, and a thing goes to who claims it first.
use Rattle.std.specs.Prelude.{ℕ, zero, suc, ◌+◌, List, [], ◌∷◌, length, Some, None, Option, slice_index_or, slice_set}
use Rattle.tables.specs.declared.place.Place.{Place}
use Rattle.tables.specs.declared.place.Table.{Table}
use Rattle.tables.specs.declared.place.Table.TheVariants.{Functions, Classes, Methods, Nodes, Branches, Statements}
use Rattle.tables.specs.declared.rows.BranchRow.{BranchRow}
use Rattle.tables.specs.declared.rows.ClassRow.{ClassRow}
use Rattle.tables.specs.declared.rows.MethodRow.{MethodRow}
use Rattle.tables.specs.declared.rows.NodeRow.{NodeRow}
use Rattle.tables.specs.Layout.{Content}
use Rattle.rules.specs.Uses.{function_uses, node_uses, branch_uses, statement_uses}
use Rattle.placement.specs.Holders.{Holders, place, extent, reach}

-- the first where nobody holds the thing, else the second
abbrev pub if_free : Option Place → Holders → Holders → Holders
if_free None first second = first
if_free (Some holder) first second = second

-- a claim of the thing `i`, if there is one
abbrev pub claim : Place → Holders → ℕ → Holders
claim by held i = if_free (slice_index_or held i (Some by)) (slice_set held i (Some by)) held

abbrev pub claim_all : Place → Holders → List ℕ → Holders
claim_all by held [] = held
claim_all by held (i ∷ is) = claim_all by (claim by held i) is

abbrev pub claim_range : Place → Holders → ℕ → ℕ → Holders
claim_range by held first zero = held
claim_range by held first (suc count) = claim_range by (claim by held first) (first + 1) count

-- the claims of rows, from row `r` on
abbrev pub claim_rows : {A : Type 0} → (Holders → ℕ → A → Holders) → Holders → ℕ → List A → Holders
claim_rows claims held r [] = held
claim_rows claims held r (x ∷ xs) = claim_rows claims (claims held r x) (r + 1) xs

-- What a row of each kind claims.
abbrev pub claim_uses : {A : Type 0} → Table → (A → List ℕ) → Holders → ℕ → A → Holders
claim_uses table uses held r x = claim_all (place table r) held (uses x)

abbrev pub claim_branches : List BranchRow → Holders → ℕ → NodeRow → Holders
claim_branches branches held r x = claim_range (place Nodes r) held x.reference (reach branches x)

abbrev pub claim_methods : Holders → ℕ → ClassRow → Holders
claim_methods held r x = claim_range (place Classes r) held x.methods_first (extent x.methods_first x.methods_count (length held))

abbrev pub claim_statements : Holders → ℕ → MethodRow → Holders
claim_statements held r x =
    claim_range (place Methods r) held x.statements_first (extent x.statements_first x.statements_count (length held))

-- What all rows that use nodes claim.
abbrev pub claim_nodes : Content → Holders → Holders
claim_nodes m held =
    let functions : Holders = claim_rows (claim_uses Functions function_uses) held 0 m.functions in
    let nodes : Holders = claim_rows (claim_uses Nodes node_uses) functions 0 m.nodes in
    let branches : Holders = claim_rows (claim_uses Branches branch_uses) nodes 0 m.branches in
    claim_rows (claim_uses Statements statement_uses) branches 0 m.statements
