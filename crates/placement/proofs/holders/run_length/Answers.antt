use Rattle.std.proofs.Common.{◌≡◌, suc, ◌+◌, Bool, true, false, cond, min, List, [], ◌∷◌, length, eqb, refl, arith}
use Rattle.std.specs.List.{prefix_len}
use Rattle.tables.specs.declared.rows.BranchRow.{BranchRow}
use Rattle.placement.specs.Holders.{run_length}
use Rattle.placement.proofs.holders.run_length.Goals as goal

-- the branches that another follows, and one more if it is there
run_found : (xs : List BranchRow) → min (length xs) (prefix_len (λ x. eqb x.more 1) xs + 1) ≡ run_length xs
run_found [] = refl
run_found (x ∷ xs) = from (eqb x.more 1) (run_found xs)
  where
    from : (b : Bool) → min (length xs) (prefix_len (λ y. eqb y.more 1) xs + 1) ≡ run_length xs →
        min (suc (length xs)) (cond b (1 + prefix_len (λ y. eqb y.more 1) xs) 0 + 1) ≡ cond b (suc (run_length xs)) 1
    from true e = omega arith
    from false e = omega arith

pub returns-clause-length : goal.returns-clause-length
returns-clause-length c =
    let found = run_found c.args.branches.now in
    omega arith
