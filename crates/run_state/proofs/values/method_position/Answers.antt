use Rattle.std.proofs.Common.{ℕ, Some, sym, ap, ◌∙◌, arith}
use Rattle.std.specs.Prelude.{nat_eq}
use Rattle.tables.specs.declared.rows.MethodRow.{MethodRow}
use Rattle.run_state.proofs.Keeping.{place_hit, place_none}
use Rattle.run_state.proofs.values.method_position.Goals as goal

pub returns-then-method-name : goal.returns-then-method-name
returns-then-method-name c =
    let xs = c.args.methods.now in
    let i = c.loop-method.method-index in
    let d : MethodRow = record { name = 0; result = 0; slots_first = 0; parameters = 0; slots = 0; statements_first = 0; statements_count = 0 } in
    record { first = ap (λ (k : ℕ). Some k) c.loop-method.invariant.row ∙ sym (place_hit (λ (y : MethodRow). nat_eq y.name c.args.name) xs i d c.loop-method-test.true (λ k lt. c.loop-method.invariant.others k d lt) (grind (arith, c.if-method-name.true))) }

pub returns : goal.returns
returns c = record { first = sym (place_none (λ (y : MethodRow). nat_eq y.name c.args.name) c.args.methods.now (λ k d lt. c.loop-method.invariant.others k d (omega (arith, lt, c.loop-method-test.false)))) }
