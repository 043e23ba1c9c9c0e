use Rattle.std.proofs.Common.{ℕ, Some, sym, ap, ◌∙◌, arith}
use Rattle.std.specs.Prelude.{nat_eq}
use Rattle.tables.specs.declared.rows.ConstructorRow.{ConstructorRow}
use Rattle.run_state.proofs.Keeping.{place_hit, place_none}
use Rattle.run_state.proofs.values.constructor_position.Goals as goal

pub returns-then-constructor-number : goal.returns-then-constructor-number
returns-then-constructor-number c =
    let xs = c.args.constructors.now in
    let i = c.loop-constructor.constructor-index in
    let d : ConstructorRow = record { number = 0; first = 0; count = 0 } in
    record { first = ap (λ (k : ℕ). Some k) c.loop-constructor.invariant.row ∙ sym (place_hit (λ (k : ConstructorRow). nat_eq k.number c.args.number) xs i d c.loop-constructor-test.true (λ k lt. c.loop-constructor.invariant.others k d lt) (grind (arith, c.if-constructor-number.true))) }

pub returns : goal.returns
returns c = record { first = sym (place_none (λ (k : ConstructorRow). nat_eq k.number c.args.number) c.args.constructors.now (λ k d lt. c.loop-constructor.invariant.others k d (omega (arith, lt, c.loop-constructor-test.false)))) }
