use Rattle.std.proofs.Common.{◌≡◌, ℕ, ◌<◌, false, get_or}
use Rattle.std.specs.Prelude.{nat_eq}
use Rattle.tables.specs.declared.rows.ConstructorRow.{ConstructorRow}
use Rattle.run_state.proofs.values.constructor_position.Given as goal

abbrev pub invariant-loop-constructor : goal.invariant-loop-constructor
invariant-loop-constructor l = record {
  row : l.row ≡ l.constructor-index;
  others : (k : ℕ) (d : ConstructorRow) → k < l.constructor-index → nat_eq (get_or l.constructors k d).number l.number ≡ false;
}
