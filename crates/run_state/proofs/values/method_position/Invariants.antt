use Rattle.std.proofs.Common.{◌≡◌, ℕ, ◌<◌, false, get_or}
use Rattle.std.specs.Prelude.{nat_eq}
use Rattle.tables.specs.declared.rows.MethodRow.{MethodRow}
use Rattle.run_state.proofs.values.method_position.Given as goal

abbrev pub invariant-loop-method : goal.invariant-loop-method
invariant-loop-method l = record {
  row : l.row ≡ l.method-index;
  others : (k : ℕ) (d : MethodRow) → k < l.method-index → nat_eq (get_or l.methods k d).name l.name ≡ false;
}
