-- How many slots a method has.
use Rattle.std.proofs.Common.{◌≡◌, ℕ, ◌≤◌, false, ◌||◌, Some, arith}
use Rattle.std.specs.Prelude.{nat_lt}
use Rattle.std.specs.List.{slice_get}
use Rattle.std.proofs.lemmas.Option.{slice_get_within}
use Rattle.tables.specs.declared.place.Table.TheVariants as table
use Rattle.tables.specs.declared.place.TableRule.TheVariants.{Range}
use Rattle.tables.specs.declared.rows.MethodRow.{MethodRow}
use Rattle.tables.specs.Layout.{Content}
use Rattle.rules.proofs.Rows.{at_kept, or_none}
use Rattle.range.specs.Range.{method_range, slots_range}
use Rattle.rules.specs.Words.{absent, past_end}
use Rattle.model.specs.Rules.{NoPlaceBreaks}

eight : (m : Content) (first parameters slots : ℕ) → slots_range m first parameters slots ≡ false → slots ≤ 8
eight m first parameters slots e =
    let a = or_none (past_end first slots m.lists || nat_lt 8 slots || nat_lt 4 parameters) (nat_lt slots parameters) e in
    let b = or_none (past_end first slots m.lists || nat_lt 8 slots) (nat_lt 4 parameters) a.0 in
    let d = or_none (past_end first slots m.lists) (nat_lt 8 slots) b.0 in
    grind (arith, d.1)

pub few_slots : (m : Content) → NoPlaceBreaks m → (i : ℕ) (y : MethodRow) → slice_get m.methods i ≡ Some y → y.slots ≤ 8
few_slots m keeps i y e =
    let within = slice_get_within m.methods i y e in
    let whole : method_range m y ≡ false = at_kept m.methods i (method_range m) y (keeps Range table.Methods i within) e in
    let a = or_none (absent y.result m.types || slots_range m y.slots_first y.parameters y.slots) (past_end y.statements_first y.statements_count m.statements) whole in
    let b = or_none (absent y.result m.types) (slots_range m y.slots_first y.parameters y.slots) a.0 in
    eight m y.slots_first y.parameters y.slots b.1
