use Rattle.std.proofs.Common.{◌∙◌}
use Rattle.tables.specs.Layout.{content}
use Rattle.tables.specs.declared.place.TableRule.TheVariants.{Range}
use Rattle.rules.proofs.Searches.{class_rows}
use Rattle.range.specs.Range.{class_range}
use Rattle.range.proofs.RangeRuleTablewise.in_table.Goals as goal

pub returns-in-Classes : goal.returns-in-Classes
returns-in-Classes c =
    let m = content c.args.self.now.0.now in
    let first = rw (c.deref-in-Classes.ensures.value, c.in-Classes.is) at c.first_row-in-Classes.ensures.first in
    record { first = rw c.in-Classes.is (first ∙ class_rows m.classes (λ r x. class_range m x) Range) }
