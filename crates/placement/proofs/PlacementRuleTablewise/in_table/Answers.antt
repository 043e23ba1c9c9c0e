use Rattle.std.proofs.Common.{rules}
use Rattle.tables.specs.Layout.{content}
use Rattle.tables.specs.declared.place.TableRule.TheVariants.{Placement}
use Rattle.rules.proofs.Searches.{class_rows, unasked}
use Rattle.rules.specs.Faults.{places}
use Rattle.placement.specs.Holders.{method_classes}
use Rattle.placement.specs.Placement.{class_placement, placement_broken}
use Rattle.placement.proofs.PlacementRuleTablewise.in_table.Goals as goal

pub returns-in-Header : goal.returns-in-Header
returns-in-Header c =
    let m = content c.args.self.now.t.now in
    record { first = unasked Placement (placement_broken m) (places m) c.args.table (λ r. search rules) }

pub returns-in-Classes : goal.returns-in-Classes
returns-in-Classes c =
    let m = content c.args.self.now.t.now in
    record { first = rw (c.in-Classes.is, ← class_rows m.classes (class_placement (method_classes m)) Placement) (search rules) }
