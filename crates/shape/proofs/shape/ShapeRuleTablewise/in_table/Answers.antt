use Rattle.std.proofs.Common.{◌<◌, length, sym, ◌∙◌, arith, rules}
use Rattle.std.proofs.lemmas.Bool.{eqb-false}
use Rattle.tables.specs.Layout.{content}
use Rattle.tables.specs.declared.place.TableRule.TheVariants.{Shape}
use Rattle.rules.specs.Faults.{places}
use Rattle.rules.proofs.Searches.{unasked}
use Rattle.shape.specs.Shape.{shape_broken}
use Rattle.shape.proofs.Tables.{classes_there}
use Rattle.shape.proofs.shape.ShapeRuleTablewise.in_table.Goals as goal

pub returns-in-Classes-2 : goal.returns-in-Classes-2
returns-in-Classes-2 c =
    let t = c.args.self.now.t.now in
    let m = content t in
    let some : 0 < length m.classes = omega (arith, eqb-false _ _ (sym c.is_empty.ensures ∙ c.if-is_empty.false), t.classes.ok.0) in
    record { first = rw (c.in-Classes-2.is, ← classes_there m m.classes some) (search rules) }

pub returns-in-Header : goal.returns-in-Header
returns-in-Header c =
    let m = content c.args.self.now.t.now in
    record { first = unasked Shape (shape_broken m) (places m) c.args.table (λ r. search rules) }
