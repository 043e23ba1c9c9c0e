use Rattle.std.proofs.Common.{rules}
use Rattle.tables.specs.Layout.{content}
use Rattle.tables.specs.declared.place.TableRule.TheVariants.{Method}
use Rattle.rules.specs.Faults.{places}
use Rattle.rules.proofs.Searches.{class_rows, unasked}
use Rattle.shape.specs.Methods.{class_method, method_broken}
use Rattle.shape.proofs.methods.MethodRuleTablewise.in_table.Goals as goal

pub returns-in-Classes : goal.returns-in-Classes
returns-in-Classes c =
    let m = content c.args.self.now.0.now in
    record { first = rw (c.in-Classes.is, ← class_rows m.classes (λ r x. class_method m x) Method) (search rules) }

pub returns-in-Header : goal.returns-in-Header
returns-in-Header c =
    let m = content c.args.self.now.0.now in
    record { first = unasked Method (method_broken m) (places m) c.args.table (λ r. search rules) }
