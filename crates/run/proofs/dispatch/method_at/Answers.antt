use Rattle.std.proofs.Common.{sym}
use Rattle.tables.specs.Layout.{content}
use Rattle.run.proofs.Bounds.{few_slots}
use Rattle.run.proofs.dispatch.method_at.Goals as goal

pub returns-clause-few : goal.returns-clause-few
returns-clause-few c = few_slots (content c.args.t.now) c.requires.places c.args.row _ (sym c.in_ok-method.ensures.method)
