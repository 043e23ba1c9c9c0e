use Rattle.std.proofs.Common.{sym}
use Rattle.run.proofs.dispatch.class_at.Goals as goal

pub returns-clause-few : goal.returns-clause-few
returns-clause-few c = (c.requires.accepted.shaped.fields c.in_ok-class.class (c.args.row, sym c.in_ok-class.ensures.class)).few_slots
