use Rattle.std.proofs.Common.{sym}
use Rattle.run.specs.Views.{run_seen}
use Rattle.run.proofs.Called.{within}
use Rattle.run.proofs.run.Run.dispatch.Goals as goal

pub returns-clause-there : goal.returns-clause-there
returns-clause-there c = rw (← c.self.view_is) (within (run_seen c.self.inside).at.objects c.args.object c.in_ok-called.called.now (sym c.in_ok-called.ensures.object))
