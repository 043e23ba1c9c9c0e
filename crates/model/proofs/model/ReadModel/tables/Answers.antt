use Rattle.std.proofs.Common.{refl}
use Rattle.tables.specs.Layout.{content}
use Rattle.model.proofs.Kept.{kept}
use Rattle.model.proofs.model.ReadModel.tables.Goals as goal

pub returns : goal.returns
returns c = record { tables = refl; kept = kept (content c.args.self.now.tables) c.args.self.now.keeps; limits = c.args.self.now.limits }
