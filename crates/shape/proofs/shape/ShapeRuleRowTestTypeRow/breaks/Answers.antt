use Rattle.std.proofs.Common.{take, ◌∙◌, rules}
use Rattle.tables.specs.Layout.{content}
use Rattle.rules.specs.Types.{same_type}
use Rattle.shape.proofs.Folds.{fold_any}
use Rattle.shape.proofs.shape.ShapeRuleRowTestTypeRow.breaks.Goals as goal

pub returns : goal.returns
returns c = record { broken = search rules ∙ fold_any (same_type c.args.x) (take c.args.row (content c.args.self.now.t.now).types) }
