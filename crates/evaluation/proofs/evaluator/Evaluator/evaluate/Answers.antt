use Rattle.std.proofs.Common.{Err, refl}
use Rattle.tables.specs.Layout.{content}
use Rattle.evaluation.specs.Plans.{ask}
use Rattle.evaluation.proofs.Evaluating.{refused, returned}
use Rattle.evaluation.proofs.TypedWorths.{keeps_types}
use Rattle.evaluation.proofs.evaluator.Evaluator.evaluate.Goals as goal

-- what an evaluation comes to, and its types
pub returns-in-Err : goal.returns-in-Err
returns-in-Err c =
    let m = content c.args.self.now.t.now in
    let cells = c.cut_cells.ensures.cells in
    let h = refused m c.args.self.now.this (ask c.args.row) (Err c.in-Err.refusal) refl c.in-Err.ensures.ran (rw c.cells-cells.ensures.cells at cells)
    c.cut_cells.ensures.left c.cut_cells.ensures.bindings c.cut_cells.ensures.capacity in
    record { evaluates = h; keeps_types = keeps_types m c.args.self.now.this c.args.row h }

pub returns : goal.returns
returns c =
    let m = content c.args.self.now.t.now in
    let h = returned m c.args.self.now.this (ask c.args.row) c.in_default.ensures.ran in
    record { evaluates = h; keeps_types = keeps_types m c.args.self.now.this c.args.row h }
