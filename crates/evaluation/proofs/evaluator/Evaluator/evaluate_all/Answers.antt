use Rattle.std.proofs.Common.{Err, refl}
use Rattle.tables.specs.Layout.{content}
use Rattle.evaluation.specs.Rules.{all_of}
use Rattle.evaluation.proofs.Evaluating.{refused, returned}
use Rattle.evaluation.proofs.TypedWorths.{keeps_each_type}
use Rattle.evaluation.proofs.evaluator.Evaluator.evaluate_all.Goals as goal

-- what the evaluations come to, and their types
pub returns-in-Err : goal.returns-in-Err
returns-in-Err c =
    let m = content c.args.self.now.t.now in
    let cells = c.cut_cells.ensures.cells in
    let h = refused m c.args.self.now.this (all_of c.args.rows.now) (Err c.in-Err.refusal) {w = c.args.work.now} refl (rw c.new-worths.ensures.none at c.in-Err.ensures.ran)
    (rw c.cells-cells.ensures.cells at cells) c.cut_cells.ensures.left c.cut_cells.ensures.bindings c.cut_cells.ensures.capacity in
    record { evaluates = h; keeps_types = keeps_each_type m c.args.self.now.this c.args.rows.now h }

pub returns : goal.returns
returns c =
    let m = content c.args.self.now.t.now in
    let h = returned m c.args.self.now.this (all_of c.args.rows.now) {w = c.args.work.now} (rw c.new-worths.ensures.none at c.in_default.ensures.ran) in
    record { evaluates = h; keeps_types = keeps_each_type m c.args.self.now.this c.args.rows.now h }
