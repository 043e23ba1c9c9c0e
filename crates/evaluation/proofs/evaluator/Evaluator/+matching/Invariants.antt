use Rattle.std.proofs.Common.{◌≡◌, ◌+◌, ◌*◌, ◌≤◌, Bool, length, Result}
use Rattle.std.specs.List.{zip}
use Rattle.tables.specs.Layout.{content}
use Rattle.typing.specs.Room.{free}
use Rattle.evaluation.specs.declared.refusal.EvaluationRefusal.{EvaluationRefusal}
use Rattle.evaluation.specs.Carried.{Tried, Work, environment}
use Rattle.evaluation.specs.Matching.{pairs_fit}
use Rattle.evaluation.specs.Views.{lower_fits}
use Rattle.evaluation.proofs.evaluator.Evaluator.+matching.Given as goal

-- the row falls from a pattern to its children; within a row the calls go in this order
abbrev pub decreases-fits : goal.decreases-fits
decreases-fits l = 6 * l.row + 5

abbrev pub decreases-node_fits : goal.decreases-node_fits
decreases-node_fits l = 6 * l.at.row + 4

abbrev pub decreases-constructor_fits : goal.decreases-constructor_fits
decreases-constructor_fits l = 6 * l.at.row + 3

abbrev pub decreases-cell_fits : goal.decreases-cell_fits
decreases-cell_fits l = 6 * l.at.row + 2

abbrev pub decreases-parts_fit : goal.decreases-parts_fit
decreases-parts_fit l = 6 * l.at.row + 1

abbrev pub decreases-child_fits : goal.decreases-child_fits
decreases-child_fits l = 6 * l.at.row

-- what the children that are left answer is what all answer; the activation's bindings are there, with room for the slots that it
-- has not bound; as many parts are left
abbrev pub invariant-parts_fit-loop-child : goal.invariant-parts_fit-loop-child
invariant-parts_fit-loop-child l = record {
  rest : (r : Result Bool EvaluationRefusal) (after : Work) →
      Tried (content l.self.t.now) l.self.this
      (pairs_fit (lower_fits l.self l.at.row) (zip l.child-iterator.a.rest.now l.child-iterator.b.rest.now) (environment l.at.base l.work)) l.at.base l.work r after →
      Tried (content l.self.t.now) l.self.this
      (pairs_fit (lower_fits l.self l.at.row) (zip l.children l.parts) (environment l.at.base l.initial.work)) l.at.base l.initial.work r after;
  own : l.at.base ≤ length l.work.bindings;
  room : length l.work.bindings + free 8 (environment l.at.base l.work) + 4 * l.work.state.left ≤ l.work.capacity;
  alike : length l.child-iterator.a.rest.now ≡ length l.child-iterator.b.rest.now;
}
