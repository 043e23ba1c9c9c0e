use Rattle.std.proofs.Common.{◌≡◌, ◌+◌, ◌*◌, ◌≤◌, length, Result}
use Rattle.std.specs.List.{zip}
use Rattle.tables.specs.Layout.{content}
use Rattle.evaluation.specs.declared.refusal.EvaluationRefusal.{EvaluationRefusal}
use Rattle.evaluation.specs.declared.value.Value.{Value}
use Rattle.evaluation.specs.Carried.{Ran, Work}
use Rattle.evaluation.specs.Rules.{same_pairs}
use Rattle.evaluation.proofs.evaluator.Evaluator.+comparing.Given as goal

-- the visits fall from two values to their parts; within a visit the calls go in this order
abbrev pub decreases-same : goal.decreases-same
decreases-same l = 4 * l.work.now.state.left

abbrev pub decreases-same_values : goal.decreases-same_values
decreases-same_values l = 4 * l.work.now.state.left + 3

abbrev pub decreases-same_cells : goal.decreases-same_cells
decreases-same_cells l = 4 * l.work.now.state.left + 2

abbrev pub decreases-same_parts : goal.decreases-same_parts
decreases-same_parts l = 4 * l.work.now.state.left + 1

-- what the pairs that are left come to is what all come to; visits do not rise; as many values are left on either side
abbrev pub invariant-same_parts-loop-v : goal.invariant-same_parts-loop-v
invariant-same_parts-loop-v l = record {
  rest : (r : Result Value EvaluationRefusal) (after : Work) →
      Ran (content l.self.t.now) l.self.this (same_pairs (zip l.v-iterator.a.rest.now l.v-iterator.b.rest.now)) l.work r after →
      Ran (content l.self.t.now) l.self.this (same_pairs (zip l.vs l.ws)) l.initial.work r after;
  falls : l.work.state.left ≤ l.initial.work.state.left;
  alike : length l.v-iterator.a.rest.now ≡ length l.v-iterator.b.rest.now;
}
