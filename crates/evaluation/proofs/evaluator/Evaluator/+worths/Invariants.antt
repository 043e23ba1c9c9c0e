use Rattle.std.proofs.Common.{◌≡◌, ◌+◌, ◌*◌, ◌≤◌, List, length, take, drop, Result}
use Rattle.placement.specs.Holders.{run_length}
use Rattle.tables.specs.Layout.{content}
use Rattle.evaluation.specs.declared.refusal.EvaluationRefusal.{EvaluationRefusal}
use Rattle.evaluation.specs.declared.value.Value.{Value}
use Rattle.evaluation.specs.Carried.{Ran, Work, environment}
use Rattle.evaluation.specs.Rules.{gathered, chosen}
use Rattle.evaluation.specs.Values.{values_of}
use Rattle.evaluation.proofs.evaluator.Evaluator.+worths.Given as goal

-- the visits fall from a node to its children; within a visit the calls go in this order
abbrev pub decreases-node_worth : goal.decreases-node_worth
decreases-node_worth l = 16 * l.work.now.state.left + 15

abbrev pub decreases-data : goal.decreases-data
decreases-data l = 16 * l.work.now.state.left + 14

abbrev pub decreases-call : goal.decreases-call
decreases-call l = 16 * l.work.now.state.left + 14

abbrev pub decreases-case : goal.decreases-case
decreases-case l = 16 * l.work.now.state.left + 14

abbrev pub decreases-sum : goal.decreases-sum
decreases-sum l = 16 * l.work.now.state.left + 14

abbrev pub decreases-difference : goal.decreases-difference
decreases-difference l = 16 * l.work.now.state.left + 14

abbrev pub decreases-quotient : goal.decreases-quotient
decreases-quotient l = 16 * l.work.now.state.left + 14

abbrev pub decreases-comparison : goal.decreases-comparison
decreases-comparison l = 16 * l.work.now.state.left + 14

abbrev pub decreases-equality : goal.decreases-equality
decreases-equality l = 16 * l.work.now.state.left + 14

abbrev pub decreases-negation : goal.decreases-negation
decreases-negation l = 16 * l.work.now.state.left + 14

abbrev pub decreases-conjunction : goal.decreases-conjunction
decreases-conjunction l = 16 * l.work.now.state.left + 14

abbrev pub decreases-called : goal.decreases-called
decreases-called l = 16 * l.work.now.state.left + 13

abbrev pub decreases-chosen : goal.decreases-chosen
decreases-chosen l = 16 * l.work.now.state.left + 13

abbrev pub decreases-branch_worth : goal.decreases-branch_worth
decreases-branch_worth l = 16 * l.work.now.state.left + 12

abbrev pub decreases-taken : goal.decreases-taken
decreases-taken l = 16 * l.work.now.state.left + 11

abbrev pub decreases-operands : goal.decreases-operands
decreases-operands l = 16 * l.work.now.state.left + 10

abbrev pub decreases-worths : goal.decreases-worths
decreases-worths l = 16 * l.work.now.state.left + 9

abbrev pub decreases-worth : goal.decreases-worth
decreases-worth l = 16 * l.work.now.state.left

-- what the nodes that are left come to, behind the worths that there are, is what all come to
abbrev pub invariant-worths-loop-row : goal.invariant-worths-loop-row
invariant-worths-loop-row l = record {
  rest : (r : Result (List Value) EvaluationRefusal) (after : Work) →
      Ran (content l.self.t.now) l.self.this (gathered (values_of l.worths) (drop l.row-index l.rows) (environment l.base l.initial.work)) l.work r after →
      Ran (content l.self.t.now) l.self.this (gathered (values_of l.initial.worths) l.rows (environment l.base l.initial.work)) l.initial.work r after;
  same : l.work.bindings ≡ l.initial.work.bindings;
  falls : l.work.state.left ≤ l.initial.work.state.left;
  few : length (values_of l.worths) ≡ length (values_of l.initial.worths) + l.row-index;
}

-- what the branches that are left come to is what all come to
abbrev pub invariant-chosen-loop-branch : goal.invariant-chosen-loop-branch
invariant-chosen-loop-branch l = record {
  rest : (r : Result Value EvaluationRefusal) (after : Work) →
      Ran (content l.self.t.now) l.self.this (chosen (content l.self.t.now) l.self.this (environment l.base l.initial.work) l.value (take (run_length (drop l.branch-index l.branches)) (drop l.branch-index l.branches))) l.work r after →
      Ran (content l.self.t.now) l.self.this (chosen (content l.self.t.now) l.self.this (environment l.base l.initial.work) l.value (take (run_length l.branches) l.branches)) l.initial.work r after;
  same : l.work.bindings ≡ l.initial.work.bindings;
  room : l.work.capacity ≡ l.initial.work.capacity;
  falls : l.work.state.left ≤ l.initial.work.state.left;
}
