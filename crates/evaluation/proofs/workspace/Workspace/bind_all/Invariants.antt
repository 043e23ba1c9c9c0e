use Rattle.std.proofs.Common.{◌≡◌, ◌+◌, length, drop}
use Rattle.evaluation.specs.Rules.{bound_from}
use Rattle.evaluation.proofs.workspace.Workspace.bind_all.Given as goal

-- what the values that are left bind is what all bind
abbrev pub invariant-loop-value : goal.invariant-loop-value
invariant-loop-value l = record {
  slot : l.slot ≡ l.first + l.value-index;
  bound : bound_from l.slot (drop l.value-index l.values) l.self.bindings ≡ bound_from l.first l.values l.initial.self.bindings;
  more : length l.self.bindings ≡ length l.initial.self.bindings + l.value-index;
  state : l.self.state ≡ l.initial.self.state;
  capacity : l.self.capacity ≡ l.initial.self.capacity;
}
