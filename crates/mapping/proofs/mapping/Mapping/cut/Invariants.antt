use Rattle.std.proofs.Common.{◌≡◌, ◌-◌, ◌≤◌, length, min}
use Rattle.mapping.specs.Bindings.{blanked}
use Rattle.mapping.proofs.mapping.Mapping.cut.Given as goal

-- blanks stand where the newer bindings were that are cut off so far
abbrev pub invariant-loop-self : goal.invariant-loop-self
invariant-loop-self g l = record {
  blank : l.self.bindings.now ≡ blanked g.E.Blank.blank l.self.count l.initial.self.count l.initial.self.bindings.now;
  low : min l.earlier l.initial.self.count ≤ l.self.count;
  few : l.self.count ≤ l.initial.self.count;
  room : length l.self.bindings.now ≡ length l.initial.self.bindings.now;
}

abbrev pub decreases-loop-self : goal.decreases-loop-self
decreases-loop-self g l = l.self.count - l.earlier
