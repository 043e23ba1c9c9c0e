use Rattle.std.proofs.Common.{◌≡◌, ◌++◌, map, take}
use Rattle.tables.specs.Layout.{content}
use Rattle.typing.specs.Scopes.{entry_type}
use Rattle.steps.specs.Defaults.{known_default}
use Rattle.run_state.proofs.values.push_defaults.Given as goal

abbrev pub invariant-loop-entry : goal.invariant-loop-entry
invariant-loop-entry l = l.slots ≡ l.initial.slots ++ map (λ x. known_default (content l.t) (entry_type (content l.t) x)) (take l.entry-index l.entries)
