use Rattle.std.proofs.Common.{◌≡◌}
use Rattle.tables.specs.Layout.{content}
use Rattle.typing.specs.Scopes.{declared, slots_from}
use Rattle.typing.proofs.slots.bind_slots.Given as goal

-- the slots so far are bound
abbrev pub invariant-loop-k : goal.invariant-loop-k
invariant-loop-k l = l.scope ≡ slots_from l.list.offset (declared (content l.t) l.list.first l.list.count) l.k l.initial.scope
