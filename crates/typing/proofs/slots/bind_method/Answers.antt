use Rattle.std.proofs.Common.{◌+◌, arith}
use Rattle.tables.specs.Layout.{content}
use Rattle.typing.proofs.Unbound.{field_unbound}
use Rattle.typing.proofs.slots.bind_method.Goals as goal

pub bind_slots-requires-2 : goal.bind_slots-requires-2
bind_slots-requires-2 c =
    let method = c.args.method in
    record {
      unbound = λ k. rw (c.bind_slots.ensures.bound, c.requires.empty)
          (field_unbound (128 + k) (content c.args.t.now) method.slots_first method.slots method.slots (omega arith));
    }
