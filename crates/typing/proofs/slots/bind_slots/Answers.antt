use Rattle.std.proofs.Common.{◌+◌, arith}
use Rattle.tables.specs.Layout.{content}
use Rattle.typing.specs.Scopes.{declared}
use Rattle.typing.proofs.Unbound.{unbound_behind}
use Rattle.typing.proofs.slots.bind_slots.Goals as goal

pub bind_slot-requires : goal.bind_slot-requires
bind_slot-requires c =
    let list = c.args.list in
    let k = c.loop-k.k in
    record {
      unbound = rw c.loop-k.invariant (unbound_behind (list.offset + k) list.offset (declared (content c.args.t.now) list.first list.count) k c.args.scope.now
          (omega arith) (c.requires.unbound k));
    }
