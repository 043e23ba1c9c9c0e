use Rattle.std.proofs.Common.{◌≡◌, ◌∷◌, false, is_ok, is_some}
use Rattle.mapping.specs.Bindings.{lookup, bound, capacity}
use Rattle.typing.proofs.Room.{once_bound, bind_free_lem}
use Rattle.typing.proofs.scope.Scope.bind_unbound.Goals as goal

-- the slot is free in the bindings inside
free_inside : (c : goal.After-bind) → is_some (lookup c.args.slot (bound c.self.inside.mapping.now)) ≡ false
free_inside c = rw (c.self.view_is, c.requires.unbound)

-- so it is bound there
made : (c : goal.After-bind) → bound c.bind.new.self ≡ record { slot = c.args.slot; entry = c.args.to } ∷ bound c.self.inside.mapping.now
made c =
    let mapping = c.self.inside.mapping.now in
    bind_free_lem c.args.slot c.args.to (bound mapping) (bound c.bind.new.self) (is_ok c.bind.result) (capacity mapping)
    c.requires.slot (free_inside c) c.self.invariant.0 c.self.invariant.1 c.bind.ensures.full c.bind.ensures.newest

pub invariant_of-self : goal.invariant_of-self
invariant_of-self c = (
  rw (made c) (once_bound _ (bound c.self.inside.mapping.now) c.requires.slot (free_inside c) c.self.invariant.0),
  rw c.bind.ensures.capacity c.self.invariant.1,
)

pub returns : goal.returns
returns c = record { bound = rw (← c.self.view_is) (made c) }
