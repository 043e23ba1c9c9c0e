use Rattle.std.proofs.Common.{◌≡◌, ◌+◌, ◌<◌, length, refl, arith}
use Rattle.run_state.proofs.Keeping.{found, consistent_object, field_is}
use Rattle.run_state.specs.States.{state_seen}
use Rattle.run_state.proofs.state.RunState.set_field.Goals as goal

pub invariant_of-self : goal.invariant_of-self
invariant_of-self c =
    let i = c.in-Some.index in
    let n = c.args.number in
    let xs = c.self.inside.objects.items in
    let y = c.index_mut-object.result.now in
    let at : n ≡ i + 1 = omega (arith, c.in-Some.ensures) in
    let lt : i < length xs = omega (arith, c.if-index-len.true, c.len.ensures, c.self.inside.objects.ok.0) in
    let e = found xs n i y at lt c.index_mut-object.ensures.value in
    record { calls = c.self.invariant.calls; objects = c.self.invariant.objects; consistent = consistent_object c.self.invariant.consistent n i y (record y { fields = c.set.new.self }) at e refl }

pub returns-then-index-len : goal.returns-then-index-len
returns-then-index-len c =
    let i = c.in-Some.index in
    let n = c.args.number in
    let xs = c.self.inside.objects.items in
    let y = c.index_mut-object.result.now in
    let at : n ≡ i + 1 = omega (arith, c.in-Some.ensures) in
    let lt : i < length xs = omega (arith, c.if-index-len.true, c.len.ensures, c.self.inside.objects.ok.0) in
    let e = found xs n i y at lt c.index_mut-object.ensures.value in
    rw (← c.self.view_is, c.set.ensures.set) (record { field = field_is (state_seen c.self.inside) n i c.args.field c.args.value y at e })
