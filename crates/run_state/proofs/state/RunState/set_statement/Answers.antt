use Rattle.std.proofs.Common.{◌≡◌, ◌+◌, ◌<◌, length, refl, arith}
use Rattle.run_state.proofs.Keeping.{found, consistent_same, changed_is}
use Rattle.run_state.specs.Changes.{call_at_statement}
use Rattle.run_state.specs.States.{state_seen}
use Rattle.run_state.proofs.state.RunState.set_statement.Goals as goal

pub invariant_of-self : goal.invariant_of-self
invariant_of-self c =
    let i = c.in-Some.index in
    let n = c.args.number in
    let xs = c.self.inside.calls.items in
    let y = c.index_mut.result.now in
    let at : n ≡ i + 1 = omega (arith, c.in-Some.ensures) in
    let lt : i < length xs = omega (arith, c.if-index-len.true, c.len.ensures, c.self.inside.calls.ok.0) in
    let e = found xs n i y at lt c.index_mut.ensures.value in
    record { calls = c.self.invariant.calls; objects = c.self.invariant.objects; consistent = consistent_same c.self.invariant.consistent n i y (record y { statement = c.args.next }) at e refl refl }

pub returns-then-index-len : goal.returns-then-index-len
returns-then-index-len c =
    let i = c.in-Some.index in
    let n = c.args.number in
    let xs = c.self.inside.calls.items in
    let y = c.index_mut.result.now in
    let at : n ≡ i + 1 = omega (arith, c.in-Some.ensures) in
    let lt : i < length xs = omega (arith, c.if-index-len.true, c.len.ensures, c.self.inside.calls.ok.0) in
    let e = found xs n i y at lt c.index_mut.ensures.value in
    rw (← c.self.view_is) (record { statement = changed_is (state_seen c.self.inside) n i y (record y { statement = c.args.next }) (call_at_statement (state_seen c.self.inside) n c.args.next) at e refl })
