use Rattle.std.proofs.Common.{◌≡◌, ℕ, ◌+◌, ◌<◌, false, length, refl, ap, sym, ◌∙◌, arith}
use Rattle.steps.specs.declared.records.CallRecord.{CallRecord}
use Rattle.steps.specs.Configurations.{group_of}
use Rattle.steps.specs.States.{is_active}
use Rattle.steps.specs.Changes.{as_ended}
use Rattle.run_state.proofs.Keeping.{found, consistent_state, result_is, none_at, same_found, not_over, zero_if, either}
use Rattle.run_state.specs.Changes.{call_with_result, recount}
use Rattle.run_state.specs.Consistent.{is_ended_call}
use Rattle.run_state.specs.States.{state_seen}
use Rattle.run_state.proofs.state.RunState.end_call.Goals as goal

pub invariant_of-self : goal.invariant_of-self
invariant_of-self c =
    let at0 = state_seen c.self.inside in
    let t = c.self.inside.active in
    let i = c.in-Some.index in
    let n = c.args.number in
    let xs = c.self.inside.calls.items in
    let x = c.index-call.result.now in
    let y = c.index_mut-ended.result.now in
    let at : n ≡ i + 1 = omega (arith, c.in-Some.ensures) in
    let lt : i < length xs = omega (arith, c.if-index-len.true, c.len.ensures, c.self.inside.calls.ok.0) in
    let same : x ≡ y = same_found xs n i x y at lt c.index-call.ensures c.index_mut-ended.ensures.value in
    let e = found xs n i y at lt c.index_mut-ended.ensures.value in
    let runs = not_over at0 n y e (rw (← c.self.view_is) at c.requires.runs) in
    let group : c.group_of-group.result ≡ group_of at0 y.object = (rw c.deref.ensures.value at c.group_of-group.ensures.group) ∙ ap (λ (z : CallRecord). group_of at0 z.object) same in
    let was : c.is_active-was.result ≡ is_active y.state = c.is_active-was.ensures.active ∙ ap (λ (z : CallRecord). is_active z.state) same in
    let table : c.recount.new.active ≡ recount t (group_of at0 y.object) (is_active y.state) false =
    c.recount.ensures.counts ∙ (λ j. recount t (group j) (was j) false) in
    record { calls = c.self.invariant.calls; objects = c.self.invariant.objects; consistent = rw table (consistent_state c.self.invariant.consistent n i y (as_ended y c.args.value) at e refl (at0.returned + c.one_if-returned.result) (at0.answered + c.one_if-answered.result) (omega (arith, zero_if (is_ended_call y) runs, c.one_if-answered.ensures.one, c.one_if-returned.ensures.one, either c.args.reply))) }

pub returns-then-index-len : goal.returns-then-index-len
returns-then-index-len c =
    let at0 = state_seen c.self.inside in
    let t = c.self.inside.active in
    let i = c.in-Some.index in
    let n = c.args.number in
    let xs = c.self.inside.calls.items in
    let x = c.index-call.result.now in
    let y = c.index_mut-ended.result.now in
    let at : n ≡ i + 1 = omega (arith, c.in-Some.ensures) in
    let lt : i < length xs = omega (arith, c.if-index-len.true, c.len.ensures, c.self.inside.calls.ok.0) in
    let same : x ≡ y = same_found xs n i x y at lt c.index-call.ensures c.index_mut-ended.ensures.value in
    let e = found xs n i y at lt c.index_mut-ended.ensures.value in
    let runs = not_over at0 n y e (rw (← c.self.view_is) at c.requires.runs) in
    let group : c.group_of-group.result ≡ group_of at0 y.object = (rw c.deref.ensures.value at c.group_of-group.ensures.group) ∙ ap (λ (z : CallRecord). group_of at0 z.object) same in
    let was : c.is_active-was.result ≡ is_active y.state = c.is_active-was.ensures.active ∙ ap (λ (z : CallRecord). is_active z.state) same in
    rw (← c.self.view_is)
    (record {
      result = result_is at0 n i y c.args.value c.args.reply (at0.returned + c.one_if-returned.result) (at0.answered + c.one_if-answered.result) at e
          (ap (λ (k : ℕ). at0.returned + k) c.one_if-returned.ensures.one) (ap (λ (k : ℕ). at0.answered + k) c.one_if-answered.ensures.one);
    })

pub returns-else-index-len : goal.returns-else-index-len
returns-else-index-len c =
    let at0 = state_seen c.self.inside in
    let none = none_at c.self.inside.calls.items c.args.number c.in-Some.index (omega (arith, c.in-Some.ensures)) (omega (arith, c.if-index-len.false, c.len.ensures, c.self.inside.calls.ok.0)) in
    rw (← c.self.view_is) (record { result = sym (ap (call_with_result at0 c.args.number c.args.value c.args.reply) none) })
