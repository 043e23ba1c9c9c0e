use Rattle.std.proofs.Common.{◌≡◌, Bool, true, false, Option, ℕ, Some, None, refl, sym, ap, ◌∙◌}
use Rattle.steps.specs.declared.records.CallRecord.{CallRecord}
use Rattle.steps.specs.declared.state.CallState.TheVariants as state
use Rattle.steps.specs.Configurations.{call_at, group_of}
use Rattle.steps.specs.Guards.{at_false_await}
use Rattle.steps.specs.Steps.{activate_step, is_busy}
use Rattle.run_state.specs.Changes.{call_in_state}
use Rattle.run.specs.Choices.{at_call}
use Rattle.run.specs.Guarding.{call_at_false_await}
use Rattle.run.specs.Views.{run_seen}
use Rattle.run.proofs.Putting.{stands_silent, stands_refused, longer_same}
use Rattle.run.proofs.run.Run.activate.Goals as goal

pub returns-then-is_busy-clause-stands : goal.returns-then-is_busy-clause-stands
returns-then-is_busy-clause-stands c = λ seen.
    let m = (run_seen c.self.inside).model in
    let at = (run_seen c.self.inside).at in
    let n = c.args.number in
    let x = c.in-Some.call.now in
    let e : call_at at n ≡ Some x = sym c.in-Some.ensures.call in
    let busy : is_busy at (group_of at x.object) ≡ true = ap (λ (g : Option ℕ). is_busy at g) (sym c.group_of.ensures.group) ∙ sym c.is_busy.ensures.busy ∙ c.if-is_busy.true in
    rw (← c.self.view_is)
    (stands_refused at at (ap (at_call (λ (x : CallRecord). activate_step m at seen n x (is_busy at (group_of at x.object)) (at_false_await m at x))) e ∙ ap (λ (b : Bool). activate_step m at seen n x b (at_false_await m at x)) busy) refl (longer_same at.cells))

pub returns-then-at_false_await-clause-stands : goal.returns-then-at_false_await-clause-stands
returns-then-at_false_await-clause-stands c = λ seen.
    let m = (run_seen c.self.inside).model in
    let at = (run_seen c.self.inside).at in
    let n = c.args.number in
    let x = c.in-Some.call.now in
    let e : call_at at n ≡ Some x = sym c.in-Some.ensures.call in
    let busy : is_busy at (group_of at x.object) ≡ false = ap (λ (g : Option ℕ). is_busy at g) (sym c.group_of.ensures.group) ∙ sym c.is_busy.ensures.busy ∙ c.if-is_busy.false in
    let held : at_false_await m at x ≡ true = sym (ap (call_at_false_await m at) e) ∙ sym (rw (← c.self.view_is) at c.at_false_await.ensures.at) ∙ c.if-at_false_await.true in
    rw (c.at_false_await.ensures.run, ← c.self.view_is)
    (stands_refused at at (ap (at_call (λ (x : CallRecord). activate_step m at seen n x (is_busy at (group_of at x.object)) (at_false_await m at x))) e
    ∙ ap (λ (b : Bool). activate_step m at seen n x b (at_false_await m at x)) busy ∙ ap (activate_step m at seen n x false) held) refl (longer_same at.cells))

pub returns-clause-stands : goal.returns-clause-stands
returns-clause-stands c = λ seen.
    let m = (run_seen c.self.inside).model in
    let at = (run_seen c.self.inside).at in
    let n = c.args.number in
    let x = c.in-Some.call.now in
    let e : call_at at n ≡ Some x = sym c.in-Some.ensures.call in
    let busy : is_busy at (group_of at x.object) ≡ false = ap (λ (g : Option ℕ). is_busy at g) (sym c.group_of.ensures.group) ∙ sym c.is_busy.ensures.busy ∙ c.if-is_busy.false in
    let held : at_false_await m at x ≡ false = sym (ap (call_at_false_await m at) e) ∙ sym (rw (← c.self.view_is) at c.at_false_await.ensures.at) ∙ c.if-at_false_await.false in
    let s = (rw (c.at_false_await.ensures.run, ← c.self.view_is) at c.set_state.ensures.state) ∙ ap (call_in_state at n (state.Active None)) e in
    rw (← c.self.view_is, s)
    (stands_silent at _ (ap (at_call (λ (x : CallRecord). activate_step m at seen n x (is_busy at (group_of at x.object)) (at_false_await m at x))) e
    ∙ ap (λ (b : Bool). activate_step m at seen n x b (at_false_await m at x)) busy ∙ ap (activate_step m at seen n x false) held) refl (longer_same at.cells))
