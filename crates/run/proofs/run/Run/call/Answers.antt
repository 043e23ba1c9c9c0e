use Rattle.std.proofs.Common.{◌≡◌, Bool, true, length, Some, Err, sym, ap, ◌∙◌, arith, subst}
use Rattle.std.specs.Prelude.{nat_lt, cond}
use Rattle.syntax.specs.Nodes.{parts}
use Rattle.steps.specs.declared.records.CallRecord.{CallRecord}
use Rattle.steps.specs.declared.refusal.Refusal.TheVariants as refusal
use Rattle.steps.specs.Calling.{call_dispatch, call_step, call_with, dispatch, message}
use Rattle.steps.specs.Configurations.{Configuration, call_at, call_environment}
use Rattle.steps.specs.Observing.{observation}
use Rattle.steps.specs.Outcomes.{Outcome}
use Rattle.run.specs.Choices.{Advances, AdvancesAs, at_call}
use Rattle.run.specs.Messages.{message_is}
use Rattle.run.specs.Rules.{message_rule}
use Rattle.run.specs.Runs.{RunView}
use Rattle.run.specs.Views.{run_seen}
use Rattle.run.proofs.Called.{advances_from, stands_advances}
use Rattle.run.proofs.Evaluated.{evaluated_ok, evaluated_err}
use Rattle.run.proofs.run.Run.call.Goals as goal

pub returns-in-Err-clause-advances : goal.returns-in-Err-clause-advances
returns-in-Err-clause-advances g c =
    let m = c.args.self.now.model in
    let at = c.args.self.now.at in
    let n = c.args.number in
    let call = c.args.call in
    let s = observation g.O.Outside c.args.outside.now in
    stands_advances g.O.Outside (at_call (λ x. call_step m n x s at c.args.target call c.args.next) (call_at at n)) at c.message.new.self.at c.args.outside.now (Err c.in-Err.refusal)
    (evaluated_err m at (λ x. message x.object call.object (parts call.arguments) (call_environment at x)) (λ x. call_with m n x s c.args.target call c.args.next) (call_at at n) c.in-Err.refusal c.message.new.self.at
    c.in-Err.ensures.gives)

pub returns-clause-advances : goal.returns-clause-advances
returns-clause-advances g c =
    let m = c.args.self.now.model in
    let at = c.args.self.now.at in
    let d = (run_seen c.self.inside).at in
    let n = c.args.number in
    let call = c.args.call in
    let target = c.args.target in
    let next = c.args.next in
    let s = observation g.O.Outside c.args.outside.now in
    let a = message_is c.in-Some.message in
    let dr = evaluated_ok m at (λ x. message x.object call.object (parts call.arguments) (call_environment at x)) (call_at at n) (Some a) d (rw (c.in-Some.is, ← c.self.view_is) at c.in-Ok.ensures.gives) in
    let x = dr.call in
    let there : call_at d n ≡ Some x = ap (λ (f : Configuration). call_at f n) dr.same ∙ dr.there in
    let model : (run_seen c.self.inside).model ≡ m = ap (λ (r : RunView). r.model) c.self.view_is ∙ c.message.ensures.model in
    let room : nat_lt (length d.calls) 128 ≡ true = grind (arith, c.if-calls-ge128.false, c.calls.ensures.calls) in
    let out =
    dr.comes (λ x. call_with m n x s target call next)
    ∙ ap (λ (b : Bool). cond b (call_dispatch m n x s target call next a d (dispatch m x d a.object call.name)) (Err refusal.NoCallLeft)) room
    ∙ sym (ap (at_call (λ (x : CallRecord). call_dispatch m n x s target call next a d (dispatch m x d a.object call.name))) there) in
    let at_d : c.message.new.self ≡ record { model = m; at = d } = sym c.self.view_is ∙ (λ i. record { model = model i; at = d }) in
    let P : RunView → Type 0 = λ r. Advances g.O.Outside (message_rule target call next a) r c.args.outside.now n c.call_by_message.result
    c.call_by_message.new.self c.call_by_message.new.outside in
    let k = subst P at_d c.call_by_message.ensures.advances in
    advances_from g.O.Outside _ at d c.call_by_message.new.self.at c.args.outside.now c.call_by_message.new.outside c.call_by_message.result
    (subst (λ (out : Outcome). AdvancesAs g.O.Outside out d c.args.outside.now c.call_by_message.result c.call_by_message.new.self.at c.call_by_message.new.outside) (sym out) k) dr.same dr.grows
