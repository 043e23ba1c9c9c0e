use Rattle.std.proofs.Common.{◌≡◌, ℕ, ◌+◌, refl, ap, ◌∙◌}
use Rattle.tables.specs.Layout.{Content, content}
use Rattle.steps.specs.declared.records.CallRecord.{CallRecord}
use Rattle.steps.specs.Calling.{new_call}
use Rattle.steps.specs.Configurations.{call_at}
use Rattle.run.specs.Dispatches.{dispatch_is}
use Rattle.run.specs.Messages.{message_is}
use Rattle.run.specs.Views.{run_seen}
use Rattle.run.proofs.Called.{made_is}
use Rattle.run.proofs.run.Run.make_call.Goals as goal

pub returns-clause-call : goal.returns-clause-call
returns-clause-call c =
    let m = (run_seen c.self.inside).model in
    let at = (run_seen c.self.inside).at in
    let n = c.args.number in
    let f = dispatch_is c.args.dispatch.now in
    let a = message_is c.args.message.now in
    let t : content c.tables.result.now ≡ m = ap content c.tables.ensures.tables in
    let y : (x : CallRecord) → c.new_call-call.result ≡ new_call m n x a f.row f.method c.args.manner f.receiver =
    λ x. c.new_call-call.ensures.call x ∙ ap (λ (m : Content). new_call m n x a f.row f.method c.args.manner f.receiver) t in
    let pushed = rw (← c.self.view_is) at c.push_call.ensures.pushed in
    let some = rw (← c.self.view_is) at c.requires.there in
    rw (← c.self.view_is)
    (made_is m at c.push_call.new.self.at c.set_maker.new.self.at n c.args.target c.args.manner c.args.next (c.calls-new.result + 1) a f c.new_call-call.result (call_at at n) refl y pushed
    (ap (λ (j : ℕ). j + 1) c.calls-new.ensures.calls) c.set_maker.ensures.maker some)
