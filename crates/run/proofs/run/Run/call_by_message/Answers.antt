use Rattle.std.proofs.Common.{◌≡◌, ◌+◌, true, false, length, Some, List, sym, ap, ◌∙◌, subst, arith, map}
use Rattle.tables.specs.Layout.{Content, content}
use Rattle.syntax.specs.Types.{type_at}
use Rattle.outside.specs.Outsides.{OutgoingCall}
use Rattle.evaluation.specs.declared.value.Value.{Value}
use Rattle.steps.specs.declared.records.CallRecord.{CallRecord}
use Rattle.steps.specs.Calling.{Dispatch, call_dispatch, dispatch, outgoing, takes_call}
use Rattle.steps.specs.Configurations.{call_at}
use Rattle.steps.specs.Crossing.{known_sort, plain_of}
use Rattle.steps.specs.Observing.{Fulfils, observation}
use Rattle.steps.specs.Outcomes.{Request}
use Rattle.run.specs.Changes.{call_made}
use Rattle.run.specs.Choices.{at_call}
use Rattle.run.specs.Dispatches.{dispatch_is, is_outside}
use Rattle.run.specs.Messages.{message_is}
use Rattle.run.specs.Views.{run_seen}
use Rattle.run.proofs.Called.{is_inside, is_taken, made_cells, goes_inside, goes_outside}
use Rattle.run.proofs.run.Run.call_by_message.Goals as goal

pub returns-then-not-is_outside-clause-advances : goal.returns-then-not-is_outside-clause-advances
returns-then-not-is_outside-clause-advances g c =
    let m = (run_seen c.self.inside).model in
    let at = (run_seen c.self.inside).at in
    let n = c.args.number in
    let call = c.args.call in
    let s = observation g.O.Outside c.args.outside.now in
    let a = message_is c.args.message in
    let f : Dispatch = dispatch_is c.in-Some-dispatch.dispatch in
    let x = c.in-Some.maker.now in
    let e : call_at at n ≡ Some x = sym c.in-Some.ensures.call in
    let found : dispatch m x at a.object call.name ≡ Some f = sym (rw (← c.self.view_is) at c.in-Some-dispatch.ensures.dispatch) in
    let is : is_outside f.receiver ≡ false = sym c.is_outside.ensures.outside ∙ grind (arith, c.if-not-is_outside.true) in
    let out =
    ap (at_call (λ (x : CallRecord). call_dispatch m n x s c.args.target call c.args.next a at (dispatch m x at a.object call.name))) e
    ∙ is_inside m n x s c.args.target call c.args.next a at (dispatch m x at a.object call.name) f found is in
    let made = (rw (← c.self.view_is) at c.make_call.ensures.call) ∙ ap (call_made m n c.args.target call.manner c.args.next a f at) e in
    rw (← c.self.view_is) (goes_inside g.O.Outside at c.make_call.new.self.at c.args.outside.now out made (made_cells m n c.args.target call.manner c.args.next a f at x))

pub returns-clause-advances : goal.returns-clause-advances
returns-clause-advances g c =
    let m = (run_seen c.self.inside).model in
    let at = (run_seen c.self.inside).at in
    let n = c.args.number in
    let call = c.args.call in
    let s = observation g.O.Outside c.args.outside.now in
    let a = message_is c.args.message in
    let f : Dispatch = dispatch_is c.in-Some-dispatch.dispatch in
    let x = c.in-Some.maker.now in
    let e : call_at at n ≡ Some x = sym c.in-Some.ensures.call in
    let found : dispatch m x at a.object call.name ≡ Some f = sym (rw (← c.self.view_is) at c.in-Some-dispatch.ensures.dispatch) in
    let is : is_outside f.receiver ≡ true = sym c.is_outside.ensures.outside ∙ grind (arith, c.if-not-is_outside.false) in
    let q = outgoing m (length at.calls + 1) a f in
    let t : content c.tables.result.now ≡ m = ap content c.tables.ensures.tables in
    let sort = c.sort_at.ensures.sort ∙ ap (λ (m : Content). known_sort (type_at m f.method.result)) t in
    let arguments = c.as_slice-2.ensures.values ∙ c.plain_values-arguments.ensures.plain ∙ ap (λ (vs : List Value). map plain_of vs) c.as_slice.ensures.values in
    let same : record { call = c.calls.result + 1; class = f.class; object = a.object; sort = c.sort_at.result; arguments = c.as_slice-2.result.now } ≡ q =
    (λ i. record { call = c.calls.ensures.calls i + 1; class = f.class; object = a.object; sort = sort i; arguments = arguments i }) in
    let took : Fulfils g.O.Outside c.args.outside.now (Request.take q) c.take.new.self =
    subst (λ (q : OutgoingCall). Fulfils g.O.Outside c.args.outside.now (Request.take q) c.take.new.self) same (rw c.if-not-take.false at c.take.ensures.takes) in
    let taken : takes_call s q ≡ true = sym took.answer in
    let out =
    ap (at_call (λ (x : CallRecord). call_dispatch m n x s c.args.target call c.args.next a at (dispatch m x at a.object call.name))) e
    ∙ is_taken m n x s c.args.target call c.args.next a at (dispatch m x at a.object call.name) f found is taken in
    let made = (rw (← c.self.view_is) at c.make_call-2.ensures.call) ∙ ap (call_made m n c.args.target call.manner c.args.next a f at) e in
    rw (← c.self.view_is) (goes_outside g.O.Outside q at c.make_call-2.new.self.at c.args.outside.now c.take.new.self out made (made_cells m n c.args.target call.manner c.args.next a f at x) took)
