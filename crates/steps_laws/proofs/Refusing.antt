-- Why an active process is refused: all that its statement asks for is there.
use Rattle.std.proofs.Common.{◌≡◌, ℕ, ◌+◌, Bool, true, false, cond, List, length, Some, None, Ok, Err, Option, Result, IfOk, refl, sym, subst}
use Rattle.std.specs.Prelude.{nat_lt, ⊤}
use Rattle.std.specs.List.{slice_get}
use Rattle.tables.specs.declared.rows.ClassRow.{ClassRow}
use Rattle.tables.specs.Layout.{Content}
use Rattle.rules.specs.Words.{part}
use Rattle.shape.specs.Shape.{is_outside_class}
use Rattle.loading.specs.Laws.{Lawful, WellTyped}
use Rattle.syntax.specs.declared.statements.Call.{Call}
use Rattle.syntax.specs.declared.statements.Creation.{Creation}
use Rattle.syntax.specs.declared.statements.Statement.{Statement}
use Rattle.syntax.specs.declared.statements.Statement.TheVariants as statement
use Rattle.syntax.specs.declared.types.ValueType.{ValueType}
use Rattle.syntax.specs.Nodes.{parts}
use Rattle.syntax.proofs.Parts.{given_parts}
use Rattle.typing.specs.declared.calls.Heading.{Heading}
use Rattle.typing.specs.Scopes.{method_scope}
use Rattle.typing.specs.StatementLaws.{InvertsStatement}
use Rattle.outside.specs.Outsides.{OutgoingCall}
use Rattle.evaluation.specs.declared.refusal.EvaluationRefusal.{EvaluationRefusal}
use Rattle.evaluation.specs.declared.value.Value.{Value}
use Rattle.evaluation.specs.declared.value.Value.TheVariants as value
use Rattle.evaluation.specs.Plans.{Plan, ask}
use Rattle.evaluation.specs.Rules.{all_of}
use Rattle.evaluation.specs.Typed.{Has, Worth}
use Rattle.evaluation.specs.Values.{Data, truth_of}
use Rattle.evaluation.proofs.Meeting.{Ends}
use Rattle.steps.specs.declared.records.CallRecord.{CallRecord}
use Rattle.steps.specs.declared.refusal.Refusal.TheVariants as refusal
use Rattle.steps.specs.declared.state.CallState.TheVariants as state
use Rattle.steps.specs.Calling.{Dispatch, Message, Receiver, call_by, call_dispatch, call_to, call_with, dispatch, message, new_call, outgoing, receiver, takes_call}
use Rattle.steps.specs.Changes.{with_cells}
use Rattle.steps.specs.Configurations.{Configuration, call_at, call_environment, statement_at, value_at}
use Rattle.steps.specs.Creating.{new_by, new_of_class, new_step}
use Rattle.steps.specs.Defaults.{with_defaults}
use Rattle.steps.specs.Local.{read_future, read_value}
use Rattle.steps.specs.Outcomes.{Observation, Outcome, Request, on_answer, on_ending, plan_ending, silent, transition}
use Rattle.steps.specs.Returning.{resume}
use Rattle.steps.specs.Rules as rule
use Rattle.steps.specs.Sound.{referents, result_row}
use Rattle.steps.specs.States.{is_unfinished}
use Rattle.steps.specs.Steps.{statement_step}
use Rattle.steps_typed.proofs.Endings.{worth_ends}
use Rattle.steps_typed.proofs.Messages.{FitsCall, message_ends}
use Rattle.steps_typed.proofs.Reaching.{HasMethod, method_dispatch}
use Rattle.steps_typed.proofs.TypedReturning.{statement_stands}
use Rattle.steps_typed.proofs.Typings.{CallTyped, ConfigurationTyped}
use Rattle.steps_laws.proofs.Reasons.{HasReason}

module _ (m : Content) (seen : Observation) (c : Configuration) (n : ℕ) (x : CallRecord) where
  -- an active process, where what is refused has its reason
  abbrev ActiveHasReason : Outcome → Type 0
  ActiveHasReason out = HasReason m c seen n x (state.Active None) out

  on_ending_reason : {A : Type 0} (Q : A → List Data → Type 0) (k : A → Configuration → Outcome) (whole r : Result A EvaluationRefusal) (cells : List Data) → whole ≡ r →
      IfOk r (λ a. Q a cells) → ((a : A) → whole ≡ Ok a → Q a cells → ActiveHasReason (k a (with_cells c cells))) → ActiveHasReason (on_ending c k r cells)
  on_ending_reason Q k whole (Ok a) cells e ends each = each a e ends
  on_ending_reason Q k whole (Err r) cells e ends each = tt

  on_answer_reason : {A : Type 0} (Q : A → List Data → Type 0) (p : Plan A) (k : A → Configuration → Outcome) → Ends Q (plan_ending m c x p) →
      ((a : A) (cells : List Data) → (plan_ending m c x p).answer ≡ Ok a → Q a cells → ActiveHasReason (k a (with_cells c cells))) → ActiveHasReason (on_answer m c x p k)
  on_answer_reason Q p k ends each =
      on_ending_reason Q k (plan_ending m c x p).answer (plan_ending m c x p).answer (plan_ending m c x p).state.cells refl ends
      (λ a. each a (plan_ending m c x p).state.cells)

  any_ends : {A : Type 0} (r : Result A EvaluationRefusal) → IfOk r (λ a. ⊤)
  any_ends (Ok a) = tt
  any_ends (Err e) = tt

  -- where what follows has its reason whatever the answer is
  any_answer_reason : {A : Type 0} (p : Plan A) (k : A → Configuration → Outcome) → ((a : A) (cells : List Data) → ActiveHasReason (k a (with_cells c cells))) → ActiveHasReason (on_answer m c x p k)
  any_answer_reason {A} p k each =
      let Q : A → List Data → Type 0 = λ a cells. ⊤ in
      on_answer_reason Q p k (any_ends (plan_ending m c x p).answer) (λ a cells e q. each a cells)

  module _ (target : Option ℕ) (future next : ℕ) (stands : statement_at m x.statement ≡ Some (statement.Get target future next)) (u : ValueType) (cells : List Data) where
    read_value_reason : (f : ℕ) → (plan_ending m c x (ask future (call_environment c x))).answer ≡ Ok (value.Future f) → Has m (referents m c) cells (value.Future f) u →
        (o : Option Value) → value_at c f ≡ o → ActiveHasReason (read_value m c n x target next (with_cells c cells) o)
    read_value_reason f answer has (Some v) e = tt
    read_value_reason f answer has None e =
        let p = given_parts (call_at c f) (result_row m) has.0 has.1 in
        (f, p.0, (target, future, next, stands, answer, e), p.1, e)

    read_future_reason : (v : Value) → (plan_ending m c x (ask future (call_environment c x))).answer ≡ Ok v → Has m (referents m c) cells v u →
        ActiveHasReason (read_future m c n x target next v (with_cells c cells))
    read_future_reason value.Unit answer has = tt
    read_future_reason (value.Bool b) answer has = tt
    read_future_reason (value.Int z) answer has = tt
    read_future_reason value.Null answer has = tt
    read_future_reason (value.Object o) answer has = tt
    read_future_reason (value.Future f) answer has = read_value_reason f answer has (value_at (with_cells c cells) f) refl
    read_future_reason (value.Constant k) answer has = tt
    read_future_reason (value.Cell i) answer has = tt

  room_reason : (d : Configuration) → (room : Bool) → ActiveHasReason (cond room (silent d) (Err refusal.NoObjectLeft))
  room_reason d true = tt
  room_reason d false = tt

  new_step_reason : (target : Option ℕ) (e : Creation) (next : ℕ) (k : ClassRow) → slice_get m.classes e.class ≡ Some k → ActiveHasReason (new_step m c n x target e next)
  new_step_reason target e next k class =
      any_answer_reason (all_of (parts e.arguments) (call_environment c x)) (λ vs d. new_of_class m c n x target e next vs d (slice_get m.classes e.class))
      (λ vs cells. rw class (room_reason (new_by m c n x e.group (is_outside_class k) (with_cells c cells) e.class (with_defaults m vs (part k.fields_first k.fields m.lists)) target next)
      (nat_lt (length c.objects) 64)))

  -- A call that is not taken is refused for that.
  takes_reason : (g : OutgoingCall) (d : Configuration) (takes : Bool) → takes_call seen g ≡ takes →
      ActiveHasReason (cond takes (transition d (Request.take g)) (Err refusal.NotTaken))
  takes_reason g d true e = tt
  takes_reason g d false e = (g, e)

  call_to_reason : (w : Receiver) (g : OutgoingCall) (d : Configuration) → ActiveHasReason (call_to seen w g d)
  call_to_reason Receiver.outside g d = takes_reason g d (takes_call seen g) refl
  call_to_reason Receiver.own_group g d = tt
  call_to_reason Receiver.other_group g d = tt

  module _ (target : Option ℕ) (call : Call) (next : ℕ) (hd : Heading) (d : Configuration) where
    call_dispatch_reason : (a : Message) (r : HasMethod m (referents m d) call.name hd a.object) →
        ActiveHasReason (call_dispatch m n x seen target call next a d (dispatch m x d a.object call.name))
    call_dispatch_reason a r =
        let p = method_dispatch m d n x call.name hd a.object r in
        let f : Dispatch = record { class = p.0; receiver = receiver (is_outside_class r.class) p.1; row = r.row; method = r.method } in
        rw p.2 (call_to_reason f.receiver (outgoing m (length d.calls + 1) a f)
        (call_by m n x call.manner f.receiver d (new_call m n x a f.row f.method call.manner f.receiver) target next))

    call_left_reason : (a : Message) → HasMethod m (referents m d) call.name hd a.object → (room : Bool) →
        ActiveHasReason (cond room (call_dispatch m n x seen target call next a d (dispatch m x d a.object call.name)) (Err refusal.NoCallLeft))
    call_left_reason a r true = call_dispatch_reason a r
    call_left_reason a r false = tt

module _ (m : Content) (typed : WellTyped m) (laws : Lawful m) (seen : Observation) (c : Configuration) (h : ConfigurationTyped m c) (n : ℕ) (x : CallRecord)
    (there : call_at c n ≡ Some x) (t : CallTyped m (referents m c) c.cells x) where
  call_with_reason : (target : Option ℕ) (call : Call) (next : ℕ) (hd : Heading) (o : Option Message) (cells : List Data) →
      FitsCall m c call hd o cells → ActiveHasReason m seen c n x (call_with m n x seen target call next o (with_cells c cells))
  call_with_reason target call next hd None cells fits = tt
  call_with_reason target call next hd (Some a) cells fits = call_left_reason m seen c n x target call next hd (with_cells c cells) a fits.0 (nat_lt (length c.calls) 128)

  statement_reason : (z : Statement) → statement_at m x.statement ≡ Some z → InvertsStatement m t.class t.method (method_scope m t.class t.method) z →
      ActiveHasReason m seen c n x (statement_step m c seen n x (Some z))
  statement_reason (statement.Skip next) at i = tt
  statement_reason (statement.Assign target value next) at i =
      any_answer_reason m seen c n x (ask value (call_environment c x)) (λ v d. silent (rule.assign d n x target v next)) (λ v cells. tt)
  statement_reason (statement.Branch test next other) at i =
      any_answer_reason m seen c n x (ask test (call_environment c x)) (λ v d. silent (cond (truth_of v) (rule.cond_true d n x next) (rule.cond_false d n x other)))
      (λ v cells. tt)
  statement_reason (statement.Suspend next) at i = tt
  statement_reason (statement.Await slots next) at i = tt
  statement_reason (statement.Get target future next) at i =
      on_answer_reason m seen c n x (Worth m (referents m c) i.kind.0 c.cells) (ask future (call_environment c x)) (read_future m c n x target next)
      (worth_ends m c x h typed.functions t future i.kind.0 i.kind.2)
      (λ v cells answer w. read_future_reason m seen c n x target future next at i.kind.0 cells v answer w.has)
  statement_reason (statement.New target creation next) at i = new_step_reason m seen c n x target creation next i.kind.0 i.kind.1
  statement_reason (statement.Call target call next) at i =
      on_answer_reason m seen c n x (FitsCall m c call i.kind.0)
      (message x.object call.object (parts call.arguments) (call_environment c x)) (call_with m n x seen target call next)
      (message_ends m laws c h x typed.functions t call i.kind.0 i.kind.3 i.kind.2)
      (λ o cells answer fits. call_with_reason target call next i.kind.0 o cells fits)
  statement_reason (statement.Return value) at i =
      any_answer_reason m seen c n x (ask value (call_environment c x)) (λ v d. silent (resume (rule.return d n x v) n x.caller)) (λ v cells. tt)

  pub statement_step_reason : is_unfinished x.state ≡ true → HasReason m c seen n x (state.Active None) (statement_step m c seen n x (statement_at m x.statement))
  statement_step_reason unfinished =
      let z = statement_stands m c h n x there typed laws t unfinished in
      let P : Option Statement → Type 0 = λ o. ActiveHasReason m seen c n x (statement_step m c seen n x o) in
      subst P (sym z.1) (statement_reason z.0 z.1 z.2)
