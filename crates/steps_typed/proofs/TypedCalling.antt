-- Calls keep types.
use Rattle.std.proofs.Common.{◌≡◌, ℕ, ◌+◌, Bool, true, false, cond, List, length, Some, None, Err, Option, refl, sym, ap, subst, ◌∙◌}
use Rattle.std.specs.Prelude.{nat_lt}
use Rattle.std.specs.Option.{option_map}
use Rattle.std.proofs.lemmas.Bool.{false≢true}
use Rattle.tables.specs.declared.rows.MethodRow.{MethodRow}
use Rattle.tables.specs.Layout.{Content}
use Rattle.rules.proofs.Rows.{known}
use Rattle.shape.specs.Shape.{is_outside_class}
use Rattle.loading.specs.Laws.{IsMethod}
use Rattle.syntax.specs.declared.statements.Call.{Call}
use Rattle.syntax.specs.declared.statements.Manner.{Manner}
use Rattle.syntax.specs.declared.statements.Manner.TheVariants as manner
use Rattle.syntax.specs.declared.statements.Statement.TheVariants as statement
use Rattle.syntax.specs.declared.types.ValueType.{ValueType}
use Rattle.syntax.specs.declared.types.ValueType.TheVariants as type
use Rattle.syntax.specs.Nodes.{parts}
use Rattle.syntax.specs.Types.{type_at}
use Rattle.typing.specs.declared.calls.Heading.{Heading}
use Rattle.typing.specs.ExpressionLaws.{ArgumentsFit}
use Rattle.typing.specs.Scopes.{method_scope}
use Rattle.typing.specs.StatementLaws.{IsCalled, Takes}
use Rattle.typing.specs.Statements.{given_by, goes_on, heading_parameters}
use Rattle.outside.specs.Outsides.{OutgoingCall}
use Rattle.evaluation.specs.declared.value.Value.TheVariants as value
use Rattle.evaluation.specs.Typed.{Referents, Has, FunctionsTyped}
use Rattle.evaluation.specs.Values.{Data}
use Rattle.steps.specs.declared.refusal.Refusal.TheVariants as refusal
use Rattle.steps.specs.declared.state.CallState.{CallState}
use Rattle.steps.specs.declared.state.CallState.TheVariants as state
use Rattle.steps.specs.declared.records.CallRecord.{CallRecord}
use Rattle.steps.proofs.Items.{push_new, push_old}
use Rattle.steps.specs.Calling.{Message, Receiver, call_by, call_dispatch, call_step, call_to, call_with, dispatch, first_moment, message, new_call, outgoing, receiver, takes_call}
use Rattle.steps.specs.Changes.{with_call, with_cells, with_new_call}
use Rattle.steps.specs.Configurations.{Configuration, call_at, call_environment, statement_at}
use Rattle.steps.specs.Outcomes.{Observation, Request, transition}
use Rattle.steps.specs.Sound.{referents, result_row}
use Rattle.steps.specs.States.{callee_of, is_outside, is_unfinished}
use Rattle.steps_typed.proofs.Endings.{OutcomeTyped, call_after, in_state_typed, on_answer_typed}
use Rattle.steps_typed.proofs.Filling.{with_defaults_typed}
use Rattle.steps_typed.proofs.Keeping.{call_more, longer_same, new_call_extends, with_call_typed, with_cells_typed, with_new_call_typed}
use Rattle.steps_typed.proofs.Messages.{FitsCall, message_ends}
use Rattle.steps_typed.proofs.Reaching.{HasMethod, method_dispatch}
use Rattle.steps_typed.proofs.TypedLocal.{advance_stores, free_active}
use Rattle.steps_typed.proofs.Typings.{CallTyped, ConfigurationTyped, MakerTyped, row_of}
use Rattle.loading.specs.Accepted.{IsAccepted}

-- a state in which a call of a class begins: it waits for no result, and it is out exactly if the class is outside
pub record Begins (s : CallState) (outside : Bool) : Type 0 where
  pub no_callee : callee_of s ≡ None
  pub inside : is_unfinished s ≡ true → outside ≡ false
  pub out : is_outside s ≡ true → outside ≡ true

module _ (m : Content) (accepted : IsAccepted m) where
  -- a new call in such a state
  first_moment_typed : (refs : Referents) (cells : List Data) (name : ℕ) (h : Heading) (a : Message) (r : HasMethod m refs name h a.object) →
      ArgumentsFit m (Has m refs cells) a.arguments (heading_parameters m h) → (s : CallState) (caller : Option ℕ) → Begins s (is_outside_class r.class) →
      CallTyped m refs cells (first_moment m a r.row r.method s caller)
  first_moment_typed refs cells name h a r fit s caller begins =
      let is : IsMethod m r.class r.method = (r.row, r.there, r.belongs) in
      let result = accepted.shaped.results r.class r.method r.is_class is in
      record {
        class = r.class;
        of_class = r.of_class;
        method = r.method;
        called = r.there;
        belongs = r.belongs;
        slots = with_defaults_typed m accepted.lawful.defaults refs cells a.arguments r.method.slots_first r.method.slots r.method.parameters (heading_parameters m h) fit r.same.parameters;
        result = tt;
        stands = λ e. accepted.shaped.starts r.class r.method r.is_class is (begins.inside e);
        inside = begins.inside;
        plain = λ e. (result.0, result.1, (accepted.shaped.outside r.class r.is_class (begins.out e)).results r.method result.0 is result.1);
      }

  -- a new call is typed, waits for no result, and has this row of its result's type
  abbrev NewCallTyped : Referents → List Data → (row : ℕ) → CallRecord → Type 0
  NewCallTyped refs cells row y = CallTyped m refs cells y × (callee_of y.state ≡ None) × (result_row m y ≡ Some row)

  new_call_typed : (refs : Referents) (cells : List Data) (name : ℕ) (h : Heading) (a : Message) (r : HasMethod m refs name h a.object) →
      ArgumentsFit m (Has m refs cells) a.arguments (heading_parameters m h) → (n : ℕ) (x : CallRecord) (how : Manner) (own : Bool) (out : Bool) →
      is_outside_class r.class ≡ out → NewCallTyped refs cells r.method.result (new_call m n x a r.row r.method how (receiver out own))
  new_call_typed refs cells name h a r fit n x how own out is = go how own out is
    where
      begins_typed : (s : CallState) (caller : Option ℕ) → Begins s (is_outside_class r.class) → NewCallTyped refs cells r.method.result (first_moment m a r.row r.method s caller)
      begins_typed s caller b = (first_moment_typed refs cells name h a r fit s caller b, b.no_callee, ap (option_map (λ (z : MethodRow). z.result)) r.there)

      sent : is_outside_class r.class ≡ false → Begins state.Sent (is_outside_class r.class)
      sent is = record { no_callee = refl; inside = λ e. is; out = λ e. absurd (false≢true e) }

      go : (how : Manner) (own : Bool) (out : Bool) → is_outside_class r.class ≡ out →
          NewCallTyped refs cells r.method.result (new_call m n x a r.row r.method how (receiver out own))
      go manner.Asynchronous own true is = begins_typed state.Outside None (record { no_callee = refl; inside = λ e. absurd (false≢true e); out = λ e. is })
      go manner.Synchronous own true is = begins_typed state.Outside None (record { no_callee = refl; inside = λ e. absurd (false≢true e); out = λ e. is })
      go manner.Asynchronous false false is = begins_typed state.Sent None (sent is)
      go manner.Asynchronous true false is = begins_typed state.Sent None (sent is)
      go manner.Synchronous false false is = begins_typed state.Sent None (sent is)
      go manner.Synchronous true false is =
          begins_typed (state.Active None) (Some n) (record { no_callee = refl; inside = λ e. is; out = λ e. absurd (false≢true e) })

  -- A call gives the same by the heading that it was typed with and by the method that it reaches.
  gives_alike : (refs : Referents) (name o : ℕ) (h : Heading) (r : HasMethod m refs name h o) (how : Manner) (u : ValueType) → given_by m how h.result ≡ Some u →
      given_by m how r.method.result ≡ Some u
  gives_alike refs name o h r manner.Synchronous u e = sym r.same.result ∙ e
  gives_alike refs name o h r manner.Asynchronous u e =
      let is : IsMethod m r.class r.method = (r.row, r.there, r.belongs) in
      let result = accepted.shaped.results r.class r.method r.is_class is in
      let same : r.method.result ≡ h.result = accepted.shaped.types_differ r.method.result h.result result.0 result.1 (r.same.result ∙ result.1) in
      ap (λ (i : ℕ). Some (type.Future i)) same ∙ e

  module _ (seen : Observation) (d : Configuration) (h : ConfigurationTyped m d) (n : ℕ) (x : CallRecord) (there : call_at d n ≡ Some x)
      (t : CallTyped m (referents m d) d.cells x) (active : x.state ≡ state.Active None) (target : Option ℕ) (call : Call) (next : ℕ)
      (stands : statement_at m x.statement ≡ Some (statement.Call target call next)) (onto : goes_on t.method next ≡ true) where
    -- what becomes of the maker of a new call
    module _ (y : CallRecord) (new : CallTyped m (referents m d) d.cells y) (none : callee_of y.state ≡ None) (row : ℕ) (of_row : result_row m y ≡ Some row)
        (u : ValueType) (takes_it : Takes (method_scope m t.class t.method) target u) where
      abbrev after : Configuration
      after = with_new_call d y

      after_typed : ConfigurationTyped m after
      after_typed = with_new_call_typed m d h y new none

      there_after : call_at after n ≡ Some x
      there_after = push_old d.calls y n x there

      abbrev maker : CallTyped m (referents m after) d.cells x
      maker = call_more m d.cells d.cells (new_call_extends m d y) (longer_same d.cells) t

      found : (referents m after).result_of (length d.calls + 1) ≡ Some row
      found = ap (row_of m) (push_new d.calls y) ∙ of_row

      -- the maker waits for the result from now on
      maker_waits_typed : (s : CallState) → is_outside s ≡ false → callee_of s ≡ Some (length d.calls + 1) → type_at m row ≡ Some u →
          ConfigurationTyped m (with_call after n (record x { state = s }))
      maker_waits_typed s inside lack type =
          let l : MakerTyped m (referents m after) (record x { state = s }) (length d.calls + 1) = record {
            target = target;
            call = call;
            next = next;
            stands = stands;
            class = t.class;
            of_class = maker.of_class;
            method = t.method;
            called = t.called;
            row = row;
            type = u;
            results = found;
            typed = type;
            takes = takes_it;
          } in
          with_call_typed m after after_typed n x (record x { state = s }) there_after refl
          (in_state_typed m x maker x.statement s (λ e. t.stands (ap is_unfinished active)) (λ e. t.inside (ap is_unfinished active)) (λ e. absurd (false≢true (sym inside ∙ e))))
          (λ k e. subst (MakerTyped m (referents m after) (record x { state = s })) (known (sym lack ∙ e)) l)

      maker_typed : (how : Manner) → given_by m how row ≡ Some u → (r : Receiver) → ConfigurationTyped m (call_by m n x how r d y target next)
      maker_typed manner.Asynchronous gives r =
          advance_stores m after after_typed n x there_after (ap is_unfinished active) maker next x.state (rw active free_active) onto target (value.Future (length d.calls + 1)) u takes_it
          (row, found, sym (known gives))
      maker_typed manner.Synchronous gives Receiver.own_group = maker_waits_typed (state.Calling (length d.calls + 1)) refl refl gives
      maker_typed manner.Synchronous gives Receiver.outside = maker_waits_typed (state.Active (Some (length d.calls + 1))) refl refl gives
      maker_typed manner.Synchronous gives Receiver.other_group = maker_waits_typed (state.Active (Some (length d.calls + 1))) refl refl gives

    take_typed : (g : OutgoingCall) (e : Configuration) → ConfigurationTyped m e → (accepted : Bool) →
        OutcomeTyped m (cond accepted (transition e (Request.take g)) (Err refusal.NotTaken))
    take_typed g e typed true = typed
    take_typed g e typed false = tt

    call_to_typed : (r : Receiver) (g : OutgoingCall) (e : Configuration) → ConfigurationTyped m e → OutcomeTyped m (call_to seen r g e)
    call_to_typed Receiver.outside g e typed = take_typed g e typed (takes_call seen g)
    call_to_typed Receiver.own_group g e typed = typed
    call_to_typed Receiver.other_group g e typed = typed

    module _ (hd : Heading) (u : ValueType) (gives : given_by m call.manner hd.result ≡ Some u) (takes_it : Takes (method_scope m t.class t.method) target u) where
      call_dispatch_typed : (a : Message) (r : HasMethod m (referents m d) call.name hd a.object) →
          ArgumentsFit m (Has m (referents m d) d.cells) a.arguments (heading_parameters m hd) →
          OutcomeTyped m (call_dispatch m n x seen target call next a d (dispatch m x d a.object call.name))
      call_dispatch_typed a r fit =
          let to = method_dispatch m d n x call.name hd a.object r in
          let w : Receiver = receiver (is_outside_class r.class) to.1 in
          let new = new_call_typed (referents m d) d.cells call.name hd a r fit n x call.manner to.1 (is_outside_class r.class) refl in
          let y : CallRecord = new_call m n x a r.row r.method call.manner w in
          let gives' = gives_alike (referents m d) call.name a.object hd r call.manner u gives in
          rw to.2
          (call_to_typed w (outgoing m (length d.calls + 1) a (record { class = to.0; receiver = w; row = r.row; method = r.method }))
          (call_by m n x call.manner w d y target next) (maker_typed y new.0 new.1 r.method.result new.2 u takes_it call.manner gives' w))

      call_if_room_typed : (a : Message) → HasMethod m (referents m d) call.name hd a.object →
          ArgumentsFit m (Has m (referents m d) d.cells) a.arguments (heading_parameters m hd) → (room : Bool) →
          OutcomeTyped m (cond room (call_dispatch m n x seen target call next a d (dispatch m x d a.object call.name)) (Err refusal.NoCallLeft))
      call_if_room_typed a r fit true = call_dispatch_typed a r fit
      call_if_room_typed a r fit false = tt

  module _ (seen : Observation) (c : Configuration) (h : ConfigurationTyped m c) (n : ℕ) (x : CallRecord) (there : call_at c n ≡ Some x)
      (functions : FunctionsTyped m) (t : CallTyped m (referents m c) c.cells x) (active : x.state ≡ state.Active None) where
    pub call_typed : (target : Option ℕ) (call : Call) (next : ℕ) → statement_at m x.statement ≡ Some (statement.Call target call next) →
        IsCalled m t.class t.method (method_scope m t.class t.method) target call → goes_on t.method next ≡ true →
        OutcomeTyped m (call_step m n x seen c target call next)
    call_typed target call next stands is onto =
        on_answer_typed m c x (FitsCall m c call is.0) (message x.object call.object (parts call.arguments) (call_environment c x)) (call_with m n x seen target call next)
        (message_ends m accepted.lawful c h x functions t call is.0 is.3 is.2) after_message
      where
        -- over the cells that the evaluation left
        after_message : (o : Option Message) (cells : List Data) → FitsCall m c call is.0 o cells →
            OutcomeTyped m (call_with m n x seen target call next o (with_cells c cells))
        after_message None cells fits = tt
        after_message (Some a) cells fits =
            let longer = fits.1.longer in
            call_if_room_typed seen (with_cells c cells) (with_cells_typed m c h cells longer fits.1.typed) n x there
            (call_after m c x h functions t cells longer) active target call next stands onto is.0 is.1 is.4 is.5 a fits.0 fits.1.fit (nat_lt (length c.calls) 128)
