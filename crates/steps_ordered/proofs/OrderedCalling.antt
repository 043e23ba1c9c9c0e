-- Calls keep configurations in order.
use Rattle.std.proofs.Common.{◌≡◌, ℕ, zero, suc, ◌+◌, ◌<◌, Bool, true, false, cond, List, [], ◌∷◌, ◌++◌, length, Some, None, Err, Option, refl, sym, ap, ◌∙◌, inl, inr, arith}
use Rattle.std.specs.Prelude.{nat_lt}
use Rattle.std.specs.List.{slice_get}
use Rattle.std.proofs.lemmas.Bool.{eq-eqb, ne_eqb, ltb-true}
use Rattle.std.proofs.lemmas.Option.{none-some, slice_get_within}
use Rattle.tables.specs.declared.rows.ClassRow.{ClassRow}
use Rattle.tables.specs.declared.rows.MethodRow.{MethodRow}
use Rattle.tables.specs.Layout.{Content}
use Rattle.rules.proofs.Rows.{known}
use Rattle.shape.specs.Shape.{is_outside_class}
use Rattle.syntax.specs.declared.statements.Call.{Call}
use Rattle.syntax.specs.declared.statements.Manner.{Manner}
use Rattle.syntax.specs.declared.statements.Manner.TheVariants as manner
use Rattle.syntax.specs.Nodes.{parts}
use Rattle.syntax.specs.Rows.{given}
use Rattle.syntax.specs.Types.{type_at}
use Rattle.syntax.proofs.Parts.{given_parts}
use Rattle.outside.specs.declared.value.Sort.{Sort}
use Rattle.outside.specs.Outsides.{Waits}
use Rattle.evaluation.specs.declared.value.Value.TheVariants as value
use Rattle.evaluation.specs.Values.{Data}
use Rattle.steps.specs.declared.records.CallRecord.{CallRecord}
use Rattle.steps.specs.declared.records.ObjectRecord.{ObjectRecord}
use Rattle.steps.specs.declared.refusal.Refusal.TheVariants as refusal
use Rattle.steps.specs.declared.state.CallState.{CallState}
use Rattle.steps.specs.declared.state.CallState.TheVariants as state
use Rattle.steps.specs.Calling.{Dispatch, Message, Receiver, call_by, call_dispatch, call_step, call_to, call_with, dispatch, first_moment, message, row_of_method, new_call, outgoing, receiver, takes_call}
use Rattle.steps.specs.Changes.{as_calling, with_cells, with_new_call}
use Rattle.steps.specs.Configurations.{Configuration, call_at, call_environment, group_of, item_at, object_at, same_group}
use Rattle.steps.specs.Crossing.{known_sort, result_sort}
use Rattle.steps.specs.Outcomes.{Observation, Request, silent, transition}
use Rattle.steps.specs.Rules as rule
use Rattle.steps.specs.Sound.{Beside, WaitsBecome, calls_outside, waiting_sort}
use Rattle.steps.specs.States.{is_active, is_ended, is_outside, is_unfinished}
use Rattle.steps.proofs.Items.{push_cases, push_new, push_old, push_other, same_or}
use Rattle.steps_ordered.specs.Ending.{Finish}
use Rattle.steps_ordered.proofs.Handing.{own_call_ordered}
use Rattle.steps_ordered.proofs.Lasting.{Lasts, lasts_push, lasts_put, lasts_same, lasts_then, objects_same}
use Rattle.steps_ordered.proofs.OrderedLocal.{answer_fine, goes_on_fine, target_fine}
use Rattle.steps_ordered.proofs.Ordering.{more_ordered, weight}
use Rattle.steps_ordered.proofs.Shifting.{IsBase, Before, IsFine, base_cells, out_stays, put_shift}

-- What a dispatch found: the object, which is in the group of the maker if the receiver is, and the method.
record Reaches (m : Content) (x : CallRecord) (d : Configuration) (object : ℕ) (f : Dispatch) : Type 0 where
  object_record : ObjectRecord
  there : object_at d object ≡ Some object_record
  method : slice_get m.methods f.row ≡ Some f.method
  own : f.receiver ≡ Receiver.own_group → same_group object_record.group (group_of d x.object) ≡ true

own_receiver : (out own : Bool) → receiver out own ≡ Receiver.own_group → own ≡ true
own_receiver true own e = absurd cc
own_receiver false true e = refl
own_receiver false false e = absurd cc

module _ (m : Content) (n : ℕ) (x : CallRecord) (d : Configuration) (object name : ℕ) (f : Dispatch) where
  abbrev by_method : ObjectRecord → ClassRow → (row : ℕ) → Option MethodRow → Option Dispatch
  by_method o k row z =
      given z (λ y. Some (record { class = o.class; receiver = receiver (is_outside_class k) (same_group o.group (group_of d x.object)); row = row; method = y }))

  abbrev by_class : ObjectRecord → ClassRow → Option Dispatch
  by_class o k = given (row_of_method m k name) (λ row. by_method o k row (slice_get m.methods row))

  -- the method in a row, of class k
  method_reaches : (o : ObjectRecord) → object_at d object ≡ Some o → (k : ClassRow) (row : ℕ) (y : Option MethodRow) → slice_get m.methods row ≡ y →
      by_method o k row y ≡ Some f → Reaches m x d object f
  method_reaches o there k row None at e = absurd (none-some f e)
  method_reaches o there k row (Some y) at e =
      let same = known e in
      rw (← same) (record { object_record = o; there = there; method = at; own = own_receiver (is_outside_class k) (same_group o.group (group_of d x.object)) })

  dispatch_reaches : dispatch m x d object name ≡ Some f → Reaches m x d object f
  dispatch_reaches e =
      let p = given_parts (object_at d object) (λ o. given (slice_get m.classes o.class) (by_class o)) f e in
      let q = given_parts (slice_get m.classes p.0.class) (by_class p.0) f p.2 in
      let r = given_parts (row_of_method m q.0 name) (λ row. by_method p.0 q.0 row (slice_get m.methods row)) f q.2 in
      method_reaches p.0 p.1 q.0 r.0 (slice_get m.methods r.0) refl r.2

module _ (m : Content) (w : Before) (d : Configuration) (base : IsBase m d w) (n : ℕ) (x : CallRecord) (there : call_at d n ≡ Some x)
    (active : x.state ≡ state.Active None) (target : Option ℕ) (next : ℕ) (a : Message) (f : Dispatch) (reaches : Reaches m x d a.object f)
    (room : length d.calls < 128) where
  abbrev number : ℕ
  number = length d.calls + 1

  abbrev more : CallRecord → Configuration
  more z = with_new_call d z

  abbrev sort : Option CallRecord → Option Sort
  sort p = given p (waiting_sort m)

  out_old : (z : CallRecord) (k : ℕ) → (k ≡ number → ⊥) → calls_outside m (more z) k ≡ calls_outside m d k
  out_old z k ne = ap sort (push_other d.calls z k ne)

  out_new : (z : CallRecord) (k : ℕ) → k ≡ number → calls_outside m (more z) k ≡ waiting_sort m z
  out_new z k at = ap sort (ap (item_at (d.calls ++ z ∷ [])) at ∙ push_new d.calls z)

  none_before : (k : ℕ) → k ≡ number → calls_outside m d k ≡ None
  none_before k at = go k at (call_at d k) refl
    where
      go : (k : ℕ) → k ≡ number → (p : Option CallRecord) → call_at d k ≡ p → calls_outside m d k ≡ None
      go k at None e = ap sort e
      go zero at (Some u) e = absurd (none-some u e)
      go (suc k) at (Some u) e = let lt = slice_get_within d.calls k u e in absurd (omega arith)

  -- a call that is not out
  out_inside : (z : CallRecord) → is_outside z.state ≡ false → (k : ℕ) → calls_outside m (more z) k ≡ calls_outside m d k
  out_inside z inside k = elim (same_or number k) [
    | inl at ↦ out_new z k at ∙ rw inside (sym (none_before k at))
    | inr ne ↦ out_old z k ne
  ]

  new_lasts : (z : CallRecord) → is_ended z.state ≡ false → Lasts w.start Finish.nothing (more z)
  new_lasts z open_ = lasts_then Finish.nothing w.start d (more z) base.lasts (lasts_push d (more z) z open_ refl (objects_same d) refl refl)

  -- what there is once the call was made
  abbrev now : CallRecord → Before
  now z = record { waits = calls_outside m (more z); start = more z }

  -- a call that is sent, or taken
  module _ (s : CallState) (not_active : is_active s ≡ false) (not_calling : (k : ℕ) → s ≡ state.Calling k → ⊥) (not_ended : is_ended s ≡ false)
      (one : weight s ≡ 1) where
    abbrev z : CallRecord
    z = first_moment m a f.row f.method s None

    more_base : IsBase m (more z) (now z)
    more_base = record {
      order = more_ordered d (more z) base.homes (λ k p e. refl) base.order z (record {
        calls = refl;
        no_caller = refl;
        resolved = sym not_ended;
        not_active = not_active;
        not_calling = not_calling;
        room = room;
        counts = omega arith;
      });
      homes = push_cases d.calls z (λ k u. (q : ObjectRecord) × (object_at d u.object ≡ Some q)) (reaches.object_record, reaches.there) base.homes;
      out = λ k. refl;
      lasts = lasts_same (more z) (more z) refl (objects_same (more z)) refl refl;
    }

    maker_there : call_at (more z) n ≡ Some x
    maker_there = push_old d.calls z n x there

    async_fine : IsFine m (now z) Finish.nothing (silent (rule.async_call d n x z target next))
    async_fine = target_fine m (now z) (more z) more_base n x maker_there (ap is_active active) next x.state (ap is_active active) target (value.Future number)

    rem_sync_fine : IsFine m (now z) Finish.nothing (silent (rule.rem_sync_call d n x z))
    rem_sync_fine =
        goes_on_fine m (now z) (more z) more_base n x maker_there (ap is_active active) (state.Active (Some number)) refl (rule.rem_sync_call d n x z)
        (put_shift (more z) n x x.statement (state.Active (Some number)))

    -- what becomes of the maker, after the call was made
    then_fine : (r : Request) → ((w′ : Waits) → WaitsBecome w.waits r w′ → (k : ℕ) → w′ k ≡ calls_outside m (more z) k) → (e : Configuration) →
        IsFine m (now z) Finish.nothing (silent e) → IsFine m w Finish.nothing (transition e r)
    then_fine r first e p = (
      p.0,
      λ w′ becomes k. first w′ becomes k ∙ p.1 (calls_outside m (more z)) (λ k. refl) k,
      lasts_then Finish.nothing w.start (more z) e (new_lasts z not_ended) p.2,
    )

  -- sent: as before
  send_fine : (e : Configuration) → IsFine m (now (first_moment m a f.row f.method state.Sent None)) Finish.nothing (silent e) → IsFine m w Finish.nothing (silent e)
  send_fine = then_fine state.Sent refl (λ k e. absurd cc) refl refl Request.nothing
      (λ w′ becomes k. becomes k ∙ base.out k ∙ sym (out_inside (first_moment m a f.row f.method state.Sent None) refl k))

  -- taken: it waits
  take_out : (w′ : Waits) → WaitsBecome w.waits (Request.take (outgoing m number a f)) w′ → (k : ℕ) →
      w′ k ≡ calls_outside m (more (first_moment m a f.row f.method state.Outside None)) k
  take_out w′ becomes k =
      let z : CallRecord = first_moment m a f.row f.method state.Outside None in
      let kind : result_sort m z ≡ known_sort (type_at m f.method.result) = ap (λ (p : Option MethodRow). known_sort (given p (λ q. type_at m q.result))) reaches.method in
      elim (same_or number k) [
        | inl at ↦ becomes k ∙ ap (λ (b : Bool). cond b (Some (known_sort (type_at m f.method.result))) (w.waits k)) (eq-eqb number k (sym at))
            ∙ sym (out_new z k at ∙ ap (λ (q : Sort). Some q) kind)
        | inr ne ↦ becomes k ∙ ap (λ (b : Bool). cond b (Some (known_sort (type_at m f.method.result))) (w.waits k)) (ne_eqb number k (λ e. ne (sym e)))
            ∙ base.out k ∙ sym (out_old z k ne)
      ]

  take_fine : (e : Configuration) → IsFine m (now (first_moment m a f.row f.method state.Outside None)) Finish.nothing (silent e) → (accepted : Bool) →
      IsFine m w Finish.nothing (cond accepted (transition e (Request.take (outgoing m number a f))) (Err refusal.NotTaken))
  take_fine e p false = tt
  take_fine e p true = then_fine state.Outside refl (λ k e. absurd cc) refl refl (Request.take (outgoing m number a f)) take_out e p

  -- inside the group
  own_call_fine : f.receiver ≡ Receiver.own_group → IsFine m w Finish.nothing (silent (rule.cog_sync_call d n x (first_moment m a f.row f.method (state.Active None) (Some n))))
  own_call_fine own =
      let z : CallRecord = first_moment m a f.row f.method (state.Active None) (Some n) in
      let e : Configuration = rule.cog_sync_call d n x z in
      let maker : call_at (more z) n ≡ Some x = push_old d.calls z n x there in
      let beside : Beside d z x = ap (λ (p : Option ObjectRecord). same_group (given p (λ q. q.group)) (group_of d x.object)) reaches.there ∙ reaches.own own in
      let second : (k : ℕ) → calls_outside m e k ≡ calls_outside m (more z) k = out_stays m (more z) e n x (as_calling x number) maker refl (ap is_outside active) refl in
      let calls : Lasts (more z) Finish.nothing e =
      lasts_put Finish.nothing (more z) e n x (as_calling x number) maker refl (record {
        same = record { object = refl; method = refl; caller = refl };
        value = λ v e. e;
        unfinished = sym (ap is_unfinished active);
        ended = sym (ap is_ended active);
      }) (λ k ne. (refl, refl)) (objects_same d) (omega arith) (omega arith) in (
        own_call_ordered d base.order n x z there active refl refl refl beside room,
        λ w′ becomes k. becomes k ∙ base.out k ∙ sym (out_inside z refl k) ∙ sym (second k),
        lasts_then Finish.nothing w.start (more z) e (new_lasts z refl) calls,
      )

  by_fine : (seen : Observation) (how : Manner) (r : Receiver) → (r ≡ Receiver.own_group → f.receiver ≡ Receiver.own_group) →
      IsFine m w Finish.nothing (call_to seen r (outgoing m number a f) (call_by m n x how r d (new_call m n x a f.row f.method how r) target next))
  by_fine seen manner.Asynchronous Receiver.outside own =
      take_fine (rule.async_call d n x (first_moment m a f.row f.method state.Outside None) target next)
      (async_fine state.Outside refl (λ k e. absurd cc) refl refl) (takes_call seen (outgoing m number a f))
  by_fine seen manner.Synchronous Receiver.outside own =
      take_fine (rule.rem_sync_call d n x (first_moment m a f.row f.method state.Outside None))
      (rem_sync_fine state.Outside refl (λ k e. absurd cc) refl refl) (takes_call seen (outgoing m number a f))
  by_fine seen manner.Asynchronous Receiver.own_group own =
      send_fine (rule.async_call d n x (first_moment m a f.row f.method state.Sent None) target next) (async_fine state.Sent refl (λ k e. absurd cc) refl refl)
  by_fine seen manner.Synchronous Receiver.own_group own = own_call_fine (own refl)
  by_fine seen manner.Asynchronous Receiver.other_group own =
      send_fine (rule.async_call d n x (first_moment m a f.row f.method state.Sent None) target next) (async_fine state.Sent refl (λ k e. absurd cc) refl refl)
  by_fine seen manner.Synchronous Receiver.other_group own =
      send_fine (rule.rem_sync_call d n x (first_moment m a f.row f.method state.Sent None)) (rem_sync_fine state.Sent refl (λ k e. absurd cc) refl refl)

module _ (m : Content) (w : Before) (seen : Observation) (c : Configuration) (base : IsBase m c w) (n : ℕ) (x : CallRecord) (there : call_at c n ≡ Some x)
    (active : x.state ≡ state.Active None) (target : Option ℕ) (call : Call) (next : ℕ) where
  dispatch_fine : (cells : List Data) (a : Message) → length c.calls < 128 → (f : Option Dispatch) → dispatch m x (with_cells c cells) a.object call.name ≡ f →
      IsFine m w Finish.nothing (call_dispatch m n x seen target call next a (with_cells c cells) f)
  dispatch_fine cells a room None e = tt
  dispatch_fine cells a room (Some f) e =
      by_fine m w (with_cells c cells) (base_cells m c w cells base) n x there active target next a f (dispatch_reaches m n x (with_cells c cells) a.object call.name f e) room
      seen call.manner f.receiver (λ e. e)

  room_fine : (cells : List Data) (a : Message) (room : Bool) → nat_lt (length c.calls) 128 ≡ room →
      IsFine m w Finish.nothing (cond room (call_dispatch m n x seen target call next a (with_cells c cells) (dispatch m x (with_cells c cells) a.object call.name))
      (Err refusal.NoCallLeft))
  room_fine cells a false e = tt
  room_fine cells a true e = dispatch_fine cells a (ltb-true (length c.calls) 128 e) (dispatch m x (with_cells c cells) a.object call.name) refl

  message_fine : (o : Option Message) (cells : List Data) → IsFine m w Finish.nothing (call_with m n x seen target call next o (with_cells c cells))
  message_fine None cells = tt
  message_fine (Some a) cells = room_fine cells a (nat_lt (length c.calls) 128) refl

  pub call_fine : IsFine m w Finish.nothing (call_step m n x seen c target call next)
  call_fine =
      answer_fine m w Finish.nothing c x (call_with m n x seen target call next) (message x.object call.object (parts call.arguments) (call_environment c x)) message_fine
