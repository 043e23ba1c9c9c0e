-- Returns and replies keep configurations in order.
use Rattle.std.proofs.Common.{◌≡◌, ℕ, Bool, true, false, cond, List, Some, None, Err, Option, refl, sym, ap, ◌∙◌, inl, inr, arith, is_some}
use Rattle.std.specs.Prelude.{◌==◌}
use Rattle.std.proofs.lemmas.Bool.{and_parts, false≢true, true≢false, eq-eqb, ne_eqb}
use Rattle.std.proofs.lemmas.Option.{none-some}
use Rattle.tables.specs.Layout.{Content}
use Rattle.rules.proofs.Rows.{known}
use Rattle.syntax.specs.Rows.{given}
use Rattle.outside.specs.declared.value.Reply.{Reply}
use Rattle.outside.specs.Outsides.{Waits}
use Rattle.outside.specs.Values.{sort_of}
use Rattle.evaluation.specs.declared.value.Value.{Value}
use Rattle.evaluation.specs.Plans.{ask}
use Rattle.evaluation.specs.Values.{Data}
use Rattle.steps.specs.declared.records.CallRecord.{CallRecord}
use Rattle.steps.specs.declared.refusal.Refusal.TheVariants as refusal
use Rattle.steps.specs.declared.state.CallState.{CallState}
use Rattle.steps.specs.declared.state.CallState.TheVariants as state
use Rattle.steps.specs.Changes.{as_ended, as_waiting, with_cells, with_item_at}
use Rattle.steps.specs.Configurations.{Configuration, call_at, call_environment, item_at}
use Rattle.steps.specs.Crossing.{result_sort, same_sort, value_of_plain}
use Rattle.steps.specs.Outcomes.{Request, silent, transition}
use Rattle.steps.specs.Returning.{resume, return_step}
use Rattle.steps.specs.Rules as rule
use Rattle.steps.specs.Sound.{InOrder, WaitsBecome, calls_outside, waiting_sort}
use Rattle.steps.specs.States.{is_ended, is_outside, is_unfinished}
use Rattle.steps.specs.Steps.{expects, reply_step, reply_to}
use Rattle.steps.proofs.Items.{put_here, put_other, same_or}
use Rattle.steps_ordered.specs.Ending.{Finish, finish_by_reply}
use Rattle.steps_ordered.proofs.Handing.{return_ordered}
use Rattle.steps_ordered.proofs.Lasting.{Lasts, lasts_put, lasts_then, objects_same}
use Rattle.steps_ordered.proofs.OrderedLocal.{answer_fine}
use Rattle.steps_ordered.proofs.Ordering.{change_ordered, weight}
use Rattle.steps_ordered.proofs.Shifting.{IsBase, Before, IsFine, base_cells, out_stays}

-- a call that did not end has no value
no_value : (c : Configuration) → InOrder c → (n : ℕ) (x : CallRecord) → call_at c n ≡ Some x → is_ended x.state ≡ false → (v : Value) → x.result ≡ Some v → ⊥
no_value c h n x there open_ v e = true≢false (sym (ap is_some e) ∙ h.resolved n x there ∙ open_)

-- a return
module _ (m : Content) (waits : Waits) (c : Configuration) (base : IsBase m c (record { waits = waits; start = c })) (n : ℕ) (x : CallRecord) (there : call_at c n ≡ Some x)
    (active : x.state ≡ state.Active None) where
  abbrev before : Before
  before = record { waits = waits; start = c }

  module _ (v : Value) (cells : List Data) where
    abbrev over : Configuration
    over = rule.return (with_cells c cells) n x v

    base_over : IsBase m (with_cells c cells) before
    base_over = base_cells m c before cells base

    over_out : (k : ℕ) → calls_outside m over k ≡ calls_outside m c k
    over_out = out_stays m c over n x (as_ended x v) there refl (ap is_outside active) refl

    over_lasts : Lasts c (Finish.return n) over
    over_lasts =
        let it : (n == n) ≡ true = eq-eqb n n refl in
        lasts_put (Finish.return n) c over n x (as_ended x v) there refl (record {
          same = record { object = refl; method = refl; caller = refl };
          value = λ z e. absurd (no_value c base.order n x there (ap is_ended active) z e);
          unfinished = rw it refl;
          ended = rw it refl;
        }) (λ k ne. let miss : (n == k) ≡ false = ne_eqb n k (λ e. ne (sym e)) in (miss, miss)) (objects_same c) refl (omega arith)

    over_ordered : x.caller ≡ None → InOrder over
    over_ordered none = change_ordered (with_cells c cells) over base_over.homes (λ k o e. refl) base_over.order n x (as_ended x v) there (record {
      calls = refl;
      object = refl;
      caller = refl;
      resolved = refl;
      was_not_calling = λ j e. (let same : state.Active None ≡ state.Calling j = sym active ∙ e in absurd cc);
      not_calling = λ j e. absurd cc;
      was_open = λ e. absurd (false≢true e);
      stays_open = λ k e f. absurd (none-some k (sym none ∙ e));
      alone = λ a. absurd (false≢true a);
      counts = (
          let was : weight x.state ≡ 1 = ap weight active in
          omega arith
          );
    })

    resume_fine : (o : Option ℕ) → x.caller ≡ o → IsFine m before (Finish.return n) (silent (resume over n o))
    resume_fine None e = (over_ordered e, λ w′ becomes k. becomes k ∙ base.out k ∙ sym (over_out k), over_lasts)
    resume_fine (Some k) e =
        let p = base.order.callers n k x there (ap is_unfinished active) e in
        let y : CallRecord = p.0 in
        let d : Configuration = rule.cog_sync_return over n k y in
        let apart : k ≡ n → ⊥ = λ at. (
        let same : y ≡ x = known (sym p.1 ∙ ap (call_at c) at ∙ there) in
        let states : state.Calling n ≡ state.Active None = sym p.2 ∙ ap (λ (z : CallRecord). z.state) same ∙ active in
        absurd cc
        ) in
        let still : call_at over k ≡ Some y = put_other c.calls n k (as_ended x v) apart ∙ p.1 in
        let ordered = return_ordered (with_cells c cells) base_over.order n k x y v there active e p.1 p.2 p.3 in
        let out : (j : ℕ) → calls_outside m d j ≡ calls_outside m c j =
        λ j. out_stays m over d k y (as_waiting y n) still refl (ap is_outside p.2) refl j ∙ over_out j in
        let resumption : Lasts over Finish.nothing d =
        lasts_put Finish.nothing over d k y (as_waiting y n) still refl (record {
          same = record { object = refl; method = refl; caller = refl };
          value = λ z e. e;
          unfinished = sym (ap is_unfinished p.2);
          ended = sym (ap is_ended p.2);
        }) (λ j ne. (refl, refl)) (objects_same over) (omega arith) (omega arith) in
        rw (still, p.2) (ordered, λ w′ becomes j. becomes j ∙ base.out j ∙ sym (out j), lasts_then (Finish.return n) c over d over_lasts resumption)

  pub return_fine : (value : ℕ) → IsFine m before (Finish.return n) (return_step m c n x value)
  return_fine value =
      answer_fine m before (Finish.return n) c x (λ v d. silent (resume (rule.return d n x v) n x.caller)) (ask value (call_environment c x))
      (λ v cells. resume_fine v cells x.caller refl)

outside_state : (s : CallState) → is_outside s ≡ true → s ≡ state.Outside
outside_state state.Sent e = absurd (false≢true e)
outside_state state.Queued e = absurd (false≢true e)
outside_state (state.Active k) e = absurd (false≢true e)
outside_state (state.Calling k) e = absurd (false≢true e)
outside_state state.Ended e = absurd (false≢true e)
outside_state state.Outside e = refl

-- a reply
module _ (m : Content) (waits : Waits) (c : Configuration) (base : IsBase m c (record { waits = waits; start = c })) (r : Reply) where
  abbrev earlier : Before
  earlier = record { waits = waits; start = c }

  module _ (x : CallRecord) (there : call_at c r.call ≡ Some x) (out : x.state ≡ state.Outside) where
    abbrev v : Value
    v = value_of_plain r.value

    abbrev after : Configuration
    after = rule.reply c r.call x v

    reply_ordered : InOrder after
    reply_ordered = change_ordered c after base.homes (λ k o e. refl) base.order r.call x (as_ended x v) there (record {
      calls = refl;
      object = refl;
      caller = refl;
      resolved = refl;
      was_not_calling = λ j e. (let same : state.Outside ≡ state.Calling j = sym out ∙ e in absurd cc);
      not_calling = λ j e. absurd cc;
      was_open = λ e. absurd (false≢true e);
      stays_open = λ k e f. absurd (false≢true (sym (ap is_unfinished out) ∙ f));
      alone = λ a. absurd (false≢true a);
      counts = (
          let was : weight x.state ≡ 1 = ap weight out in
          omega arith
          );
    })

    reply_out : (w′ : Waits) → WaitsBecome waits (Request.deliver r.call) w′ → (k : ℕ) → w′ k ≡ calls_outside m after k
    reply_out w′ becomes k = elim (same_or r.call k) [
      | inl at ↦ (
          let gone : w′ k ≡ None = becomes k ∙ ap (λ (b : Bool). cond b None (waits k)) (eq-eqb r.call k (sym at)) in
          let now : call_at after k ≡ Some (as_ended x v) = ap (item_at (with_item_at c.calls r.call (as_ended x v))) at ∙ put_here c.calls r.call x (as_ended x v) there in
          gone ∙ sym (ap (λ (o : Option CallRecord). given o (waiting_sort m)) now)
          )
      | inr ne ↦ (
          let stays : w′ k ≡ waits k = becomes k ∙ ap (λ (b : Bool). cond b None (waits k)) (ne_eqb r.call k (λ e. ne (sym e))) in
          stays ∙ base.out k ∙ sym (ap (λ (o : Option CallRecord). given o (waiting_sort m)) (put_other c.calls r.call k (as_ended x v) ne))
          )
    ]

    reply_lasts : Lasts c (Finish.reply r.call) after
    reply_lasts =
        let it : (r.call == r.call) ≡ true = eq-eqb r.call r.call refl in
        lasts_put (Finish.reply r.call) c after r.call x (as_ended x v) there refl (record {
          same = record { object = refl; method = refl; caller = refl };
          value = λ z e. absurd (no_value c base.order r.call x there (ap is_ended out) z e);
          unfinished = sym (ap is_unfinished out);
          ended = rw it refl;
        }) (λ k ne. (refl, ne_eqb r.call k (λ e. ne (sym e)))) (objects_same c) (omega arith) refl

  fits_fine : (x : CallRecord) → call_at c r.call ≡ Some x → (fits : Bool) → expects m x r.value ≡ fits →
      IsFine m earlier (Finish.reply r.call) (cond fits (transition (rule.reply c r.call x (value_of_plain r.value)) (Request.deliver r.call)) (Err refusal.StrangeReply))
  fits_fine x there false e = tt
  fits_fine x there true e =
      let p = and_parts (is_outside x.state) (same_sort (result_sort m x) (sort_of r.value)) e in
      let out = outside_state x.state p.0 in
      (reply_ordered x there out, reply_out x there out, reply_lasts x there out)

  call_fine : (o : Option CallRecord) → call_at c r.call ≡ o → IsFine m earlier (Finish.reply r.call) (reply_to m c r o)
  call_fine None e = tt
  call_fine (Some x) e = fits_fine x e (expects m x r.value) refl

pub reply_fine : (m : Content) (waits : Waits) (c : Configuration) → IsBase m c (record { waits = waits; start = c }) → (o : Option Reply) →
    IsFine m (record { waits = waits; start = c }) (finish_by_reply o) (reply_step m c o)
reply_fine m waits c base None = tt
reply_fine m waits c base (Some r) = call_fine m waits c base r (call_at c r.call) refl
