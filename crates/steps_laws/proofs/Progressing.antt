-- Why a choice is refused, in a sound configuration; and what follows where every choice is.
use Rattle.std.proofs.Common.{◌≡◌, ◌⊎◌, ℕ, zero, suc, true, false, not, Some, None, Ok, Err, Option, IfErr, refl, sym, ap, subst, ◌∙◌, inl, inr, is_err, is_some}
use Rattle.std.proofs.lemmas.Bool.{and_from, false≢true, true≢false}
use Rattle.tables.specs.Layout.{Content}
use Rattle.syntax.specs.declared.statements.Statement.{Statement}
use Rattle.syntax.proofs.Parts.{given_parts}
use Rattle.outside.specs.Outsides.{OutgoingCall, Waits}
use Rattle.evaluation.specs.declared.refusal.EvaluationRefusal.{EvaluationRefusal}
use Rattle.evaluation.specs.declared.refusal.EvaluationRefusal.TheVariants as evaluation
use Rattle.evaluation.specs.declared.value.Value.{Value}
use Rattle.steps.specs.declared.records.CallRecord.{CallRecord}
use Rattle.steps.specs.declared.refusal.Refusal.{Refusal}
use Rattle.steps.specs.declared.refusal.Refusal.TheVariants as refusal
use Rattle.steps.specs.declared.state.CallState.{CallState}
use Rattle.steps.specs.declared.state.CallState.TheVariants as state
use Rattle.steps.specs.Calling.{takes_call}
use Rattle.steps.specs.Configurations.{Configuration, call_at, group_of, value_at}
use Rattle.steps.specs.Guards.{at_false_await}
use Rattle.steps.specs.Outcomes.{Observation, Outcome}
use Rattle.steps.specs.Refusals.{is_of_model}
use Rattle.steps.specs.Returning.{store_at, store_result}
use Rattle.steps.specs.Sound.{Sound, referents, result_row}
use Rattle.steps.specs.States.{callee_of, is_unfinished}
use Rattle.steps.specs.Steps.{is_busy, reply_step, state_step, step}
use Rattle.loading.specs.Accepted.{IsAccepted}
use Rattle.steps_typed.proofs.Equivalence.{configuration_typed}
use Rattle.steps_typed.proofs.Typings.{ConfigurationTyped, MakerTyped}
use Rattle.steps_laws.specs.Halted.{EveryChoiceRefused, Halted, MeetsRefusal, Reports, WaitsForUnfinished}
use Rattle.steps_laws.specs.Laws.{EveryCallIsTaken, NeverComes, NoReplyIsStrange, OnlyCallsAreMissing, Progresses}
use Rattle.steps_laws.proofs.Reasons.{HasReason, Reason, queued_reason}
use Rattle.steps_laws.proofs.Refusing.{statement_step_reason}
use Rattle.steps_laws.proofs.Sending.{step_misses, step_moves, suc_ne}
use Rattle.steps_laws.proofs.Waiting.{RefusesReply, nothing_waits, reply_refuses, reply_taken, valueless_unfinished}

-- what is refused has its refusal
refused_with : (out : Outcome) → is_err out ≡ true → (e : Refusal) × (out ≡ Err e)
refused_with (Ok d) refused = absurd (false≢true refused)
refused_with (Err e) refused = (e, refl)

of_refusal : (P : Refusal → Type 0) (out : Outcome) (e : Refusal) → IfErr out P → out ≡ Err e → P e
of_refusal P out e if same = subst (λ (o : Outcome). IfErr o P) same if

evaluation_is_of_model : (e : EvaluationRefusal) → is_of_model (refusal.Evaluation e) ≡ true
evaluation_is_of_model evaluation.NoBranch = refl
evaluation_is_of_model evaluation.ZeroDivisor = refl
evaluation_is_of_model evaluation.VisitsSpent = refl
evaluation_is_of_model evaluation.NoCell = refl

module _ (m : Content) (k : IsAccepted m) (c : Configuration) (seen : Observation) (waits : Waits) (sound : Sound m c waits) where
  h : ConfigurationTyped m c
  h = configuration_typed m c k sound.typed

  module _ (n : ℕ) (x : CallRecord) (there : call_at c n ≡ Some x) where
    -- A maker waits for the result of its call.
    maker_reason : (callee : ℕ) → MakerTyped m (referents m c) x callee → (o : Option Value) → value_at c callee ≡ o →
        HasReason m c seen n x (state.Active (Some callee)) (store_result m c n x o)
    maker_reason callee l None none =
        let p = given_parts (call_at c callee) (result_row m) l.row l.results in
        (callee, p.0, (refl, none), p.1, none)
    maker_reason callee l (Some v) some =
        let P : Option Statement → Type 0 = λ z. HasReason m c seen n x (state.Active (Some callee)) (store_at m c n x v z) in
        subst P (sym l.stands) tt

    state_reason : (s : CallState) → x.state ≡ s → HasReason m c seen n x s (state_step m c seen n x s)
    state_reason state.Sent at = tt
    state_reason state.Queued at = queued_reason m c seen n x (is_busy c (group_of c x.object)) (at_false_await m c x) refl refl
    state_reason (state.Active None) at =
        statement_step_reason m k.typed k.lawful seen c h n x there (h.calls n x there) (ap is_unfinished at)
    state_reason (state.Active (Some callee)) at = maker_reason callee (h.makers n callee x there (ap callee_of at)) (value_at c callee) refl
    state_reason (state.Calling callee) at = let p = sound.order.calling n callee x there at in (callee, p.0, refl, p.1, p.3)
    state_reason state.Ended at = refl
    state_reason state.Outside at = refl

    -- A call that is there is refused for its reason.
    reason_of : (e : Refusal) → step m c seen n ≡ Err e → Reason m c seen n x x.state e
    reason_of e refused =
        of_refusal (Reason m c seen n x x.state) (state_step m c seen n x x.state) e (state_reason x.state refl) (sym (step_moves m c seen n x there) ∙ refused)

  -- What follows of a refusal, if it does where the next reply is refused, where there is no call of the number, and where there is one.
  refusal_cases : (G : Type 0) (n : ℕ) (e : Refusal) → step m c seen n ≡ Err e → (reply_step m c seen.next ≡ Err e → RefusesReply seen.next e → G) →
      ((n ≡ 0 → ⊥) → call_at c n ≡ None → refusal.NoSuchCall ≡ e → G) → ((x : CallRecord) → call_at c n ≡ Some x → Reason m c seen n x x.state e → G) → G
  refusal_cases G zero e refused reply none call =
      reply refused (of_refusal (RefusesReply seen.next) (reply_step m c seen.next) e (reply_refuses m c seen.next) refused)
  refusal_cases G (suc n) e refused reply none call = go (call_at c (suc n)) refl
    where
      go : (o : Option CallRecord) → call_at c (suc n) ≡ o → G
      go None at =
          none (suc_ne n) at (of_refusal (λ (f : Refusal). refusal.NoSuchCall ≡ f) (Err refusal.NoSuchCall) e refl (sym (step_misses m c seen (suc n) (suc_ne n) at) ∙ refused))
      go (Some x) at = call x at (reason_of (suc n) x at e refused)

  -- Only calls are missing.
  missing_call : (n : ℕ) → step m c seen n ≡ Err refusal.NoSuchCall → (n ≡ 0 → ⊥) × (call_at c n ≡ None)
  missing_call n refused =
      refusal_cases ((n ≡ 0 → ⊥) × (call_at c n ≡ None)) n refusal.NoSuchCall refused (λ same r. absurd r) (λ ne at e. (ne, at)) (λ x at r. absurd r)

  module _ (reports : Reports seen waits) where
    no_strange_reply : NeverComes m c seen refusal.StrangeReply
    no_strange_reply n refused =
        refusal_cases ⊥ n refusal.StrangeReply refused
        (λ same r. false≢true (sym (reply_taken m c waits sound seen reports r.0 r.1) ∙ ap is_err same)) (λ ne at e. absurd cc) (λ x at r. r)

    -- Where nothing waits, a call is taken.
    taken : ((n : ℕ) → waits n ≡ None) → (n : ℕ) (x : CallRecord) (g : OutgoingCall) → takes_call seen g ≡ true
    taken none n x g =
        let unheard : seen.waiting g.call ≡ false = reports.waiting g.call ∙ ap is_some (none g.call) in
        and_from (seen.room g.class) (not (seen.waiting g.call)) (reports.room none g.class) (ap not unheard)

    always_taken : ((n : ℕ) → waits n ≡ None) → NeverComes m c seen refusal.NotTaken
    always_taken none n refused =
        refusal_cases ⊥ n refusal.NotTaken refused (λ same r. r) (λ ne at e. absurd cc)
        (λ x at r. true≢false (sym (taken none n x r.0) ∙ r.1))

    module _ (all_refused : EveryChoiceRefused m c seen) where
      none_waits : (n : ℕ) → waits n ≡ None
      none_waits = nothing_waits m c waits sound seen reports (all_refused 0)

      -- what halts an unfinished process
      abbrev Halts : ℕ → CallRecord → Type 0
      Halts n x = MeetsRefusal m c seen n ⊎ ((at_false_await m c x ≡ true) ⊎ WaitsForUnfinished m c x)

      module _ (n : ℕ) (x : CallRecord) (unfinished : is_unfinished x.state ≡ true) where
        halts : (e : Refusal) → step m c seen n ≡ Err e → Reason m c seen n x x.state e → Halts n x
        halts refusal.NoSuchCall refused r = absurd r
        halts refusal.Finished refused r = absurd (true≢false (sym unfinished ∙ r))
        halts refusal.GroupBusy refused r = inr (inr r)
        halts refusal.FalseGuard refused r = inr (inl r)
        halts refusal.Unresolved refused r = inr (inr (r.0, r.1, r.2, r.3, valueless_unfinished m c waits sound none_waits r.0 r.1 r.3 r.4))
        halts refusal.Calling refused r = inr (inr r)
        halts refusal.NothingWaits refused r = absurd r
        halts refusal.StrangeReply refused r = absurd r
        halts refusal.NullObject refused r = inl (refusal.NullObject, refused, refl)
        halts refusal.NullFuture refused r = inl (refusal.NullFuture, refused, refl)
        halts (refusal.Evaluation e) refused r = inl (refusal.Evaluation e, refused, evaluation_is_of_model e)
        halts refusal.NoCallLeft refused r = inl (refusal.NoCallLeft, refused, refl)
        halts refusal.NoObjectLeft refused r = inl (refusal.NoObjectLeft, refused, refl)
        halts refusal.NotTaken refused r = absurd (true≢false (sym (taken none_waits n x r.0) ∙ r.1))

      process_halts : (n : ℕ) (x : CallRecord) → call_at c n ≡ Some x → is_unfinished x.state ≡ true → Halts n x
      process_halts n x there unfinished =
          let r = refused_with (step m c seen n) (all_refused n) in
          halts n x unfinished r.0 r.1 (reason_of n x there r.0 r.1)

      halted : Halted m c seen waits
      halted = record { nothing_waits = none_waits; processes = process_halts }

pub progresses : (m : Content) → IsAccepted m → Progresses m
progresses m k c seen waits sound reports all_refused = halted m k c seen waits sound reports all_refused

pub no_reply_is_strange : (m : Content) → IsAccepted m → NoReplyIsStrange m
no_reply_is_strange m k c seen waits sound reports = no_strange_reply m k c seen waits sound reports

pub every_call_is_taken : (m : Content) → IsAccepted m → EveryCallIsTaken m
every_call_is_taken m k c seen waits sound reports none = always_taken m k c seen waits sound reports none

pub only_calls_are_missing : (m : Content) → IsAccepted m → OnlyCallsAreMissing m
only_calls_are_missing m k c seen waits sound n =
    (missing_call m k c seen waits sound n, λ misses. step_misses m c seen n misses.0 misses.1)
