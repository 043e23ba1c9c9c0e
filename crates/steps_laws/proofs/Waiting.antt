-- What waits outside, and what the next reply comes to.
use Rattle.std.proofs.Common.{◌≡◌, ℕ, Bool, true, false, cond, Some, None, Err, Option, IfErr, refl, sym, ap, ◌∙◌, is_err, is_some}
use Rattle.std.proofs.lemmas.Bool.{and_from, false≢true, true≢false}
use Rattle.std.proofs.lemmas.Option.{none-some}
use Rattle.tables.specs.Layout.{Content}
use Rattle.rules.proofs.Rows.{known}
use Rattle.syntax.specs.Rows.{given, when}
use Rattle.syntax.proofs.Parts.{given_parts, when_parts}
use Rattle.outside.specs.declared.value.Reply.{Reply}
use Rattle.outside.specs.declared.value.Sort.{Sort}
use Rattle.outside.specs.declared.value.Sort.TheVariants as sort
use Rattle.outside.specs.Outsides.{Waits}
use Rattle.outside.specs.Values.{sort_of}
use Rattle.steps.specs.declared.records.CallRecord.{CallRecord}
use Rattle.steps.specs.declared.refusal.Refusal.{Refusal}
use Rattle.steps.specs.declared.refusal.Refusal.TheVariants as refusal
use Rattle.steps.specs.declared.state.CallState.{CallState}
use Rattle.steps.specs.declared.state.CallState.TheVariants as state
use Rattle.steps.specs.Configurations.{Configuration, call_at, value_at}
use Rattle.steps.specs.Crossing.{result_sort, same_sort, value_of_plain}
use Rattle.steps.specs.Outcomes.{Observation, Outcome, Request, transition}
use Rattle.steps.specs.Rules as rule
use Rattle.steps.specs.Sound.{Sound, waiting_sort}
use Rattle.steps.specs.States.{is_ended, is_outside, is_unfinished}
use Rattle.steps.specs.Steps.{expects, reply_step, reply_to}
use Rattle.steps_laws.specs.Halted.{Reports}

same_sort_same : (s : Sort) → same_sort s s ≡ true
same_sort_same sort.Unit = refl
same_sort_same sort.Bool = refl
same_sort_same sort.Int = refl

-- a call that neither ended nor is out
rest_unfinished : (s : CallState) → is_ended s ≡ false → is_outside s ≡ false → is_unfinished s ≡ true
rest_unfinished state.Sent e o = refl
rest_unfinished state.Queued e o = refl
rest_unfinished (state.Active k) e o = refl
rest_unfinished (state.Calling k) e o = refl
rest_unfinished state.Ended e o = absurd (true≢false e)
rest_unfinished state.Outside e o = absurd (true≢false o)

-- why a reply is not taken in
abbrev pub RefusesReply : Option Reply → Refusal → Type 0
RefusesReply next refusal.NothingWaits = next ≡ None
RefusesReply next refusal.StrangeReply = (r : Reply) × (next ≡ Some r)
RefusesReply next _ = ⊥

module _ (m : Content) (c : Configuration) where
  fitting_refuses : (r : Reply) (x : CallRecord) (fits : Bool) →
      IfErr (cond {A = Outcome} fits (transition (rule.reply c r.call x (value_of_plain r.value)) (Request.deliver r.call)) (Err refusal.StrangeReply)) (RefusesReply (Some r))
  fitting_refuses r x true = tt
  fitting_refuses r x false = (r, refl)

  call_refuses : (r : Reply) (o : Option CallRecord) → IfErr (reply_to m c r o) (RefusesReply (Some r))
  call_refuses r None = (r, refl)
  call_refuses r (Some x) = fitting_refuses r x (expects m x r.value)

  pub reply_refuses : (next : Option Reply) → IfErr (reply_step m c next) (RefusesReply next)
  reply_refuses None = refl
  reply_refuses (Some r) = call_refuses r (call_at c r.call)

module _ (m : Content) (c : Configuration) (waits : Waits) (sound : Sound m c waits) where
  -- a call that waits is out in this run, with the sort of its result
  waits_out : (n : ℕ) (s : Sort) → waits n ≡ Some s →
      (x : CallRecord) × (call_at c n ≡ Some x) × (is_outside x.state ≡ true) × (result_sort m x ≡ s)
  waits_out n s e =
      let p = given_parts (call_at c n) (waiting_sort m) s (sym (sound.outside n) ∙ e) in
      let q = when_parts (is_outside p.0.state) (Some (result_sort m p.0)) s p.2 in
      (p.0, p.1, q.0, known q.1)

  -- The next reply is taken in.
  pub reply_taken : (seen : Observation) → Reports seen waits → (r : Reply) → seen.next ≡ Some r → is_err (reply_step m c seen.next) ≡ false
  reply_taken seen reports r next =
      let p = waits_out r.call (sort_of r.value) (reports.some r next) in
      let sorts : same_sort (result_sort m p.0) (sort_of r.value) ≡ true =
      ap (λ (s : Sort). same_sort s (sort_of r.value)) p.3 ∙ same_sort_same (sort_of r.value) in
      let fits : expects m p.0 r.value ≡ true = and_from (is_outside p.0.state) (same_sort (result_sort m p.0) (sort_of r.value)) p.2 sorts in
      rw (next, p.1, fits) refl

  pub nothing_waits : (seen : Observation) → Reports seen waits → is_err (reply_step m c seen.next) ≡ true → (n : ℕ) → waits n ≡ None
  nothing_waits seen reports refused = go seen.next refl
    where
      go : (o : Option Reply) → seen.next ≡ o → (n : ℕ) → waits n ≡ None
      go None e = reports.none e
      go (Some r) e = absurd (false≢true (sym (reply_taken seen reports r e) ∙ refused))

  -- a call without a value is not finished, where nothing waits outside
  unresolved_unfinished : ((n : ℕ) → waits n ≡ None) → (k : ℕ) (y : CallRecord) → call_at c k ≡ Some y → y.result ≡ None → is_unfinished y.state ≡ true
  unresolved_unfinished none_waits k y there none =
      let ended : is_ended y.state ≡ false = sym (sound.order.resolved k y there) ∙ ap is_some none in
      rest_unfinished y.state ended (inside (is_outside y.state) refl)
    where
      inside : (b : Bool) → is_outside y.state ≡ b → is_outside y.state ≡ false
      inside false e = e
      inside true e =
          let out : waits k ≡ Some (result_sort m y) =
          sound.outside k ∙ ap (λ (o : Option CallRecord). given o (waiting_sort m)) there ∙ ap (λ (b : Bool). when b (Some (result_sort m y))) e in
          absurd (none-some (result_sort m y) (sym (none_waits k) ∙ out))

  pub valueless_unfinished : ((n : ℕ) → waits n ≡ None) → (k : ℕ) (y : CallRecord) → call_at c k ≡ Some y → value_at c k ≡ None →
      is_unfinished y.state ≡ true
  valueless_unfinished none_waits k y there none =
      unresolved_unfinished none_waits k y there (sym (ap (λ (o : Option CallRecord). given o (λ z. z.result)) there) ∙ none)
