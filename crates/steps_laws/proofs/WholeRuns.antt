-- What holds of whole runs.
use Rattle.std.proofs.Common.{◌≡◌, ℕ, true, List, [], ◌∷◌, Some, None, Ok, Err, IfOk, refl, sym, ap, subst, ◌∙◌}
use Rattle.std.proofs.lemmas.Result.{IfOk-weaker}
use Rattle.tables.specs.Layout.{Content}
use Rattle.outside.specs.declared.outside.Outside.{Ghosts}
use Rattle.outside.specs.declared.value.Reply.{Reply}
use Rattle.outside.specs.Outsides.{Waits}
use Rattle.outside.specs.Values.{sort_of}
use Rattle.steps.specs.declared.records.CallRecord.{CallRecord}
use Rattle.steps.specs.Configurations.{Configuration}
use Rattle.steps.specs.Observing.{Fulfils, observation}
use Rattle.steps.specs.Opening.{first_configuration}
use Rattle.steps.specs.Outcomes.{Outcome, Request}
use Rattle.steps.specs.Sound.{Sound, WaitsBecome}
use Rattle.loading.specs.Accepted.{IsAccepted}
use Rattle.steps_ordered.specs.Lasting.{IsSameCall, KeepsIdentities, KeepsValues}
use Rattle.steps_ordered.proofs.Lasting.{objects_same, objects_then}
use Rattle.steps_laws.specs.Halted.{Reports}
use Rattle.steps_laws.specs.Runs.{AlwaysHolds, ObservedChoice, Event, Follows, LeadsTo, Reaches, outcome}
use Rattle.steps_laws.proofs.Balancing.{balances}
use Rattle.steps_laws.proofs.Opened.{opens_sound}
use Rattle.steps_laws.proofs.Progressing.{every_call_is_taken, no_reply_is_strange, only_calls_are_missing, progresses}
use Rattle.steps_laws.proofs.Sending.{none_stays_sent}
use Rattle.steps_laws.proofs.Soundness.{choices_keep_identities, choices_keep_sound, choices_keep_values}

module _ {O : Type 0} (g : Ghosts O) where
  -- what the trait promises of an outside
  pub record OutsideLaws : Type 0 where
    pub room_if_empty : (o : O) → ((n : ℕ) → g.waits o n ≡ None) → (class : ℕ) → g.roomy o class ≡ true
    pub empty_if_none : (o : O) → g.upcoming o ≡ None → (n : ℕ) → g.waits o n ≡ None
    pub upcoming_waits : (o : O) (r : Reply) → g.upcoming o ≡ Some r → g.waits o r.call ≡ Some (sort_of r.value)

  -- An outside that does what it is asked has then waiting what was to wait.
  waits_become : (o o′ : O) (r : Request) → Fulfils g o r o′ → WaitsBecome (g.waits o) r (g.waits o′)
  waits_become o o′ Request.nothing does = λ n. ap (λ (p : O). g.waits p n) does
  waits_become o o′ (Request.take c) does = does.joins refl
  waits_become o o′ (Request.deliver n) does = does.leaves

  -- what an outside says reports what waits there
  pub reports : OutsideLaws → (o : O) → Reports (observation g o) (g.waits o)
  reports laws o = record { none = laws.empty_if_none o; some = laws.upcoming_waits o; room = laws.room_if_empty o; waiting = λ n. refl }

  -- What held before an outcome, and holds of its configuration if it is accepted, holds after it.
  leads_to : (P : Configuration → Type 0) (c c′ : Configuration) (o o′ : O) (out : Outcome) → P c → IfOk out (λ d. P d.configuration) → LeadsTo g c o out c′ o′ → P c′
  leads_to P c c′ o o′ (Ok d) before after leads = subst P (sym leads.0) after
  leads_to P c c′ o o′ (Err e) before after leads = subst P (sym leads.0) before

  module _ (m : Content) (k : IsAccepted m) where
    pub leads_sound : (c c′ : Configuration) (o o′ : O) (out : Outcome) → Sound m c (g.waits o) →
        IfOk out (λ d. (w : Waits) → WaitsBecome (g.waits o) d.request w → Sound m d.configuration w) → LeadsTo g c o out c′ o′ → Sound m c′ (g.waits o′)
    leads_sound c c′ o o′ (Ok d) sound keeps leads =
        let P : Configuration → Type 0 = λ e. Sound m e (g.waits o′) in
        subst P (sym leads.0) (keeps (g.waits o′) (waits_become o o′ d.request leads.1))
    leads_sound c c′ o o′ (Err e) sound keeps leads =
        let P : Configuration → Type 0 = λ d. Sound m d (g.waits o′) in
        let Q : O → Type 0 = λ p. Sound m c (g.waits p) in
        subst P (sym leads.0) (subst Q (sym leads.1) sound)

    -- after each event
    pub follows_sound : (c c′ : Configuration) (o o′ : O) (e : Event) → Sound m c (g.waits o) → Follows g m c o e c′ o′ → Sound m c′ (g.waits o′)
    follows_sound c c′ o o′ e sound follows =
        leads_sound c c′ o o′ (outcome m c e.choice) sound (choices_keep_sound m k c e.choice.seen (g.waits o) sound e.choice.number) follows.2

    pub reaches_sound : (c d : Configuration) (o p : O) (es : List Event) → Sound m c (g.waits o) → Reaches g m c o es d p → Sound m d (g.waits p)
    reaches_sound c d o p [] sound reached =
        let P : Configuration → Type 0 = λ e. Sound m e (g.waits p) in
        let Q : O → Type 0 = λ q. Sound m c (g.waits q) in
        subst P (sym reached.0) (subst Q (sym reached.1) sound)
    reaches_sound c d o p (e ∷ es) sound reached =
        reaches_sound reached.0 d reached.1 p es (follows_sound c reached.0 o reached.1 e sound reached.2) reached.3

    -- What holds at first, and after each accepted choice if it held before it, holds of all that a run comes to.
    reaches_keeping : (P : Configuration → Type 0) → ((c : Configuration) (o : O) (w : ObservedChoice) → Sound m c (g.waits o) → P c →
        IfOk (outcome m c w) (λ d. P d.configuration)) → (c d : Configuration) (o p : O) (es : List Event) → Sound m c (g.waits o) → P c → Reaches g m c o es d p → P d
    reaches_keeping P step_keeps c d o p [] sound holds reached = subst P (sym reached.0) holds
    reaches_keeping P step_keeps c d o p (e ∷ es) sound holds reached =
        reaches_keeping P step_keeps reached.0 d reached.1 p es (follows_sound c reached.0 o reached.1 e sound reached.2)
        (leads_to P c reached.0 o reached.1 (outcome m c e.choice) holds (step_keeps c o e.choice sound holds) reached.2.2) reached.3

    reaches_values : (b d : Configuration) (o p : O) (es : List Event) → Sound m b (g.waits o) → Reaches g m b o es d p → KeepsValues b d
    reaches_values b d o p es sound reached =
        reaches_keeping (KeepsValues b)
        (λ c q w s first. IfOk-weaker (outcome m c w) (λ d. KeepsValues c d.configuration) (λ d. KeepsValues b d.configuration) (λ d later f v e. later f v (first f v e))
        (choices_keep_values m c w.seen (g.waits q) s w.number)) b d o p es sound (λ f v e. e) reached

    same_later : (x y z : CallRecord) → IsSameCall x y → IsSameCall y z → IsSameCall x z
    same_later x y z s t = record { object = t.object ∙ s.object; method = t.method ∙ s.method; caller = t.caller ∙ s.caller }

    pub keeps_later : (b c d : Configuration) → KeepsIdentities b c → KeepsIdentities c d → KeepsIdentities b d
    keeps_later b c d first later = record {
      calls = λ n x there. (
          let p = first.calls n x there in
          let q = later.calls n p.0 p.1 in
          (q.0, q.1, same_later x p.0 q.0 p.2 q.2)
          );
      objects = objects_then b c d first.objects later.objects;
    }

    pub keeps_same : (c : Configuration) → KeepsIdentities c c
    keeps_same c = record {
      calls = λ n x there. (x, there, record { object = refl; method = refl; caller = refl });
      objects = objects_same c;
    }

    reaches_identities : (b d : Configuration) (o p : O) (es : List Event) → Sound m b (g.waits o) → Reaches g m b o es d p → KeepsIdentities b d
    reaches_identities b d o p es sound reached =
        reaches_keeping (KeepsIdentities b)
        (λ c q w s first. IfOk-weaker (outcome m c w) (λ d. KeepsIdentities c d.configuration) (λ d. KeepsIdentities b d.configuration)
        (λ d later. keeps_later b c d.configuration first later) (choices_keep_identities m c w.seen (g.waits q) s w.number)) b d o p es sound (keeps_same b) reached

    pub always_holds : OutsideLaws → AlwaysHolds g m
    always_holds laws o none es c p reached =
        let sound = reaches_sound (first_configuration m) c o p es (opens_sound m k (g.waits o) none) reached in
        let seen = observation g p in
        record {
          sound = sound;
          balanced = balances m c (g.waits p) sound;
          halted = progresses m k c seen (g.waits p) sound (reports laws p);
          none_sent = none_stays_sent m c seen;
          never_strange = no_reply_is_strange m k c seen (g.waits p) sound (reports laws p);
          always_taken = every_call_is_taken m k c seen (g.waits p) sound (reports laws p);
          misses_only_calls = only_calls_are_missing m k c seen (g.waits p) sound;
          values_last = λ fs d q r. reaches_values c d p q fs sound r;
          identities_last = λ fs d q r. reaches_identities c d p q fs sound r;
        }
