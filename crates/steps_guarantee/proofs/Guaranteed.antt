-- Every history that is linked is as guaranteed.
use Rattle.std.proofs.Common.{◌≡◌, ℕ, zero, suc, Bool, true, false, cond, not, length, Some, None, Ok, Err, Option, IfOk, refl, sym, ap, subst, ◌∙◌, inl, inr, arith, is_some}
use Rattle.std.specs.Prelude.{◌&&◌, ◌==◌}
use Rattle.std.specs.List.{slice_get}
use Rattle.std.proofs.Math.Bool.{not-and_self}
use Rattle.std.proofs.lemmas.Bool.{eqb-true, false≢true}
use Rattle.std.proofs.lemmas.Option.{none-some}
use Rattle.tables.specs.declared.rows.ClassRow.{ClassRow}
use Rattle.tables.specs.Layout.{Content}
use Rattle.rules.proofs.Rows.{known}
use Rattle.rules.specs.Words.{passes}
use Rattle.syntax.specs.Rows.{given}
use Rattle.syntax.proofs.Parts.{given_parts}
use Rattle.outside.specs.declared.outside.Outside.{Ghosts}
use Rattle.outside.specs.Outsides.{Waits}
use Rattle.steps.specs.declared.records.CallRecord.{CallRecord}
use Rattle.steps.specs.declared.records.ObjectRecord.{ObjectRecord}
use Rattle.steps.specs.declared.state.CallState.{CallState}
use Rattle.steps.specs.declared.state.CallState.TheVariants as state
use Rattle.steps.specs.Configurations.{Configuration, call_at, object_at, value_at}
use Rattle.shape.specs.Shape.{is_outside_class}
use Rattle.steps.specs.Histories.{Answer, Chosen, Event, Follows, History, IsPartOf, Linked, Moment, Moves, mover, now}
use Rattle.steps.specs.Observing.{observation}
use Rattle.steps.specs.Opening.{first_configuration}
use Rattle.steps.specs.Outcomes.{Observation, Outcome, Transition}
use Rattle.steps.specs.Sound.{Sound}
use Rattle.steps.specs.States.{is_active, is_unfinished}
use Rattle.steps.specs.Steps.{step}
use Rattle.loading.specs.Accepted.{IsAccepted}
use Rattle.steps_ordered.specs.Ending.{EndsBy, Finish, at_return, finish_of, replies_counted, stands_at_return}
use Rattle.steps_ordered.specs.Lasting.{KeepsIdentities, KeepsValues}
use Rattle.steps_ordered.proofs.Ends.{replies_counted_by, returns_by, returns_counted_by}
use Rattle.steps_ordered.proofs.OrderedSteps.{calls_end}
use Rattle.steps_laws.specs.Laws.{Balanced, account_over}
use Rattle.steps_laws.specs.Runs.{LeadsTo}
use Rattle.steps_laws.proofs.Balancing.{balances}
use Rattle.steps_laws.proofs.Opened.{first, opened_is, opens_sound}
use Rattle.steps_laws.proofs.Progressing.{progresses}
use Rattle.steps_laws.proofs.Soundness.{choices_keep_identities, choices_keep_sound, choices_keep_values, have_objects}
use Rattle.steps_laws.proofs.WholeRuns.{OutsideLaws, keeps_later, keeps_same, leads_sound, reports}
use Rattle.steps_guarantee.specs.Guarantee.{AlwaysGuaranteed, OneIsActive, TypesHold}
use Rattle.steps_guarantee.specs.Numbers.{accepted_choice, is_call, is_new, new_calls, numbers_of}
use Rattle.steps_guarantee.proofs.Tallying.{Counts, Marked, Tallied, accounts, count_none, tallied_on, waits_as}

active_is_unfinished : (s : CallState) → is_active s ≡ true → is_unfinished s ≡ true
active_is_unfinished state.Sent e = absurd (false≢true e)
active_is_unfinished state.Queued e = absurd (false≢true e)
active_is_unfinished (state.Active k) e = refl
active_is_unfinished (state.Calling k) e = refl
active_is_unfinished state.Ended e = absurd (false≢true e)
active_is_unfinished state.Outside e = absurd (false≢true e)

-- types and groups, of a sound configuration
module _ (m : Content) (c : Configuration) (w : Waits) (sound : Sound m c w) where
  types_hold : TypesHold m c
  types_hold = record { values = sound.typed.values; objects = sound.typed.objects; calls = sound.typed.calls }

  in_group : (n : ℕ) (x : CallRecord) → call_at c n ≡ Some x → is_active x.state ≡ true → is_some (given (object_at c x.object) (λ y. y.group)) ≡ true
  in_group n x e active =
      let fits = sound.typed.calls n x e in
      let p = given_parts (object_at c x.object) (λ y. slice_get m.classes y.class) fits.class fits.of_class in
      let o = sound.typed.objects x.object p.0 p.1 in
      let class : o.class ≡ fits.class = known (sym o.there ∙ p.2) in
      ap (λ (z : Option ObjectRecord). is_some (given z (λ y. y.group))) p.1 ∙ o.grouped
      ∙ ap (λ (k : ClassRow). not (is_outside_class k)) class ∙ ap not (fits.inside (active_is_unfinished x.state active))

  one_is_active : OneIsActive c
  one_is_active = record { in_group = in_group; one = sound.order.one_active }

-- nothing ends where nothing changes
nothing_ends : (c : Configuration) → EndsBy Finish.nothing c c
nothing_ends c = record {
  calls = λ k x there. (x, there, refl, refl);
  new_calls = λ k y none there. absurd (none-some y (sym none ∙ there));
  returned = omega arith;
  answered = omega arith;
}

-- the call that opening makes is unfinished
abbrev IsUnfinished : Option CallRecord → Type 0
IsUnfinished None = Unit {0}
IsUnfinished (Some x) = is_unfinished x.state ≡ true

module _ (m : Content) (k : IsAccepted m) where
  first_unfinished : (n : ℕ) → IsUnfinished (call_at (first m k.lawful k.shaped) n)
  first_unfinished zero = tt
  first_unfinished (suc zero) = refl
  first_unfinished (suc (suc n)) = tt

  opened_unfinished : (n : ℕ) → IsUnfinished (call_at (first_configuration m) n)
  opened_unfinished =
      let P : Configuration → Type 0 = λ c. (n : ℕ) → IsUnfinished (call_at c n) in subst P (opened_is m k.lawful k.shaped) first_unfinished

  opened_calls : 1 ≡ length (first_configuration m).calls
  opened_calls = ap (λ (c : Configuration). length c.calls) (opened_is m k.lawful k.shaped)

-- a choice keeps a run sound, over its outside
module _ {O : Type 0} (g : Ghosts O) (m : Content) (k : IsAccepted m) where
  moves_lead : (n : ℕ) (out : Outcome) (s t : Moment O) (a : Answer) → Moves g n out s a t → LeadsTo g s.configuration s.outside out t.configuration t.outside
  moves_lead n (Ok d) s t a moves = (moves.1, moves.2)
  moves_lead n (Err e) s t a moves = (moves.1, moves.2)

  pub chosen_sound : (s t : Moment O) (n : ℕ) (a : Answer) → Sound m s.configuration (g.waits s.outside) → Chosen g m s n a t → Sound m t.configuration (g.waits t.outside)
  chosen_sound s t n a sound chosen =
      let seen : Observation = observation g s.outside in
      leads_sound g m k s.configuration t.configuration s.outside t.outside (step m s.configuration seen n) sound
      (choices_keep_sound m k s.configuration seen (g.waits s.outside) sound n) (moves_lead n (step m s.configuration seen n) s t a chosen)

module _ {O : Type 0} (g : Ghosts O) (laws : OutsideLaws g) (m : Content) (k : IsAccepted m) where
  -- What holds of a history up to its last moment.
  pub record Fits (h : History O) : Type 0 where
    pub sound : Sound m (now h).configuration (g.waits (now h).outside)
    pub tallied : Tallied g m h
    pub futures : (p : History O) → IsPartOf p h → KeepsValues (now p).configuration (now h).configuration
    pub identities : (p : History O) → IsPartOf p h → KeepsIdentities (now p).configuration (now h).configuration

  -- What is to be shown of an event, of whatever kind.
  pub record LeadsOn (h : History O) (e : Event) (t : Moment O) : Type 0 where
    pub sound : Sound m t.configuration (g.waits t.outside)
    pub counts : Counts g m h e t
    pub futures : KeepsValues (now h).configuration t.configuration
    pub identities : KeepsIdentities (now h).configuration t.configuration

  fits_on : (h : History O) (e : Event) (t : Moment O) → Fits h → LeadsOn h e t → Fits (History.after h e t)
  fits_on h e t fits leads = record {
    sound = leads.sound;
    tallied = tallied_on g m h e t fits.tallied fits.sound leads.sound leads.counts;
    futures = λ p part f v at. (elim part [
      | inl same ↦ ap (λ (q : History O). value_at (now q).configuration f) (sym same) ∙ at
      | inr earlier ↦ leads.futures f v (fits.futures p earlier f v at)
    ]);
    identities = λ p part. (elim part [
      | inl same ↦ subst (λ (q : History O). KeepsIdentities (now q).configuration t.configuration) (sym same) (keeps_same g m k t.configuration)
      | inr earlier ↦ keeps_later g m k (now p).configuration (now h).configuration t.configuration (fits.identities p earlier) leads.identities
    ]);
  }

  -- An event that changes nothing in the run and in what waits outside, and counts nothing.
  still_leads : (h : History O) (e : Event) (t : Moment O) → Fits h → t.configuration ≡ (now h).configuration →
      ((n : ℕ) → g.waits t.outside n ≡ g.waits (now h).outside n) → accepted_choice e ≡ None → LeadsOn h e t
  still_leads h e t fits same waits none = record {
    sound = (
        let P : Configuration → Type 0 = λ c. Sound m c (g.waits t.outside) in
        subst P (sym same) (record { typed = fits.sound.typed; order = fits.sound.order; outside = λ n. waits n ∙ fits.sound.outside n })
        );
    counts = record {
      finish = Finish.nothing;
      ends = (let P : Configuration → Type 0 = λ c. EndsBy Finish.nothing (now h).configuration c in subst P (sym same) (nothing_ends (now h).configuration));
      returned = sym (counted_none (λ n. at_return m (now h).configuration n));
      answered = sym (counted_none (λ n. n == 0));
      returns = λ n. sym (none_passes (λ i. i == n && at_return m (now h).configuration i));
      of_calls = λ n there. none_passes (λ i. i == n && at_return m (now h).configuration i);
      new_ones = ap (λ (o : Option ℕ). new_calls (now h).configuration o t.configuration) none ∙ sym (count_none (is_new (now h).configuration t.configuration)
          (λ n. ap (λ (c : Configuration). not (is_call (now h).configuration n) && is_call c n) same ∙ not-and_self (is_call (now h).configuration n)) 128);
    };
    futures = λ f v at. ap (λ (c : Configuration). value_at c f) same ∙ at;
    identities = subst (KeepsIdentities (now h).configuration) (sym same) (keeps_same g m k (now h).configuration);
  }
    where
      none_passes : (p : ℕ → Bool) → passes (accepted_choice e) p ≡ false
      none_passes p = ap (λ (o : Option ℕ). passes o p) none

      counted_none : (p : ℕ → Bool) → cond {A = ℕ} (passes (accepted_choice e) p) 1 0 ≡ 0
      counted_none p = ap (λ (b : Bool). cond {A = ℕ} b 1 0) (none_passes p)

  -- a choice
  module _ (h : History O) (fits : Fits h) (n : ℕ) (t : Moment O) where
    abbrev c : Configuration
    c = (now h).configuration

    abbrev o : O
    o = (now h).outside

    abbrev seen : Observation
    seen = observation g o

    -- a number of no call returns nothing
    none_returns : (i : ℕ) → call_at c i ≡ None → (n == i && at_return m c n) ≡ false
    none_returns i none = go (n == i) refl
      where
        go : (b : Bool) → (n == i) ≡ b → (b && at_return m c n) ≡ false
        go false e = refl
        go true e = ap (λ (j : ℕ). at_return m c j) (eqb-true n i e) ∙ ap (λ (p : Option CallRecord). passes p (stands_at_return m)) none

    accepted_leads : (a : ℕ) (d : Transition) → EndsBy (finish_of m c seen n) c d.configuration → replies_counted (finish_of m c seen n) ≡ cond (n == 0) 1 0 →
        Sound m t.configuration (g.waits t.outside) → KeepsValues c d.configuration → KeepsIdentities c d.configuration → t.configuration ≡ d.configuration →
        LeadsOn h (Event.choice n (Ok a)) t
    accepted_leads a d ends replies sound futures identities same =
        let Q : Configuration → Type 0 = λ e. EndsBy (finish_of m c seen n) c e in
        record {
          sound = sound;
          counts = record {
            finish = finish_of m c seen n;
            ends = subst Q (sym same) ends;
            returned = returns_counted_by m c seen n;
            answered = replies;
            returns = returns_by m c seen n;
            of_calls = none_returns;
            new_ones = refl;
          };
          futures = λ f v at. ap (λ (e : Configuration). value_at e f) same ∙ futures f v at;
          identities = subst (KeepsIdentities c) (sym same) identities;
        }

    by_outcome : (a : Answer) (out : Outcome) → IfOk out (λ d. EndsBy (finish_of m c seen n) c d.configuration) →
        IfOk out (λ d. replies_counted (finish_of m c seen n) ≡ cond (n == 0) 1 0) →
        Sound m t.configuration (g.waits t.outside) → IfOk out (λ d. KeepsValues c d.configuration) → IfOk out (λ d. KeepsIdentities c d.configuration) → Moves g n out (now h) a t → LeadsOn h (Event.choice n a) t
    by_outcome a (Ok d) ends replies sound futures identities moves =
        let P : Answer → Type 0 = λ b. LeadsOn h (Event.choice n b) t in
        subst P (sym moves.0) (accepted_leads (mover n d.request) d ends replies sound futures identities moves.1)
    by_outcome a (Err e) ends replies sound futures identities moves =
        let P : Answer → Type 0 = λ b. LeadsOn h (Event.choice n b) t in
        subst P (sym moves.0) (still_leads h (Event.choice n (Err e)) t fits moves.1 (λ i. ap (λ (p : O). g.waits p i) moves.2) refl)

    choice_leads : (a : Answer) → Chosen g m (now h) n a t → LeadsOn h (Event.choice n a) t
    choice_leads a chosen =
        by_outcome a (step m c seen n) (calls_end m c seen fits.sound.order (have_objects m c (g.waits o) fits.sound) n)
        (replies_counted_by m c seen n) (chosen_sound g m k (now h) t n a fits.sound chosen)
        (choices_keep_values m c seen (g.waits o) fits.sound n) (choices_keep_identities m c seen (g.waits o) fits.sound n) chosen

  -- each kind of event
  event_leads : (h : History O) → Fits h → (e : Event) (t : Moment O) → Follows g m h e t → LeadsOn h e t
  event_leads h fits (Event.choice n a) t follows = choice_leads h fits n t a follows

  start_fits : (s : Moment O) → Linked g m (History.start s) → Fits (History.start s)
  start_fits s linked = record {
    sound = (let P : Configuration → Type 0 = λ c. Sound m c (g.waits s.outside) in subst P (sym linked.0) (opens_sound m k (g.waits s.outside) linked.1));
    tallied = record {
      calls = opened_calls m k ∙ ap (λ (c : Configuration). length c.calls) (sym linked.0);
      returned = ap (λ (c : Configuration). c.returned) (sym linked.0);
      answered = ap (λ (c : Configuration). c.answered) (sym linked.0);
      marked = λ n. mark n (call_at s.configuration n) (subst (λ (c : Configuration). IsUnfinished (call_at c n)) (sym linked.0) (opened_unfinished m k n));
    };
    futures = λ p part f v at. ap (λ (q : History O). value_at (now q).configuration f) (sym part) ∙ at;
    identities = λ p part. subst (λ (q : History O). KeepsIdentities (now q).configuration s.configuration) (sym part) (keeps_same g m k s.configuration);
  }
    where
      none : (n : ℕ) → is_some (g.waits s.outside n) ≡ false
      none n = ap is_some (linked.1 n)

      mark : (n : ℕ) (x : Option CallRecord) → IsUnfinished x → Marked g m (History.start s) n x
      mark n None e = (none n, refl)
      mark n (Some x) e = rw (none n) e

  pub fits : (h : History O) → Linked g m h → Fits h
  fits (History.start s) linked = start_fits s linked
  fits (History.after h e t) linked = let before = fits h linked.0 in fits_on h e t before (event_leads h before e t linked.1)

  -- a part of a linked history is linked
  part_linked : (h p : History O) → IsPartOf p h → Linked g m h → Linked g m p
  part_linked (History.start s) p part linked = subst (Linked g m) (sym part) linked
  part_linked (History.after h e t) p part linked = elim part [
    | inl same ↦ subst (Linked g m) (sym same) linked
    | inr earlier ↦ part_linked h p earlier linked.0
  ]

  pub always_guaranteed : AlwaysGuaranteed g m
  always_guaranteed run linked = record {
    types = λ h part. types_hold m (now h).configuration (g.waits (now h).outside) (at h part).sound;
    one_active = λ h part. one_is_active m (now h).configuration (g.waits (now h).outside) (at h part).sound;
    futures = λ h p part earlier. (at h part).futures p earlier;
    identities = λ h p part earlier. (at h part).identities p earlier;
    balance = λ h part. subst Balanced (closes h part) (balances m (now h).configuration (g.waits (now h).outside) (at h part).sound);
    closing = closes;
    waiting = λ h part. waits_as m (now h).configuration (g.waits (now h).outside) (at h part).sound;
    rest = λ h part. progresses m k (now h).configuration (observation g (now h).outside) (g.waits (now h).outside) (at h part).sound
        (reports g laws (now h).outside);
  }
    where
      at : (h : History O) → IsPartOf h run → Fits h
      at h part = fits h (part_linked run h part linked)

      closes : (h : History O) → IsPartOf h run → account_over (now h).configuration (g.waits (now h).outside) ≡ numbers_of g m h
      closes h part = accounts g m h (at h part).tallied (at h part).sound
