-- A history over a house is determined: what is listed of it is what is listed of its choices.
use Rattle.std.proofs.Common.{◌≡◌, ℕ, false, List, [], ◌∷◌, ◌++◌, is_some, Some, None, Ok, Err, Option, refl, sym, ap, subst, ◌∙◌, inl, inr, append_assoc}
use Rattle.std.proofs.lemmas.Bool.{cases_Bool}
use Rattle.std.specs.Option.{option_map}
use Rattle.tables.specs.Layout.{Content}
use Rattle.outside.specs.declared.house.Asked.{Asked}
use Rattle.outside.specs.declared.outside.Outside.{Ghosts}
use Rattle.outside.specs.declared.value.Sort.{Sort}
use Rattle.outside.specs.declared.waiting.WaitingCall.{WaitingCall}
use Rattle.outside.specs.Calls.{find_call, waits_in}
use Rattle.outside.specs.Houses.{HouseState, empty_house, house_next, house_room, house_with, house_without, levels_found}
use Rattle.outside.specs.Outsides.{OutgoingCall}
use Rattle.outside.proofs.Calls.{others_none}
use Rattle.steps.specs.Account.{Account, account}
use Rattle.steps.specs.Histories.{Answer, Chosen, Event, History, Linked, Moment, Moves, answers_in, choices_in, first, mover, now}
use Rattle.steps.specs.Houses.{HouseRun, house_account, house_after, house_observation, first_house_run, house_step, run_after}
use Rattle.steps.specs.Observing.{Fulfils, observation}
use Rattle.steps.specs.Outcomes.{Observation, Outcome, Request}
use Rattle.steps.specs.Steps.{step}
use Rattle.steps_laws.specs.Laws.{account_over}
use Rattle.steps_guarantee.specs.WholeRuns.{WholeRun}
use Rattle.steps_guarantee.proofs.Playing.{whole}
use Rattle.entry.specs.Entries.{choices_text}
use Rattle.entry.specs.Listings.{account_text, choice_line, choice_lines, line}

-- what a house is as an outside
pub record IsHouse (g : Ghosts HouseState) : Type 0 where
  pub upcoming : (h : HouseState) → g.upcoming h ≡ house_next h
  pub roomy : (h : HouseState) → g.roomy h ≡ (λ class. house_room h)
  pub waits : (h : HouseState) → g.waits h ≡ waits_in h.waiting
  pub after_take : (h : HouseState) (c : OutgoingCall) (h′ : HouseState) → g.after_take h c h′ → h′ ≡ house_with c h
  pub after_delivery : (h : HouseState) (n : ℕ) (h′ : HouseState) → g.after_delivery h n h′ → h′ ≡ house_without n h

-- what a host is told of an outcome
abbrev told : (choice : ℕ) → Outcome → Answer
told n (Ok d) = Ok (mover n d.request)
told n (Err e) = Err e

-- a run after choices, and their answers
module _ (m : Content) where
  abbrev run_from : List ℕ → HouseRun → HouseRun
  run_from [] r = r
  run_from (n ∷ ns) r = run_from ns (run_after r (house_step m r n))

  abbrev answers_from : List ℕ → HouseRun → List Answer
  answers_from [] r = []
  answers_from (n ∷ ns) r = told n (house_step m r n) ∷ answers_from ns (run_after r (house_step m r n))

  run_last : (ns : List ℕ) (n : ℕ) (r : HouseRun) → run_from (ns ++ n ∷ []) r ≡ run_after (run_from ns r) (house_step m (run_from ns r) n)
  run_last [] n r = refl
  run_last (x ∷ ns) n r = run_last ns n (run_after r (house_step m r x))

  answers_last : (ns : List ℕ) (n : ℕ) (r : HouseRun) → answers_from (ns ++ n ∷ []) r ≡ answers_from ns r ++ told n (house_step m (run_from ns r) n) ∷ []
  answers_last [] n r = refl
  answers_last (x ∷ ns) n r = ap (λ bs. told x (house_step m r x) ∷ bs) (answers_last ns n (run_after r (house_step m r x)))

  told_line : (n : ℕ) (o : Outcome) → choice_line n (told n o) ≡ choice_line n o
  told_line n (Ok d) = refl
  told_line n (Err e) = refl

  -- the text of choices is that of their answers
  text_from : (ns : List ℕ) (r : HouseRun) → choice_lines ns (answers_from ns r) ++ line (account_text (house_account (run_from ns r))) ≡ choices_text m ns r
  text_from [] r = refl
  text_from (n ∷ ns) r =
      let s = run_after r (house_step m r n) in
      append_assoc (choice_line n (told n (house_step m r n))) (choice_lines ns (answers_from ns s)) (line (account_text (house_account (run_from ns s))))
      ∙ ap (λ bs. bs ++ (choice_lines ns (answers_from ns s) ++ line (account_text (house_account (run_from ns s))))) (told_line n (house_step m r n))
      ∙ ap (λ bs. choice_line n (house_step m r n) ++ bs) (text_from ns s)

-- a call that does not wait is no call that is found
not_found : {A B : Type 0} (f : A → B) (o : Option A) → is_some (option_map f o) ≡ false → o ≡ None
not_found f None e = refl
not_found f (Some x) e = cc

-- nothing is delivered where the call does not wait
same_house : (n : ℕ) (h : HouseState) → find_call n h.waiting ≡ None → h ≡ house_without n h
same_house n h none i = record { waiting = sym (others_none n h.waiting none) i; levels = ap (λ (o : Option (WaitingCall Asked)). levels_found o h.levels) (sym none) i }

abbrev moment_of : HouseRun → Moment HouseState
moment_of r = record { configuration = r.configuration; outside = r.house }

module _ (g : Ghosts HouseState) (house : IsHouse g) where
  observes : (h : HouseState) → observation g h ≡ house_observation h
  observes h i = record {
    next = house.upcoming h i;
    room = house.roomy h i;
    waiting = λ n. is_some (house.waits h i n);
  }

  -- what was asked of a house made it what the definition says
  fulfilled : (h : HouseState) (r : Request) (h′ : HouseState) → Fulfils g h r h′ → h′ ≡ house_after h r
  fulfilled h Request.nothing h′ e = e
  fulfilled h (Request.take c) h′ t = house.after_take h c h′ (t.becomes refl)
  fulfilled h (Request.deliver n) h′ d = elim (cases_Bool (is_some (g.waits h n))) [
    | inl waits ↦ house.after_delivery h n h′ (d.becomes waits)
    | inr not ↦ d.same not ∙ same_house n h (not_found (λ c. c.sort) (find_call n h.waiting) (sym (ap (λ (w : ℕ → Option Sort). is_some (w n)) (house.waits h)) ∙ not))
  ]

  moved : (n : ℕ) (o : Outcome) (r : HouseRun) (a : Answer) (t : Moment HouseState) → Moves g n o (moment_of r) a t → (t ≡ moment_of (run_after r o)) × (a ≡ told n o)
  moved n (Ok d) r a t h = (λ i. record { configuration = h.1 i; outside = fulfilled r.house d.request t.outside h.2 i }, h.0)
  moved n (Err e) r a t h = (λ i. record { configuration = h.1 i; outside = h.2 i }, h.0)

  module _ (m : Content) where
    -- a choice at a moment of such a run
    one_more : (s t : Moment HouseState) (r : HouseRun) (n : ℕ) (a : Answer) → s ≡ moment_of r → Chosen g m s n a t →
        (t ≡ moment_of (run_after r (house_step m r n))) × (a ≡ told n (house_step m r n))
    one_more s t r n a same chosen =
        let at_run : Chosen g m (moment_of r) n a t = subst (λ (x : Moment HouseState). Chosen g m x n a t) same chosen in
        moved n (house_step m r n) r a t (subst (λ (x : Observation). Moves g n (step m r.configuration x n) (moment_of r) a t) (observes r.house) at_run)

    determined : (h : History HouseState) → Linked g m h → (first h).outside ≡ empty_house →
        (now h ≡ moment_of (run_from m (choices_in h) (first_house_run m))) × (answers_in h ≡ answers_from m (choices_in h) (first_house_run m))
    determined (History.start s) linked e = (λ i. record { configuration = linked.0 i; outside = e i }, refl)
    determined (History.after h (Event.choice n a) t) linked e =
        let before = determined h linked.0 e in
        let r = run_from m (choices_in h) (first_house_run m) in
        let after = one_more (now h) t r n a before.0 linked.1 in (
          after.0 ∙ ap moment_of (sym (run_last m (choices_in h) n (first_house_run m))),
          ap (λ bs. bs ++ a ∷ []) before.1 ∙ ap (λ b. answers_from m (choices_in h) (first_house_run m) ++ b ∷ []) after.1
              ∙ sym (answers_last m (choices_in h) n (first_house_run m)),
        )

    -- the text of a whole run over a new house
    run_text_of : (ns : List ℕ) (answers : List Answer) (a : Account) (o o′ : HouseState) → o ≡ empty_house → WholeRun g m o ns answers a o′ →
        choice_lines ns answers ++ line (account_text a) ≡ choices_text m ns (first_house_run m)
    run_text_of ns answers a o o′ new p =
        let d = determined p.history p.linked (p.begins ∙ new) in
        let r = run_from m ns (first_house_run m) in
        let last : now p.history ≡ moment_of r = d.0 ∙ ap (λ xs. moment_of (run_from m xs (first_house_run m))) p.chooses in
        let all : answers ≡ answers_from m ns (first_house_run m) = sym p.tells ∙ d.1 ∙ ap (λ xs. answers_from m xs (first_house_run m)) p.chooses in
        let numbers : a ≡ house_account r =
        p.accounts ∙ sym (p.guaranteed.closing p.history (whole p.history))
        ∙ ap (λ (s : Moment HouseState). account_over s.configuration (g.waits s.outside)) last
        ∙ ap (λ (w : ℕ → Option Sort). account r.configuration (λ n. is_some (w n))) (house.waits r.house) in
        ap (λ bs. choice_lines ns bs ++ line (account_text a)) all
        ∙ ap (λ b. choice_lines ns (answers_from m ns (first_house_run m)) ++ line (account_text b)) numbers
        ∙ text_from m ns (first_house_run m)

pub text_of_run : {g : Ghosts HouseState} (m : Content) (ns : List ℕ) (answers : List Answer) (a : Account) {o o′ : HouseState} → o ≡ empty_house →
    WholeRun g m o ns answers a o′ → IsHouse g → choice_lines ns answers ++ line (account_text a) ≡ choices_text m ns (first_house_run m)
text_of_run {g} m ns answers a {o} {o′} new p house = run_text_of g house m ns answers a o o′ new p
