-- What wrong tools break, and what the guarantee by itself lets pass.
use Rattle.std.proofs.Common.{◌≡◌, ℕ, zero, suc, ◌+◌, Bool, true, false, cond, not, List, [], ◌∷◌, ◌++◌, length, Ok, Err, refl, sym, ap, subst, ◌∙◌, inl, inr, arith, is_some}
use Rattle.std.specs.Prelude.{◌&&◌, ◌||◌, ◌==◌}
use Rattle.std.proofs.Math.Bool.{and-false, not-and_self, or-false}
use Rattle.std.proofs.lemmas.Bool.{false≢true, ne_eqb}
use Rattle.std.proofs.lemmas.List.{length-append}
use Rattle.tables.specs.Layout.{Content}
use Rattle.rules.proofs.Rows.{known}
use Rattle.rules.specs.Words.{passes}
use Rattle.outside.specs.declared.outside.Outside.{Ghosts}
use Rattle.steps.specs.declared.refusal.Refusal.{Refusal}
use Rattle.steps.specs.Account.{Account}
use Rattle.steps.specs.Configurations.{Configuration, call_at, value_at}
use Rattle.steps.specs.Histories.{Answer, Event, History, IsPartOf, Moment, Moves, answers_in, choices_in, now}
use Rattle.steps.specs.Observing.{observation}
use Rattle.steps.specs.Outcomes.{Outcome, Transition}
use Rattle.steps.specs.States.{is_outside}
use Rattle.steps.specs.Steps.{step}
use Rattle.steps_ordered.specs.Ending.{at_return}
use Rattle.steps_ordered.specs.Lasting.{KeepsIdentities, KeepsValues}
use Rattle.steps_laws.specs.Halted.{EveryChoiceRefused, Halted}
use Rattle.steps_laws.specs.Laws.{Balanced, account_over}
use Rattle.steps_guarantee.specs.Guarantee.{Guarantee, OneIsActive, TypesHold}
use Rattle.steps_guarantee.specs.Numbers.{accepted_choice, answered_in, calls_in, has_returned, is_call, is_new, is_process, is_reply, is_return_choice, new_calls, numbers_of, returned_in, returns_call, waiting_in, was_outside}
use Rattle.steps_guarantee.specs.WrongTools.{AllowsEarlyRefusals, AllowsIdleChoices, NoCountedRefusal, NoEarlyRefusal, NoIdleChoice, NoIdleReply, NoIdleReturn, NoInventedReply, NoLostCall, NoOtherValue, accepted_zeros}
use Rattle.steps_guarantee.proofs.Playing.{whole}
use Rattle.steps_guarantee.proofs.Tallying.{count_none, count_same}

-- the replies, by the answers
one_zero : ℕ → Answer → ℕ
one_zero n a = accepted_zeros (n ∷ []) (a ∷ [])

and_one : (i j k : ℕ) → i ≡ j + k → suc i ≡ suc j + k
and_one i j k e = omega arith

one_more : (ns : List ℕ) (answers : List Answer) (n : ℕ) (a : Answer) → length ns ≡ length answers →
    accepted_zeros (ns ++ n ∷ []) (answers ++ a ∷ []) ≡ accepted_zeros ns answers + one_zero n a
unfolding one_zero
one_more [] [] zero (Ok call) same = refl
one_more [] [] zero (Err e) same = refl
one_more [] [] (suc n) (Ok call) same = refl
one_more [] [] (suc n) (Err e) same = refl
one_more [] (b ∷ answers) n a same = absurd (omega (arith, same))
one_more (k ∷ ns) [] n a same = absurd (omega (arith, same))
one_more (zero ∷ ns) (Ok call ∷ answers) n a same = and_one _ _ _ (one_more ns answers n a (omega (arith, same)))
one_more (zero ∷ ns) (Err e ∷ answers) n a same = one_more ns answers n a (omega (arith, same))
one_more (suc k ∷ ns) (Ok call ∷ answers) n a same = one_more ns answers n a (omega (arith, same))
one_more (suc k ∷ ns) (Err e ∷ answers) n a same = one_more ns answers n a (omega (arith, same))

counted_one : (n : ℕ) (a : Answer) → cond {A = ℕ} (is_reply (Event.choice n a)) 1 0 ≡ one_zero n a
unfolding one_zero
counted_one zero (Ok call) = refl
counted_one zero (Err e) = refl
counted_one (suc n) (Ok call) = ap (λ (b : Bool). cond {A = ℕ} b 1 0) (ne_eqb (suc n) 0 (λ e. omega arith))
counted_one (suc n) (Err e) = refl

module _ {O : Type 0} (g : Ghosts O) (m : Content) where
  as_many : (h : History O) → length (choices_in h) ≡ length (answers_in h)
  as_many (History.start s) = refl
  as_many (History.after h (Event.choice n a) t) =
      length-append (choices_in h) (n ∷ []) ∙ ap (λ (k : ℕ). k + 1) (as_many h) ∙ sym (length-append (answers_in h) (a ∷ []))

  replies_by_answers : (h : History O) → answered_in g m h ≡ accepted_zeros (choices_in h) (answers_in h)
  replies_by_answers (History.start s) = refl
  replies_by_answers (History.after h (Event.choice n a) t) =
      let ih = replies_by_answers h in
      let one = counted_one n a in
      let more = one_more (choices_in h) (answers_in h) n a (as_many h) in
      omega arith

  pub no_invented_reply : NoInventedReply g m
  no_invented_reply o o′ choices answers account run =
      ap (λ (a : Account). a.answered) run.accounts ∙ replies_by_answers run.history
      ∙ ap (λ (ns : List ℕ). accepted_zeros ns (answers_in run.history)) run.chooses ∙ ap (accepted_zeros choices) run.tells

  added_none : (k x : ℕ) → x ≡ 0 → k + x ≡ k
  added_none k x e = omega arith

  pub no_counted_refusal : NoCountedRefusal g m
  no_counted_refusal h n e t holds =
      let later : History O = History.after h (Event.choice n (Err e)) t in
      let before = holds.closing h (inr (whole h)) in
      let after = holds.closing later (whole later) in (
        ap (λ (z : Account). z.calls) after ∙ added_none (calls_in g m h) 0 refl ∙ sym (ap (λ (z : Account). z.calls) before),
        ap (λ (z : Account). z.returned) after ∙ added_none (returned_in g m h) 0 refl ∙ sym (ap (λ (z : Account). z.returned) before),
        ap (λ (z : Account). z.answered) after ∙ added_none (answered_in g m h) 0 refl ∙ sym (ap (λ (z : Account). z.answered) before),
      )

  -- a choice that changes nothing
  module _ (h : History O) (n : ℕ) (a : Answer) (t : Moment O) where
    abbrev later : History O
    later = History.after h (Event.choice n a) t

    module _ (holds : Guarantee g m later) (same : t.configuration ≡ (now h).configuration) where
      before : account_over (now h).configuration (g.waits (now h).outside) ≡ numbers_of g m h
      before = holds.closing h (inr (whole h))

      after : account_over t.configuration (g.waits t.outside) ≡ numbers_of g m later
      after = holds.closing later (whole later)

      same_answered : answered_in g m later ≡ answered_in g m h
      same_answered = sym (ap (λ (z : Account). z.answered) after) ∙ ap (λ (c : Configuration). c.answered) same ∙ ap (λ (z : Account). z.answered) before

      same_returned : returned_in g m later ≡ returned_in g m h
      same_returned = sym (ap (λ (z : Account). z.returned) after) ∙ ap (λ (c : Configuration). c.returned) same ∙ ap (λ (z : Account). z.returned) before

  pub no_idle_reply : NoIdleReply g m
  no_idle_reply h call t holds same = let e : answered_in g m h + 1 ≡ answered_in g m h = same_answered h 0 (Ok call) t holds same in omega arith

  pub no_idle_return : NoIdleReturn g m
  no_idle_return h n call t at holds same =
      let e : returned_in g m h + cond {A = ℕ} (at_return m (now h).configuration n) 1 0 ≡ returned_in g m h = same_returned h n (Ok call) t holds same in
      let one : cond {A = ℕ} (at_return m (now h).configuration n) 1 0 ≡ 1 = ap (λ (b : Bool). cond {A = ℕ} b 1 0) at in
      omega arith

  pub no_lost_call : NoLostCall g m
  no_lost_call h e t holds same k =
      holds.waiting (History.after h e t) (whole (History.after h e t)) k
      ∙ ap (λ (c : Configuration). passes (call_at c k) (λ x. is_outside x.state)) same ∙ sym (holds.waiting h (inr (whole h)) k)

  pub no_other_value : NoOtherValue g m
  no_other_value run h p holds part earlier f v w ev ew = known (sym (holds.futures h p part earlier f v ev) ∙ ew)

  -- what the guarantee by itself lets pass
  or_absorbed : (a b : Bool) → (b ≡ true → a ≡ true) → (a || b) ≡ a
  or_absorbed true b h = refl
  or_absorbed false true h = absurd (false≢true (h refl))
  or_absorbed false false h = refl

  or_right : (a b : Bool) → b ≡ true → (a || b) ≡ true
  or_right true b e = refl
  or_right false b e = e

  seen : (h : History O) (k : ℕ) → is_some (g.waits (now h).outside k) ≡ true → was_outside g m h k ≡ true
  seen (History.start s) k e = e
  seen (History.after h e t) k w = or_right (was_outside g m h k) (is_some (g.waits t.outside k)) w

  -- An event that counts nothing, and after which all is as it was.
  module _ (h : History O) (e : Event) (holds : Guarantee g m h) (no_return : is_return_choice m (now h).configuration e ≡ false) (no_reply : is_reply e ≡ false)
      (none : (k : ℕ) → returns_call m (now h).configuration e k ≡ false) (none_new : new_calls (now h).configuration (accepted_choice e) (now h).configuration ≡ 0) where
    abbrev idle : History O
    idle = History.after h e (now h)

    same_process : (k : ℕ) → (is_process g m idle k && not (has_returned g m idle k)) ≡ (is_process g m h k && not (has_returned g m h k))
    same_process k =
        let out = or_absorbed (was_outside g m h k) (is_some (g.waits (now h).outside k)) (seen h k) in
        let back : has_returned g m idle k ≡ has_returned g m h k = ap (λ (b : Bool). has_returned g m h k || b) (none k) ∙ or-false (has_returned g m h k) in
        ap (λ (b : Bool). (is_call (now h).configuration k && not b) && not (has_returned g m idle k)) out ∙ ap (λ (b : Bool). is_process g m h k && not b) back

    same_numbers : numbers_of g m idle ≡ numbers_of g m h
    same_numbers = λ i. record {
      calls = added_none (calls_in g m h) (new_calls (now h).configuration (accepted_choice e) (now h).configuration) none_new i;
      returned = added_none (returned_in g m h) (cond (is_return_choice m (now h).configuration e) 1 0) (ap (λ (b : Bool). cond {A = ℕ} b 1 0) no_return) i;
      answered = added_none (answered_in g m h) (cond (is_reply e) 1 0) (ap (λ (b : Bool). cond {A = ℕ} b 1 0) no_reply) i;
      unfinished = count_same (λ k. is_process g m idle k && not (has_returned g m idle k)) (λ k. is_process g m h k && not (has_returned g m h k)) same_process 128 i;
      waiting = waiting_in g m h;
    }

    -- what is so up to `h` is so up to the idle event
    at_idle : (P : History O → Type 0) → ((q : History O) → IsPartOf q h → P q) → P idle → (q : History O) → IsPartOf q idle → P q
    at_idle P earlier last q part = elim part [
      | inl same ↦ subst P (sym same) last
      | inr before ↦ earlier q before
    ]

    kept_from : (p : History O) → IsPartOf p idle → KeepsValues (now p).configuration (now h).configuration
    kept_from p part f v e = elim part [
      | inl same ↦ ap (λ (q : History O). value_at (now q).configuration f) (sym same) ∙ e
      | inr earlier ↦ holds.futures h p (whole h) earlier f v e
    ]

    same_from : (p : History O) → IsPartOf p idle → KeepsIdentities (now p).configuration (now h).configuration
    same_from p part = elim part [
      | inl same ↦ subst (λ (q : History O). KeepsIdentities (now q).configuration (now h).configuration) (sym same) (holds.identities h h (whole h) (whole h))
      | inr earlier ↦ holds.identities h p (whole h) earlier
    ]

    idle_allowed : Guarantee g m idle
    idle_allowed = record {
      types = at_idle (λ q. TypesHold m (now q).configuration) holds.types (holds.types h (whole h));
      one_active = at_idle (λ q. OneIsActive (now q).configuration) holds.one_active (holds.one_active h (whole h));
      futures = λ q p part. at_idle (λ q. IsPartOf p q → KeepsValues (now p).configuration (now q).configuration)
          (λ q part. holds.futures q p part) (kept_from p) q part;
      identities = λ q p part. at_idle (λ q. IsPartOf p q → KeepsIdentities (now p).configuration (now q).configuration)
          (λ q part. holds.identities q p part) (same_from p) q part;
      balance = at_idle (λ q. Balanced (numbers_of g m q)) holds.balance (subst Balanced (sym same_numbers) (holds.balance h (whole h)));
      closing = at_idle (λ q. account_over (now q).configuration (g.waits (now q).outside) ≡ numbers_of g m q) holds.closing
          (holds.closing h (whole h) ∙ sym same_numbers);
      waiting = at_idle (λ q. (k : ℕ) → is_some (g.waits (now q).outside k) ≡ passes (call_at (now q).configuration k) (λ x. is_outside x.state)) holds.waiting
          (holds.waiting h (whole h));
      rest = at_idle (λ q. EveryChoiceRefused m (now q).configuration (observation g (now q).outside) →
          Halted m (now q).configuration (observation g (now q).outside) (g.waits (now q).outside)) holds.rest (holds.rest h (whole h));
    }

  pub allows_idle_choices : AllowsIdleChoices g m
  allows_idle_choices h n call number away holds =
      idle_allowed h (Event.choice n (Ok call)) holds away number (λ k. ap (λ (b : Bool). n == k && b) away ∙ and-false (n == k))
      (count_none (is_new (now h).configuration (now h).configuration) (λ k. not-and_self (is_call (now h).configuration k)) 128)

  pub allows_early_refusals : AllowsEarlyRefusals g m
  allows_early_refusals h n e holds = idle_allowed h (Event.choice n (Err e)) holds refl refl (λ k. refl) refl

  -- what a linked history excludes
  module _ (s t : Moment O) (n : ℕ) where
    is_done : (out : Outcome) (call : ℕ) → Moves g n out s (Ok call) t → (d : Transition) × (out ≡ Ok d) × (t.configuration ≡ d.configuration)
    is_done (Ok d) call moves = (d, refl, moves.1)
    is_done (Err e) call moves = absurd cc

    is_refusal : (out : Outcome) (e : Refusal) → Moves g n out s (Err e) t → out ≡ Err e
    is_refusal (Ok d) e moves = absurd cc
    is_refusal (Err r) e moves = let same : r ≡ e = cc in ap (λ (x : Refusal). Err x) same

  pub no_idle_choice : NoIdleChoice g m
  no_idle_choice h n call t linked = is_done (now h) t n (step m (now h).configuration (observation g (now h).outside) n) call linked.1

  pub no_early_refusal : NoEarlyRefusal g m
  no_early_refusal h n e t linked = is_refusal (now h) t n (step m (now h).configuration (observation g (now h).outside) n) e linked.1
