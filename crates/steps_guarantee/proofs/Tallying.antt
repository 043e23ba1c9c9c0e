-- The numbers that are counted in a history are those that the configuration counts.
use Rattle.std.proofs.Common.{◌≡◌, ℕ, zero, suc, ◌+◌, Bool, true, false, cond, not, List, [], ◌∷◌, length, Some, None, Option, refl, sym, ap, ◌∙◌, arith, is_some}
use Rattle.std.specs.Prelude.{◌&&◌, ◌||◌}
use Rattle.std.specs.List.{count_by, slice_get}
use Rattle.std.proofs.Math.Bool.{and-true}
use Rattle.std.proofs.lemmas.Bool.{false≢true, or_from, true≢false}
use Rattle.std.proofs.lemmas.List.{take_all}
use Rattle.std.proofs.lemmas.Option.{none-some}
use Rattle.tables.specs.Layout.{Content}
use Rattle.rules.proofs.Rows.{known}
use Rattle.rules.specs.Words.{passes}
use Rattle.outside.specs.declared.outside.Outside.{Ghosts}
use Rattle.outside.specs.Outsides.{Waits}
use Rattle.steps.specs.declared.records.CallRecord.{CallRecord}
use Rattle.steps.specs.declared.state.CallState.{CallState}
use Rattle.steps.specs.declared.state.CallState.TheVariants as state
use Rattle.steps.specs.Account.{count_to}
use Rattle.steps.specs.Configurations.{Configuration, call_at}
use Rattle.steps.specs.Histories.{Event, History, Moment, now}
use Rattle.steps.specs.Sound.{InOrder, Sound}
use Rattle.steps.specs.States.{is_ended, is_outside, is_unfinished}
use Rattle.steps.proofs.Counting.{counted, passing}
use Rattle.steps_ordered.specs.Ending.{EndsBy, Finish, replies_counted, returns, returns_counted}
use Rattle.steps_laws.specs.Laws.{account_over}
use Rattle.steps_laws.proofs.Balancing.{counts_to, waits_if}
use Rattle.steps_guarantee.specs.Numbers.{accepted_choice, answered_in, call_count, calls_in, has_returned, is_call, is_new, is_process, is_reply, is_return_choice, new_calls, numbers_of, returned_in, returns_call, unfinished_in, waiting_in, was_outside}

-- numbers that pass one test or the other, but not both
count_split : (p q r : ℕ → Bool) → ((k : ℕ) → cond {A = ℕ} (r k) 1 0 ≡ cond {A = ℕ} (p k) 1 0 + cond {A = ℕ} (q k) 1 0) → (n : ℕ) →
    count_to n r ≡ count_to n p + count_to n q
count_split p q r each zero = refl
count_split p q r each (suc n) =
    let ih = count_split p q r each n in
    let one = each (suc n) in
    let a : count_to (suc n) r ≡ cond {A = ℕ} (r (suc n)) 1 0 + count_to n r = refl in
    let b : count_to (suc n) p ≡ cond {A = ℕ} (p (suc n)) 1 0 + count_to n p = refl in
    let c : count_to (suc n) q ≡ cond {A = ℕ} (q (suc n)) 1 0 + count_to n q = refl in
    omega arith

pub count_same : (p q : ℕ → Bool) → ((k : ℕ) → p k ≡ q k) → (n : ℕ) → count_to n p ≡ count_to n q
count_same p q each zero = refl
count_same p q each (suc n) =
    let ih = count_same p q each n in
    let one : cond {A = ℕ} (p (suc n)) 1 0 ≡ cond {A = ℕ} (q (suc n)) 1 0 = ap (λ (b : Bool). cond {A = ℕ} b 1 0) (each (suc n)) in
    let a : count_to (suc n) p ≡ cond {A = ℕ} (p (suc n)) 1 0 + count_to n p = refl in
    let b : count_to (suc n) q ≡ cond {A = ℕ} (q (suc n)) 1 0 + count_to n q = refl in
    omega arith

pub count_none : (p : ℕ → Bool) → ((k : ℕ) → p k ≡ false) → (n : ℕ) → count_to n p ≡ 0
count_none p each zero = refl
count_none p each (suc n) =
    let ih = count_none p each n in
    let one : cond {A = ℕ} (p (suc n)) 1 0 ≡ 0 = ap (λ (b : Bool). cond {A = ℕ} b 1 0) (each (suc n)) in
    let a : count_to (suc n) p ≡ cond {A = ℕ} (p (suc n)) 1 0 + count_to n p = refl in
    omega arith

all_pass : {A : Type 0} (xs : List A) → passing (λ x. true) xs ≡ length xs
all_pass [] = refl
all_pass (x ∷ xs) =
    let ih = all_pass xs in
    let a : passing (λ y. true) (x ∷ xs) ≡ 1 + passing (λ y. true) xs = refl in
    let b : length (x ∷ xs) ≡ suc (length xs) = refl in
    omega arith

there_passes : {A : Type 0} (o : Option A) → is_some o ≡ passes o (λ x. true)
there_passes None = refl
there_passes (Some x) = refl

-- there are as many calls as numbers of calls
all_counted : (c : Configuration) → InOrder c → call_count (is_call c) ≡ length c.calls
all_counted c h =
    counts_to (λ x. true) c.calls (is_call c) (λ k. there_passes (slice_get c.calls k)) 128
    ∙ ap (passing (λ x. true)) (take_all 128 c.calls h.few) ∙ all_pass c.calls

unfinished_counted : (c : Configuration) → InOrder c → (p : ℕ → Bool) → ((k : ℕ) → p k ≡ passes (call_at c k) (λ x. is_unfinished x.state)) →
    call_count p ≡ count_by (λ x. is_unfinished x.state) c.calls
unfinished_counted c h p same =
    counts_to (λ x. is_unfinished x.state) c.calls p (λ k. same (suc k)) 128
    ∙ ap (passing (λ x. is_unfinished x.state)) (take_all 128 c.calls h.few) ∙ counted (λ x. is_unfinished x.state) c.calls

-- a Bool that both tests of a call give
both_tests : (W R r o a b : Bool) → a ≡ (not W && not R) → b ≡ (not r && a) → (o ≡ true → b ≡ false) → b ≡ (not (W || o) && not (R || r))
both_tests true R true o a b ea eb h = eb
both_tests true R false o a b ea eb h = eb ∙ ea
both_tests false R true true a b ea eb h = eb
both_tests false R false true a b ea eb h = h refl
both_tests false true true false a b ea eb h = eb
both_tests false true false false a b ea eb h = eb ∙ ea
both_tests false false true false a b ea eb h = eb
both_tests false false false false a b ea eb h = eb ∙ ea

new_tests : (W R r o b : Bool) → W ≡ false → R ≡ false → r ≡ false → b ≡ not o → b ≡ (not (W || o) && not (R || r))
new_tests W R r o b eW eR er eb = rw (eW, eR, er) (eb ∙ sym (and-true (not o)))

old_or_new : (a b : Bool) → (a ≡ true → b ≡ true) → cond {A = ℕ} b 1 0 ≡ cond {A = ℕ} a 1 0 + cond {A = ℕ} (not a && b) 1 0
old_or_new true b h = rw (h refl) refl
old_or_new false true h = refl
old_or_new false false h = refl

-- as many calls as before, and the new ones
add_up : (calls before more new old all after : ℕ) → calls ≡ before → more ≡ new → all ≡ old + new → old ≡ before → all ≡ after → calls + more ≡ after
add_up calls before more new old all after a b c d e = omega arith

-- a call that is out is not unfinished, and one that is neither out nor ended is
out_is_finished : (s : CallState) → is_outside s ≡ true → is_unfinished s ≡ false
out_is_finished state.Sent e = absurd (false≢true e)
out_is_finished state.Queued e = absurd (false≢true e)
out_is_finished (state.Active k) e = absurd (false≢true e)
out_is_finished (state.Calling k) e = absurd (false≢true e)
out_is_finished state.Ended e = refl
out_is_finished state.Outside e = refl

rest_is_unfinished : (s : CallState) → is_ended s ≡ false → is_unfinished s ≡ not (is_outside s)
rest_is_unfinished state.Sent e = refl
rest_is_unfinished state.Queued e = refl
rest_is_unfinished (state.Active k) e = refl
rest_is_unfinished (state.Calling k) e = refl
rest_is_unfinished state.Ended e = absurd (true≢false e)
rest_is_unfinished state.Outside e = refl

-- whether a call waits is whether it is out
pub waits_as : (m : Content) (c : Configuration) (w : Waits) → Sound m c w → (n : ℕ) → is_some (w n) ≡ passes (call_at c n) (λ x. is_outside x.state)
waits_as m c w sound n = ap is_some (sound.outside n) ∙ waits_if m c w sound (call_at c n)

module _ {O : Type 0} (g : Ghosts O) (m : Content) where
  -- A number of no call never waited outside and never returned. A call is unfinished if it never waited outside and never returned.
  abbrev pub Marked : History O → ℕ → Option CallRecord → Type 0
  Marked h n None = (was_outside g m h n ≡ false) × (has_returned g m h n ≡ false)
  Marked h n (Some x) = is_unfinished x.state ≡ (not (was_outside g m h n) && not (has_returned g m h n))

  -- The configuration's counters are the numbers that are counted in the history.
  pub record Tallied (h : History O) : Type 0 where
    pub calls : calls_in g m h ≡ length (now h).configuration.calls
    pub returned : returned_in g m h ≡ (now h).configuration.returned
    pub answered : answered_in g m h ≡ (now h).configuration.answered
    pub marked : (n : ℕ) → Marked h n (call_at (now h).configuration n)

  -- What is to be shown of an event, of whatever kind, for the numbers: what it ends is what is counted of it.
  pub record Counts (h : History O) (e : Event) (t : Moment O) : Type 0 where
    pub finish : Finish
    pub ends : EndsBy finish (now h).configuration t.configuration
    pub returned : returns_counted finish ≡ cond (is_return_choice m (now h).configuration e) 1 0
    pub answered : replies_counted finish ≡ cond (is_reply e) 1 0
    pub returns : (k : ℕ) → returns finish k ≡ returns_call m (now h).configuration e k
    pub of_calls : (k : ℕ) → call_at (now h).configuration k ≡ None → returns_call m (now h).configuration e k ≡ false
    pub new_ones : new_calls (now h).configuration (accepted_choice e) t.configuration ≡ call_count (is_new (now h).configuration t.configuration)

  module _ (h : History O) (e : Event) (t : Moment O) (before : Tallied h) (earlier : Sound m (now h).configuration (g.waits (now h).outside))
      (later : Sound m t.configuration (g.waits t.outside)) (counts : Counts h e t) where
    waits_later : (n : ℕ) (o : Option CallRecord) → call_at t.configuration n ≡ o → is_some (g.waits t.outside n) ≡ passes o (λ x. is_outside x.state)
    waits_later n o e = waits_as m t.configuration (g.waits t.outside) later n ∙ ap (λ (p : Option CallRecord). passes p (λ x. is_outside x.state)) e

    marked_on : (n : ℕ) (o p : Option CallRecord) → call_at (now h).configuration n ≡ o → call_at t.configuration n ≡ p → Marked h n o →
        Marked (History.after h e t) n p
    marked_on n None None eo ep was = (or_from _ _ was.0 (waits_later n None ep), or_from _ _ was.1 (counts.of_calls n eo))
    marked_on n None (Some y) eo ep was =
        new_tests (was_outside g m h n) (has_returned g m h n) (returns_call m (now h).configuration e n) (is_some (g.waits t.outside n))
        (is_unfinished y.state) was.0 was.1 (counts.of_calls n eo)
        (rest_is_unfinished y.state (counts.ends.new_calls n y eo ep) ∙ ap not (sym (waits_later n (Some y) ep)))
    marked_on n (Some x) None eo ep was = let p = counts.ends.calls n x eo in absurd (none-some p.0 (sym ep ∙ p.1))
    marked_on n (Some x) (Some y) eo ep was =
        let p = counts.ends.calls n x eo in
        let same : p.0 ≡ y = known (sym p.1 ∙ ep) in
        both_tests (was_outside g m h n) (has_returned g m h n) (returns_call m (now h).configuration e n) (is_some (g.waits t.outside n))
        (is_unfinished x.state) (is_unfinished y.state) was
        (ap (λ (z : CallRecord). is_unfinished z.state) (sym same) ∙ p.2 ∙ ap (λ (r : Bool). not r && is_unfinished x.state) (counts.returns n))
        (λ waits. out_is_finished y.state (sym (waits_later n (Some y) ep) ∙ waits))

    still_there : (k : ℕ) (o : Option CallRecord) → call_at (now h).configuration k ≡ o → is_some o ≡ true → is_call t.configuration k ≡ true
    still_there k None e there = absurd (false≢true there)
    still_there k (Some x) e there = let p = counts.ends.calls k x e in ap is_some p.1

    pub tallied_on : Tallied (History.after h e t)
    tallied_on = record {
      calls = calls;
      returned = returned;
      answered = answered;
      marked = λ n. marked_on n (call_at (now h).configuration n) (call_at t.configuration n) refl refl (before.marked n);
    }
      where
        calls : calls_in g m (History.after h e t) ≡ length t.configuration.calls
        calls =
            add_up (calls_in g m h) (length (now h).configuration.calls) (new_calls (now h).configuration (accepted_choice e) t.configuration)
            (call_count (is_new (now h).configuration t.configuration)) (call_count (is_call (now h).configuration)) (call_count (is_call t.configuration))
            (length t.configuration.calls) before.calls counts.new_ones
            (count_split (is_call (now h).configuration) (is_new (now h).configuration t.configuration) (is_call t.configuration)
            (λ k. old_or_new (is_call (now h).configuration k) (is_call t.configuration k) (still_there k (call_at (now h).configuration k) refl)) 128)
            (all_counted (now h).configuration earlier.order) (all_counted t.configuration later.order)

        returned : returned_in g m (History.after h e t) ≡ t.configuration.returned
        returned = let a = before.returned in let b = counts.ends.returned in let c = counts.returned in omega arith

        answered : answered_in g m (History.after h e t) ≡ t.configuration.answered
        answered = let a = before.answered in let b = counts.ends.answered in let c = counts.answered in omega arith

  -- The account is made of the numbers that are counted.
  module _ (h : History O) (tallied : Tallied h) (sound : Sound m (now h).configuration (g.waits (now h).outside)) where
    unfinished_as : (n : ℕ) (o : Option CallRecord) → call_at (now h).configuration n ≡ o → Marked h n o →
        (is_process g m h n && not (has_returned g m h n)) ≡ passes o (λ x. is_unfinished x.state)
    unfinished_as n None e marked = rw e refl
    unfinished_as n (Some x) e marked = rw e (sym marked)

    unfinished : unfinished_in g m h ≡ count_by (λ x. is_unfinished x.state) (now h).configuration.calls
    unfinished =
        unfinished_counted (now h).configuration sound.order (λ n. is_process g m h n && not (has_returned g m h n))
        (λ n. unfinished_as n (call_at (now h).configuration n) refl (tallied.marked n))

    pub accounts : account_over (now h).configuration (g.waits (now h).outside) ≡ numbers_of g m h
    accounts = λ i. record {
      calls = sym tallied.calls i;
      returned = sym tallied.returned i;
      answered = sym tallied.answered i;
      unfinished = sym unfinished i;
      waiting = waiting_in g m h;
    }
