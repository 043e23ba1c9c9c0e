-- Configurations stay in order where a process hands its group to the call that it makes, and where a call hands it back.
use Rattle.std.proofs.Common.{◌≡◌, ℕ, ◌+◌, ◌<◌, true, length, Some, None, refl, sym, ap, ◌∙◌, arith, is_some}
use Rattle.std.proofs.lemmas.Bool.{false≢true}
use Rattle.rules.proofs.Rows.{known}
use Rattle.evaluation.specs.declared.value.Value.{Value}
use Rattle.steps.specs.declared.state.CallState.TheVariants as state
use Rattle.steps.specs.declared.records.CallRecord.{CallRecord}
use Rattle.steps.specs.Changes.{as_calling, as_ended, as_waiting, with_new_call}
use Rattle.steps.specs.Configurations.{Configuration, call_at, group_of}
use Rattle.steps.specs.Rules as rule
use Rattle.steps.specs.Sound.{Beside, InOrder}
use Rattle.steps.specs.States.{is_active, is_ended, is_unfinished}
use Rattle.steps.proofs.Counting.{length_put, length_push}
use Rattle.steps.proofs.Items.{put_here, put_other, push_new, push_old, push_other}
use Rattle.steps_ordered.proofs.Ordering.{IsOther, Fits, changes_ordered, beyond, group_back, group_on, total_push, total_put, weight}

-- a process that runs
module _ (c : Configuration) (h : InOrder c) (n : ℕ) (x : CallRecord) (there : call_at c n ≡ Some x) (active : x.state ≡ state.Active None) where
  waits_none : (j : ℕ) (u : CallRecord) → call_at c n ≡ Some u → u.state ≡ state.Calling j → ⊥
  waits_none j u e to = let same : state.Active None ≡ state.Calling j = sym active ∙ ap (λ (z : CallRecord). z.state) (known (sym there ∙ e)) ∙ to in absurd cc

  -- No other process is active in its group, of which y is.
  alone_with : (y : CallRecord) → Beside c y x → (a : ℕ) (u : CallRecord) → call_at c a ≡ Some u → is_active u.state ≡ true → Beside c y u → a ≡ n
  alone_with y beside a u e au near =
      sym (h.one_active n a x u there e (ap is_active active) au
      (group_on (group_of c x.object) (group_of c y.object) (group_of c u.object) (group_back (group_of c y.object) (group_of c x.object) beside) near))

-- A process that was called inside its group returns: its maker is active.
module _ (c : Configuration) (h : InOrder c) (n k : ℕ) (x y : CallRecord) (v : Value) (there : call_at c n ≡ Some x) (active : x.state ≡ state.Active None)
    (caller : x.caller ≡ Some k) (maker : call_at c k ≡ Some y) (calls : y.state ≡ state.Calling n) (beside : Beside c y x) where
  abbrev after : Configuration
  after = rule.return c n x v

  abbrev pub after_return : Configuration
  after_return = rule.cog_sync_return after n k y

  apart : k ≡ n → ⊥
  apart at = waits_none c h n x there active n y (ap (call_at c) (sym at) ∙ maker) calls

  waits_for : (j : ℕ) (u : CallRecord) → call_at c k ≡ Some u → u.state ≡ state.Calling j → j ≡ n
  waits_for j u e to =
      let same : state.Calling n ≡ state.Calling j = sym calls ∙ ap (λ (z : CallRecord). z.state) (known (sym maker ∙ e)) ∙ to in
      cc

  between : call_at after k ≡ Some y
  between = put_other c.calls n k (as_ended x v) apart ∙ maker

  elsewhere : (a : ℕ) → IsOther n k a → call_at after_return a ≡ call_at c a
  elsewhere a away = put_other after.calls k a (as_waiting y n) away.1 ∙ put_other c.calls n a (as_ended x v) away.0

  return_fits : Fits c after_return n k n (as_ended x v)
  return_fits = record {
    there = put_other after.calls k n (as_waiting y n) (λ at. apart (sym at)) ∙ put_here c.calls n x (as_ended x v) there;
    alone = λ ax j u away e au near. false≢true ax;
    resolved = refl;
    calling = λ j to. absurd cc;
    callers = λ j open_ own. absurd (false≢true open_);
    called = λ a u away e own open_. absurd (away.1 (known (sym own ∙ ap (λ (z : CallRecord). z.caller) (known (sym e ∙ there)) ∙ caller)));
    waits_not = λ a u away. waits_none c h n x there active a u;
  }

  maker_fits : Fits c after_return n k k (as_waiting y n)
  maker_fits = record {
    there = put_here after.calls k y (as_waiting y n) between;
    alone = λ ay j u away e au near. away.0 (alone_with c h n x there active y beside j u e au near);
    resolved = h.resolved k y maker ∙ ap is_ended calls;
    calling = λ j to. absurd cc;
    callers = λ j open_ own. (
        let p = h.callers k j y maker (ap is_unfinished calls) own in
        let off : IsOther n k j = (
          λ at. waits_none c h n x there active k p.0 (ap (call_at c) (sym at) ∙ p.1) p.2,
          λ at. apart (waits_for k p.0 (ap (call_at c) (sym at) ∙ p.1) p.2),
        ) in
        (p.0, elsewhere j off ∙ p.1, p.2, p.3)
        );
    called = λ a u away e own open_. (ap (λ (z : CallRecord). z.caller) (known (sym maker ∙ e)) ∙ own, refl);
    waits_not = λ a u away e to. away.0 (waits_for a u e to);
  }

  pub return_ordered : InOrder after_return
  return_ordered = changes_ordered c after_return h n k (as_ended x v) (as_waiting y n) (record {
    elsewhere = elsewhere;
    near = λ a u e. refl;
    first = return_fits;
    second = maker_fits;
    apart = λ ax ay near. absurd (false≢true ax);
    balance = (
        let ends = total_put c.calls n x (as_ended x v) there in
        let goes_on = total_put after.calls k y (as_waiting y n) between in
        let was_x : weight x.state ≡ 1 = ap weight active in
        let was_y : weight y.state ≡ 1 = ap weight calls in
        let long = length_put c.calls n (as_ended x v) in
        let long′ = length_put after.calls k (as_waiting y n) in
        let before = h.balance in
        omega arith
        );
    few = (let long = length_put c.calls n (as_ended x v) in let long′ = length_put after.calls k (as_waiting y n) in let before = h.few in omega arith);
  })

-- A process makes a call inside its group: that is active, and the maker calls.
module _ (c : Configuration) (h : InOrder c) (n : ℕ) (x y : CallRecord) (there : call_at c n ≡ Some x) (active : x.state ≡ state.Active None)
    (runs : y.state ≡ state.Active None) (by : y.caller ≡ Some n) (none : y.result ≡ None) (beside : Beside c y x) (room : length c.calls < 128) where
  abbrev number : ℕ
  number = length c.calls + 1

  abbrev calling_x : CallRecord
  calling_x = as_calling x number

  abbrev more : Configuration
  more = with_new_call c y

  abbrev pub with_own_call : Configuration
  with_own_call = rule.cog_sync_call c n x y

  still_x : call_at more n ≡ Some x
  still_x = push_old c.calls y n x there

  maker_now : call_at with_own_call n ≡ Some calling_x
  maker_now = put_here more.calls n x calling_x still_x

  new_call_now : call_at with_own_call number ≡ Some y
  new_call_now = put_other more.calls n number calling_x (λ at. beyond c n x there (sym at)) ∙ push_new c.calls y

  own_call_elsewhere : (a : ℕ) → IsOther n number a → call_at with_own_call a ≡ call_at c a
  own_call_elsewhere a away = put_other more.calls n a calling_x away.0 ∙ push_other c.calls y a away.1

  calling_fits : Fits c with_own_call n number n calling_x
  calling_fits = record {
    there = maker_now;
    alone = λ ax j u away e au near. false≢true ax;
    resolved = h.resolved n x there ∙ ap is_ended active;
    calling = λ j to. (let at : number ≡ j = cc in (y, ap (call_at with_own_call) (sym at) ∙ new_call_now, by, ap is_unfinished runs));
    callers = λ j open_ own. (
        let p = h.callers n j x there (ap is_unfinished active) own in
        let off : IsOther n number j = (λ at. waits_none c h n x there active n p.0 (ap (call_at c) (sym at) ∙ p.1) p.2, beyond c j p.0 p.1) in
        (p.0, own_call_elsewhere j off ∙ p.1, p.2, p.3)
        );
    called = λ a u away e own open_. (ap (λ (z : CallRecord). z.caller) (known (sym there ∙ e)) ∙ own, refl);
    waits_not = λ a u away. waits_none c h n x there active a u;
  }

  new_fits : Fits c with_own_call n number number y
  new_fits = record {
    there = new_call_now;
    alone = λ ay j u away e au near. away.0 (alone_with c h n x there active y beside j u e au near);
    resolved = ap is_some none ∙ sym (ap is_ended runs);
    calling = λ j to. (let same : state.Active None ≡ state.Calling j = sym runs ∙ to in absurd cc);
    callers = λ j open_ own. (
        let at : j ≡ n = known (sym own ∙ by) in
        (calling_x, ap (call_at with_own_call) at ∙ maker_now, refl, group_back (group_of c y.object) (group_of c x.object) beside)
        );
    called = λ a u away e own open_. absurd (beyond c number u e refl);
    waits_not = λ a u away e to. beyond c number u e refl;
  }

  pub own_call_ordered : InOrder with_own_call
  own_call_ordered = changes_ordered c with_own_call h n number calling_x y (record {
    elsewhere = own_call_elsewhere;
    near = λ a u e. refl;
    first = calling_fits;
    second = new_fits;
    apart = λ ax ay near. absurd (false≢true ax);
    balance = (
        let joins = total_push c.calls y in
        let calls = total_put more.calls n x calling_x still_x in
        let was_x : weight x.state ≡ 1 = ap weight active in
        let is_y : weight y.state ≡ 1 = ap weight runs in
        let long = length_push c.calls y in
        let long′ = length_put more.calls n calling_x in
        let before = h.balance in
        omega arith
        );
    few = (let long = length_push c.calls y in let long′ = length_put more.calls n calling_x in omega arith);
  })
