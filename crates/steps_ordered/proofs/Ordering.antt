-- Configurations stay in order when one call changes or two do, and when a call is added.
use Rattle.std.proofs.Common.{◌≡◌, ℕ, zero, suc, ◌+◌, ◌<◌, ◌≤◌, true, false, cond, List, [], ◌∷◌, ◌++◌, length, Some, None, Option, refl, sym, ap, ◌∙◌, inl, inr, arith, is_some}
use Rattle.std.specs.List.{count_by}
use Rattle.std.proofs.lemmas.Bool.{eq-eqb, eqb-true, false≢true}
use Rattle.std.proofs.lemmas.Option.{none-some, slice_get_within}
use Rattle.rules.proofs.Rows.{known}
use Rattle.steps.specs.declared.state.CallState.{CallState}
use Rattle.steps.specs.declared.state.CallState.TheVariants as state
use Rattle.steps.specs.declared.records.CallRecord.{CallRecord}
use Rattle.steps.specs.declared.records.ObjectRecord.{ObjectRecord}
use Rattle.steps.specs.Changes.{with_item_at}
use Rattle.steps.specs.Configurations.{Configuration, call_at, group_of, item_at, object_at, same_group}
use Rattle.steps.specs.Sound.{Beside, InOrder}
use Rattle.steps.specs.States.{is_active, is_ended, is_outside, is_unfinished}
use Rattle.steps.proofs.Counting.{count_put, count_push, length_put, length_push}
use Rattle.steps_ordered.specs.Lasting.{HaveObjects}
use Rattle.steps.proofs.Items.{push_new, push_other, put_here, put_other, same_or}

-- being of one group, the other way and further on
pub group_back : (g h : Option ℕ) → same_group g h ≡ true → same_group h g ≡ true
group_back None h e = absurd (false≢true e)
group_back (Some a) None e = absurd (false≢true e)
group_back (Some a) (Some b) e = eq-eqb b a (sym (eqb-true a b e))

pub group_on : (g h i : Option ℕ) → same_group g h ≡ true → same_group h i ≡ true → same_group g i ≡ true
group_on None h i e f = absurd (false≢true e)
group_on (Some a) None i e f = absurd (false≢true e)
group_on (Some a) (Some b) None e f = absurd (false≢true f)
group_on (Some a) (Some b) (Some z) e f = eq-eqb a z (eqb-true a b e ∙ eqb-true b z f)

-- the groups of the objects that there are stay
abbrev pub GroupsStay : Configuration → Configuration → Type 0
GroupsStay c d = (n : ℕ) (o : ObjectRecord) → object_at c n ≡ Some o → group_of d n ≡ group_of c n

-- 1 for a call that did not end
abbrev pub weight : CallState → ℕ
weight s = cond (is_unfinished s) 1 0 + cond (is_outside s) 1 0

-- how many calls did not end
abbrev pub total : List CallRecord → ℕ
total l = count_by (λ z. is_unfinished z.state) l + count_by (λ z. is_outside z.state) l

pub total_put : (l : List CallRecord) (n : ℕ) (x y : CallRecord) → item_at l n ≡ Some x → total (with_item_at l n y) + weight x.state ≡ total l + weight y.state
total_put l n x y there =
    let open_ = count_put (λ (z : CallRecord). is_unfinished z.state) l n x y there in
    let out = count_put (λ (z : CallRecord). is_outside z.state) l n x y there in
    omega arith

pub total_push : (l : List CallRecord) (y : CallRecord) → total (l ++ y ∷ []) ≡ total l + weight y.state
total_push l y =
    let open_ = count_push (λ (z : CallRecord). is_unfinished z.state) l y in
    let out = count_push (λ (z : CallRecord). is_outside z.state) l y in
    omega arith

-- call j names a as its caller, and is not finished
abbrev pub HasCaller : Configuration → (a j : ℕ) → Type 0
HasCaller d a j = (v : CallRecord) × (call_at d j ≡ Some v) × (v.caller ≡ Some a) × (is_unfinished v.state ≡ true)

-- call j waits for a, which is u, in its group
abbrev pub WaitsFor : Configuration → (a j : ℕ) → CallRecord → Type 0
WaitsFor d a j u = (v : CallRecord) × (call_at d j ≡ Some v) × (v.state ≡ state.Calling a) × Beside d v u

-- another number
abbrev pub IsOther : (n k a : ℕ) → Type 0
IsOther n k a = (a ≡ n → ⊥) × (a ≡ k → ⊥)

-- Call i, which is y now, fits among the calls other than n and k, which are as they were.
pub record Fits (c d : Configuration) (n k i : ℕ) (y : CallRecord) : Type 0 where
  pub there : call_at d i ≡ Some y
  pub alone : is_active y.state ≡ true → (j : ℕ) (v : CallRecord) → IsOther n k j → call_at c j ≡ Some v → is_active v.state ≡ true → Beside d y v → ⊥
  pub resolved : is_some y.result ≡ is_ended y.state
  pub calling : (j : ℕ) → y.state ≡ state.Calling j → HasCaller d i j
  pub callers : (j : ℕ) → is_unfinished y.state ≡ true → y.caller ≡ Some j → WaitsFor d i j y
  pub called : (a : ℕ) (v : CallRecord) → IsOther n k a → call_at c i ≡ Some v → v.caller ≡ Some a → is_unfinished v.state ≡ true →
      (y.caller ≡ Some a) × (is_unfinished y.state ≡ true)
  pub waits_not : (a : ℕ) (v : CallRecord) → IsOther n k a → call_at c i ≡ Some v → v.state ≡ state.Calling a → ⊥

-- Calls n and k have become y and z, or one call has, where n is k.
pub record Becomes (c d : Configuration) (n k : ℕ) (y z : CallRecord) : Type 0 where
  pub elsewhere : (a : ℕ) → IsOther n k a → call_at d a ≡ call_at c a
  pub near : (a : ℕ) (u : CallRecord) → call_at c a ≡ Some u → group_of d u.object ≡ group_of c u.object
  pub first : Fits c d n k n y
  pub second : Fits c d n k k z
  pub apart : is_active y.state ≡ true → is_active z.state ≡ true → Beside d y z → n ≡ k
  pub balance : length d.calls ≡ d.returned + d.answered + count_by (λ z. is_unfinished z.state) d.calls + count_by (λ z. is_outside z.state) d.calls
  pub few : length d.calls ≤ 128

module _ (c d : Configuration) (h : InOrder c) (n k : ℕ) (y z : CallRecord) (b : Becomes c d n k y z) where
  cases : (P : ℕ → CallRecord → Type 0) → P n y → P k z → ((a : ℕ) (u : CallRecord) → call_at c a ≡ Some u → IsOther n k a → P a u) →
      (a : ℕ) (u : CallRecord) → call_at d a ≡ Some u → P a u
  cases P p q other a u e = elim (same_or n a) [
    | inl at ↦ (let same : y ≡ u = known (sym b.first.there ∙ ap (call_at d) (sym at) ∙ e) in rw (at, ← same) p)
    | inr ne ↦ elim (same_or k a) [
      | inl at ↦ (let same : z ≡ u = known (sym b.second.there ∙ ap (call_at d) (sym at) ∙ e) in rw (at, ← same) q)
      | inr ne′ ↦ other a u (sym (b.elsewhere a (ne, ne′)) ∙ e) (ne, ne′)
    ]
  ]

  -- whose caller is a call that is as it was
  still_called : (a j : ℕ) (v : CallRecord) → IsOther n k a → call_at c j ≡ Some v → v.caller ≡ Some a → is_unfinished v.state ≡ true → HasCaller d a j
  still_called a j v away e own open_ = elim (same_or n j) [
    | inl at ↦ (
        let q = b.first.called a v away (ap (call_at c) (sym at) ∙ e) own open_ in
        (y, ap (call_at d) at ∙ b.first.there, q.0, q.1)
        )
    | inr ne ↦ elim (same_or k j) [
      | inl at ↦ (
          let q = b.second.called a v away (ap (call_at c) (sym at) ∙ e) own open_ in
          (z, ap (call_at d) at ∙ b.second.there, q.0, q.1)
          )
      | inr ne′ ↦ (v, b.elsewhere j (ne, ne′) ∙ e, own, open_)
    ]
  ]

  pub changes_ordered : InOrder d
  changes_ordered = record { one_active = one; resolved = resolved; calling = calling; callers = callers; balance = b.balance; few = b.few }
    where
      one : (a j : ℕ) (u v : CallRecord) → call_at d a ≡ Some u → call_at d j ≡ Some v → is_active u.state ≡ true → is_active v.state ≡ true → Beside d u v → a ≡ j
      one a j u v eu = cases (λ a u. (j : ℕ) (v : CallRecord) → call_at d j ≡ Some v → is_active u.state ≡ true → is_active v.state ≡ true → Beside d u v → a ≡ j)
          (cases (λ j v. is_active y.state ≡ true → is_active v.state ≡ true → Beside d y v → n ≡ j) (λ ay av near. refl) b.apart
          (λ j v e away ay av near. absurd (b.first.alone ay j v away e av near)))
          (cases (λ j v. is_active z.state ≡ true → is_active v.state ≡ true → Beside d z v → k ≡ j)
          (λ az ay near. sym (b.apart ay az (group_back (group_of d z.object) (group_of d y.object) near))) (λ az av near. refl)
          (λ j v e away az av near. absurd (b.second.alone az j v away e av near)))
          (λ a u e away. cases (λ j v. is_active u.state ≡ true → is_active v.state ≡ true → Beside d u v → a ≡ j)
          (λ au ay near. absurd (b.first.alone ay a u away e au (group_back (group_of d u.object) (group_of d y.object) near)))
          (λ au az near. absurd (b.second.alone az a u away e au (group_back (group_of d u.object) (group_of d z.object) near)))
          (λ j v e′ away′ au av near. h.one_active a j u v e e′ au av (rw (b.near a u e, b.near j v e′) at near)))
          a u eu j v

      resolved : (a : ℕ) (u : CallRecord) → call_at d a ≡ Some u → is_some u.result ≡ is_ended u.state
      resolved = cases (λ a u. is_some u.result ≡ is_ended u.state) b.first.resolved b.second.resolved (λ a u e away. h.resolved a u e)

      calling : (a j : ℕ) (u : CallRecord) → call_at d a ≡ Some u → u.state ≡ state.Calling j → HasCaller d a j
      calling a j u e = cases (λ a u. u.state ≡ state.Calling j → HasCaller d a j) (b.first.calling j) (b.second.calling j)
          (λ a u eu away to. let p = h.calling a j u eu to in still_called a j p.0 away p.1 p.2 p.3) a u e

      callers : (a j : ℕ) (u : CallRecord) → call_at d a ≡ Some u → is_unfinished u.state ≡ true → u.caller ≡ Some j → WaitsFor d a j u
      callers a j u e = cases (λ a u. is_unfinished u.state ≡ true → u.caller ≡ Some j → WaitsFor d a j u) (b.first.callers j) (b.second.callers j)
          (λ a u eu away open_ own. (
          let p = h.callers a j u eu open_ own in
          let off : IsOther n k j = (
            λ at. b.first.waits_not a p.0 away (ap (call_at c) (sym at) ∙ p.1) p.2,
            λ at. b.second.waits_not a p.0 away (ap (call_at c) (sym at) ∙ p.1) p.2,
          ) in
          (p.0, b.elsewhere j off ∙ p.1, p.2, rw (b.near j p.0 p.1, b.near a u eu) p.3)
          )) a u e

group_lasts : (c d : Configuration) → HaveObjects c → GroupsStay c d → (a : ℕ) (u : CallRecord) → call_at c a ≡ Some u → group_of d u.object ≡ group_of c u.object
group_lasts c d objects stay a u e = let p = objects a u e in stay u.object p.0 p.1

-- What one call has become, where the others are as they were.
pub record Alters (c d : Configuration) (n : ℕ) (x y : CallRecord) : Type 0 where
  pub calls : d.calls ≡ with_item_at c.calls n y
  pub object : y.object ≡ x.object
  pub caller : y.caller ≡ x.caller
  pub resolved : is_some y.result ≡ is_ended y.state
  pub was_not_calling : (k : ℕ) → x.state ≡ state.Calling k → ⊥
  pub not_calling : (k : ℕ) → y.state ≡ state.Calling k → ⊥
  pub was_open : is_unfinished y.state ≡ true → is_unfinished x.state ≡ true
  pub stays_open : (k : ℕ) → x.caller ≡ Some k → is_unfinished x.state ≡ true → is_unfinished y.state ≡ true
  pub alone : is_active y.state ≡ true → (k : ℕ) (z : CallRecord) → call_at c k ≡ Some z → is_active z.state ≡ true → Beside c x z → n ≡ k
  pub counts : d.returned + d.answered + weight y.state ≡ c.returned + c.answered + weight x.state

module _ (c d : Configuration) (objects : HaveObjects c) (stay : GroupsStay c d) (h : InOrder c) (n : ℕ) (x y : CallRecord) (there : call_at c n ≡ Some x)
    (b : Alters c d n x y) where
  call_d : (a : ℕ) → call_at d a ≡ item_at (with_item_at c.calls n y) a
  call_d a = ap (λ (l : List CallRecord). item_at l a) b.calls

  still : (a : ℕ) → (a ≡ n → ⊥) → call_at d a ≡ call_at c a
  still a ne = call_d a ∙ put_other c.calls n a y ne

  group_y : group_of d y.object ≡ group_of c x.object
  group_y = ap (group_of d) b.object ∙ group_lasts c d objects stay n x there

  -- x waits for none
  waits_none : (a : ℕ) (v : CallRecord) → call_at c n ≡ Some v → v.state ≡ state.Calling a → ⊥
  waits_none a v e to = b.was_not_calling a (ap (λ (z : CallRecord). z.state) (known (sym there ∙ e)) ∙ to)

  change_fits : Fits c d n n n y
  change_fits = record {
    there = call_d n ∙ put_here c.calls n x y there;
    alone = λ ay j v away e av near. away.0 (sym (b.alone ay j v e av (rw (group_y, group_lasts c d objects stay j v e) at near)));
    resolved = b.resolved;
    calling = λ j to. absurd (b.not_calling j to);
    callers = λ j open_ own. (
        let p = h.callers n j x there (b.was_open open_) (sym b.caller ∙ own) in (
          p.0,
          still j (λ at. waits_none n p.0 (ap (call_at c) (sym at) ∙ p.1) p.2) ∙ p.1,
          p.2,
          rw (group_lasts c d objects stay j p.0 p.1, group_y) p.3,
        )
        );
    called = λ a v away e own open_. (
        let same : v ≡ x = known (sym e ∙ there) in
        let caller : x.caller ≡ Some a = ap (λ (z : CallRecord). z.caller) (sym same) ∙ own in
        (b.caller ∙ caller, b.stays_open a caller (ap (λ (z : CallRecord). is_unfinished z.state) (sym same) ∙ open_))
        );
    waits_not = λ a v away. waits_none a v;
  }

  pub change_ordered : InOrder d
  change_ordered = changes_ordered c d h n n y y (record {
    elsewhere = λ a away. still a away.0;
    near = group_lasts c d objects stay;
    first = change_fits;
    second = change_fits;
    apart = λ ay az near. refl;
    balance = (
        let all = total_put c.calls n x y there in
        let long = length_put c.calls n y in
        let before = h.balance in
        let counts = b.counts in
        rw b.calls (omega arith)
        );
    few = (let long = length_put c.calls n y in let before = h.few in rw b.calls (omega arith));
  })

-- there is no call behind the last
pub beyond : (c : Configuration) (a : ℕ) (u : CallRecord) → call_at c a ≡ Some u → a ≡ length c.calls + 1 → ⊥
beyond c zero u e at = none-some u e
beyond c (suc a) u e at = let lt = slice_get_within c.calls a u e in absurd (omega arith)

-- A call that is added.
pub record Adds (c d : Configuration) (y : CallRecord) : Type 0 where
  pub calls : d.calls ≡ c.calls ++ y ∷ []
  pub no_caller : y.caller ≡ None
  pub resolved : is_some y.result ≡ is_ended y.state
  pub not_active : is_active y.state ≡ false
  pub not_calling : (k : ℕ) → y.state ≡ state.Calling k → ⊥
  pub room : length c.calls < 128
  pub counts : d.returned + d.answered + weight y.state ≡ c.returned + c.answered + 1

module _ (c d : Configuration) (objects : HaveObjects c) (stay : GroupsStay c d) (h : InOrder c) (y : CallRecord) (b : Adds c d y) where
  abbrev last : ℕ
  last = length c.calls + 1

  more_at : (a : ℕ) → call_at d a ≡ item_at (c.calls ++ y ∷ []) a
  more_at a = ap (λ (l : List CallRecord). item_at l a) b.calls

  more_fits : Fits c d last last last y
  more_fits = record {
    there = more_at last ∙ push_new c.calls y;
    alone = λ ay j v away e av near. false≢true (sym b.not_active ∙ ay);
    resolved = b.resolved;
    calling = λ j to. absurd (b.not_calling j to);
    callers = λ j open_ own. absurd (none-some j (sym b.no_caller ∙ own));
    called = λ a v away e own open_. absurd (beyond c last v e refl);
    waits_not = λ a v away e to. beyond c last v e refl;
  }

  pub more_ordered : InOrder d
  more_ordered = changes_ordered c d h last last y y (record {
    elsewhere = λ a away. more_at a ∙ push_other c.calls y a away.0;
    near = group_lasts c d objects stay;
    first = more_fits;
    second = more_fits;
    apart = λ ay az near. refl;
    balance = (
        let all = total_push c.calls y in
        let long = length_push c.calls y in
        let before = h.balance in
        let counts = b.counts in
        rw b.calls (omega arith)
        );
    few = (let long = length_push c.calls y in let room = b.room in rw b.calls (omega arith));
  })
