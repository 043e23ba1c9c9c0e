-- A changed configuration is consistent.
use Rattle.std.proofs.Common.{◌≡◌, ℕ, zero, suc, ◌+◌, ◌-◌, ◌≤◌, ◌<◌, Bool, true, false, cond, not, ◌&&◌, ◌||◌, List, [], ◌∷◌, ◌++◌, length, get_or, Some, None, Option, refl, sym, ap, ◌∙◌, inl, inr, arith, nat_lt}
use Rattle.std.specs.List.{count_by, list_any, position, slice_get}
use Rattle.std.specs.Prelude.{replicate, slice_set, ◌==◌}
use Rattle.std.proofs.lemmas.Bool.{cases_Bool, eqb-true, eq-eqb, true≢false}
use Rattle.std.proofs.lemmas.List.{get_or-set_same, get_or-set_other}
use Rattle.std.proofs.lemmas.List.Sums.{count_by-le-length, position_or_len_is}
use Rattle.std.proofs.lemmas.Option.{none-some, slice_get-get_or, slice_get_past}
use Rattle.rules.proofs.Rows.{known}
use Rattle.syntax.specs.Rows.{given}
use Rattle.evaluation.specs.declared.value.Value.{Value}
use Rattle.steps.specs.declared.records.CallRecord.{CallRecord}
use Rattle.steps.specs.declared.records.ObjectRecord.{ObjectRecord}
use Rattle.steps.specs.Changes.{as_ended, with_item_at, with_field, with_field_of}
use Rattle.steps.specs.Configurations.{Configuration, item_at, call_at, group_of, same_group}
use Rattle.steps.specs.States.{is_active, is_ended}
use Rattle.steps.specs.Steps.{is_active_in, is_busy}
use Rattle.steps.proofs.Counting.{length_put, length_push, count_put, count_push, passing, counted}
use Rattle.steps.proofs.Items.{put_cases, put_here, put_other, push_cases, push_other, same_or}
use Rattle.run_state.specs.Changes.{one_more, one_fewer, recount, call_with_result}
use Rattle.run_state.specs.Consistent.{IsConsistent, InGroups, is_ended_call, is_ended_at}

-- an item found by its index
pub found : {A : Type 0} (xs : List A) (n i : ℕ) (y : A) → n ≡ i + 1 → i < length xs → y ≡ get_or xs i y → item_at xs n ≡ Some y
found xs n i y e lt v =
    let k : n ≡ suc i = omega (arith, e) in
    ap (item_at xs) k ∙ slice_get-get_or xs i y lt ∙ ap (λ (z : _). Some z) (sym v)

pub put_is : {A : Type 0} (xs : List A) (n i : ℕ) (y : A) → n ≡ i + 1 → with_item_at xs n y ≡ slice_set xs i y
put_is xs n i y e = let k : n ≡ suc i = omega (arith, e) in ap (λ (k : ℕ). with_item_at xs k y) k

-- whether some pass, and how many do
any_step : (b r : Bool) (k : ℕ) → r ≡ nat_lt 0 k → (b || r) ≡ nat_lt 0 (cond b 1 0 + k)
any_step true r k e = grind arith
any_step false r k e = let k0 : 0 + k ≡ k = omega arith in e ∙ ap (nat_lt 0) (sym k0)

any_passing : {A : Type 0} (p : A → Bool) (xs : List A) → list_any p xs ≡ nat_lt 0 (passing p xs)
any_passing p [] = refl
any_passing p (x ∷ xs) = any_step (p x) (list_any p xs) (passing p xs) (any_passing p xs)

pub any_counted : {A : Type 0} (p : A → Bool) (xs : List A) → list_any p xs ≡ nat_lt 0 (count_by p xs)
any_counted p xs = any_passing p xs ∙ ap (nat_lt 0) (counted p xs)

no_group : (g : Option ℕ) → same_group g None ≡ false
no_group None = refl
no_group (Some a) = refl

and_false : (b c : Bool) → c ≡ false → (b && c) ≡ false
and_false true c e = e
and_false false c e = refl

or_false : (b c : Bool) → b ≡ false → c ≡ false → (b || c) ≡ false
or_false b c e f = grind arith

none_busy : (c : Configuration) (xs : List CallRecord) → list_any (is_active_in c None) xs ≡ false
none_busy c [] = refl
none_busy c (x ∷ xs) = or_false _ _ (and_false (is_active x.state) _ (no_group (group_of c x.object))) (none_busy c xs)

pub no_busy : (c : Configuration) → is_busy c None ≡ false
no_busy c = none_busy c c.calls

pub busy_is : {c : Configuration} {t : List ℕ} (g : ℕ) → IsConsistent c t → nat_lt 0 (get_or t g 0) ≡ is_busy c (Some g)
busy_is {c} g k = ap (nat_lt 0) (k.active g) ∙ sym (any_counted (is_active_in c (Some g)) c.calls)

-- the groups that are named
in_more : (k l : ℕ) (g : Option ℕ) → k ≤ l → InGroups k g → InGroups l g
in_more k l None h i = tt
in_more k l (Some g) h i = omega (arith, h, i)

module _ {c : Configuration} {t : List ℕ} (k : IsConsistent c t) where
  in_64 : (o : ℕ) (q : Option ObjectRecord) → item_at c.objects o ≡ q → InGroups 64 (given q (λ y. y.group))
  in_64 o None e = tt
  in_64 o (Some y) e = in_more c.groups 64 y.group (omega (arith, k.groups, k.objects)) (k.groups_there o y e)

  pub group_in : (o : ℕ) → InGroups 64 (group_of c o)
  group_in o = in_64 o (item_at c.objects o) refl

  pub table_few : (g : ℕ) → get_or t g 0 ≤ 128
  table_few g = omega (arith, k.active g, k.calls, count_by-le-length (is_active_in c (Some g)) c.calls)

-- the table of the groups
more_at : (t : List ℕ) (g j : ℕ) → length t ≡ 65 → g ≤ 64 → get_or t g 0 ≤ 128 → get_or (one_more t (Some g)) j 0 ≡ get_or t j 0 + cond (g == j) 1 0
more_at t g j size in_table few =
    let ok : (nat_lt g 65 && nat_lt (get_or t g 0) 1000) ≡ true = grind (arith, in_table, few) in
    rw ok (elim (cases_Bool (g == j)) [
      | inl hit ↦ (
          let same = eqb-true g j hit in
          let there : g < length t = omega (arith, size, in_table) in
          rw (hit, ← same) (get_or-set_same t g (get_or t g 0 + 1) 0 there)
          )
      | inr miss ↦ (
          let other : (j ≡ g → ⊥) = λ e. absurd (grind (arith, miss, eq-eqb g j (sym e))) in
          let zero_more : get_or t j 0 ≡ get_or t j 0 + 0 = omega arith in
          rw miss (get_or-set_other t g j (get_or t g 0 + 1) 0 other ∙ zero_more)
          )
    ])

fewer_at : (t : List ℕ) (g j : ℕ) → length t ≡ 65 → g ≤ 64 → 1 ≤ get_or t g 0 → get_or (one_fewer t (Some g)) j 0 + cond (g == j) 1 0 ≡ get_or t j 0
fewer_at t g j size in_table some =
    let ok : (nat_lt g 65 && nat_lt 0 (get_or t g 0)) ≡ true = grind (arith, in_table, some) in
    rw ok (elim (cases_Bool (g == j)) [
      | inl hit ↦ (
          let same = eqb-true g j hit in
          let there : g < length t = omega (arith, size, in_table) in
          let set = get_or-set_same t g (get_or t g 0 - 1) 0 there in
          rw (hit, ← same) (omega (arith, set, some))
          )
      | inr miss ↦ (
          let other : (j ≡ g → ⊥) = λ e. absurd (grind (arith, miss, eq-eqb g j (sym e))) in
          let set = get_or-set_other t g j (get_or t g 0 - 1) 0 other in
          rw miss (omega (arith, set))
          )
    ])

-- as many entries as before
size_if : (b : Bool) (t u : List ℕ) → length u ≡ length t → length (cond b u t) ≡ length t
size_if true t u e = e
size_if false t u e = refl

set_size : (t : List ℕ) (g v : ℕ) → length (slice_set t g v) ≡ length t
set_size t g v = length_put t (suc g) v

recount_size : (t : List ℕ) (q : Option ℕ) (was is : Bool) → length (recount t q was is) ≡ length t
recount_size t q true true = refl
recount_size t q false false = refl
recount_size t None true false = refl
recount_size t None false true = refl
recount_size t (Some g) true false = size_if (nat_lt g 65 && nat_lt 0 (get_or t g 0)) t _ (set_size t g (get_or t g 0 - 1))
recount_size t (Some g) false true = size_if (nat_lt g 65 && nat_lt (get_or t g 0) 1000) t _ (set_size t g (get_or t g 0 + 1))

pub recount_at : (t : List ℕ) (q : Option ℕ) (was is : Bool) (j : ℕ) → length t ≡ 65 → InGroups 64 q → ((g : ℕ) → get_or t g 0 ≤ 128) →
    ((g : ℕ) → was ≡ true → is ≡ false → q ≡ Some g → 1 ≤ get_or t g 0) →
    get_or (recount t q was is) j 0 + cond {A = ℕ} (was && same_group q (Some j)) 1 0 ≡ get_or t j 0 + cond {A = ℕ} (is && same_group q (Some j)) 1 0
recount_at t q true true j size in_table few some = refl
recount_at t q false false j size in_table few some = refl
recount_at t None true false j size in_table few some = refl
recount_at t None false true j size in_table few some = refl
recount_at t (Some g) true false j size in_table few some = let f = fewer_at t g j size in_table (some g refl refl refl) in omega (arith, f)
recount_at t (Some g) false true j size in_table few some = let m = more_at t g j size in_table (few g) in omega (arith, m)

module _ {c : Configuration} {t : List ℕ} (k : IsConsistent c t) (n i : ℕ) (x y : CallRecord) (at : n ≡ i + 1) (e : item_at c.calls n ≡ Some x) (object : y.object ≡ x.object) where
  calls_set : with_item_at c.calls n y ≡ slice_set c.calls i y
  calls_set = put_is c.calls n i y at

  -- what was active in a group is counted there
  counted_there : (g : ℕ) → is_active x.state ≡ true → is_active y.state ≡ false → group_of c x.object ≡ Some g → 1 ≤ get_or t g 0
  counted_there g was is there =
      let p = count_put (is_active_in c (Some g)) c.calls n x y e in
      let before : is_active_in c (Some g) x ≡ true = rw (was, there) (grind (arith, eq-eqb g g refl)) in
      let after : is_active_in c (Some g) y ≡ false = rw is refl in
      let a : cond {A = ℕ} (is_active_in c (Some g) x) 1 0 ≡ 1 = ap (λ (b : Bool). cond {A = ℕ} b 1 0) before in
      let b : cond {A = ℕ} (is_active_in c (Some g) y) 1 0 ≡ 0 = ap (λ (b : Bool). cond {A = ℕ} b 1 0) after in
      omega (arith, p, a, b, k.active g)

  pub consistent_put : (u : List ℕ) (returned answered : ℕ) → length u ≡ 65 →
      returned + answered + cond {A = ℕ} (is_ended_call x) 1 0 ≡ c.returned + c.answered + cond {A = ℕ} (is_ended_call y) 1 0 →
      ((g : ℕ) → get_or u g 0 + cond {A = ℕ} (is_active_in c (Some g) x) 1 0 ≡ get_or t g 0 + cond {A = ℕ} (is_active_in c (Some g) y) 1 0) →
      IsConsistent (record c { calls = slice_set c.calls i y; returned = returned; answered = answered }) u
  consistent_put u returned answered size ends table = rw (← calls_set) (record {
    size = size;
    calls = omega (arith, k.calls, length_put c.calls n y);
    objects = k.objects;
    groups = k.groups;
    counted = omega (arith, k.counted, ends, count_put is_ended_call c.calls n x y e);
    groups_there = k.groups_there;
    objects_there = put_cases c.calls n x y e (λ (j : ℕ) (z : CallRecord). z.object ≤ length c.objects) (omega (arith, object, k.objects_there n x e)) (λ j z there ne. k.objects_there j z there);
    active = λ g. omega (arith, table g, k.active g, count_put (is_active_in c (Some g)) c.calls n x y e);
  })

  -- a call changed that is in the state it was in
  pub consistent_same : y.state ≡ x.state → IsConsistent (record c { calls = slice_set c.calls i y }) t
  consistent_same state =
      let ends : cond {A = ℕ} (is_ended_call y) 1 0 ≡ cond {A = ℕ} (is_ended_call x) 1 0 = ap (λ (s : _). cond {A = ℕ} (is_ended s) 1 0) state in
      consistent_put t c.returned c.answered k.size (omega (arith, ends))
      (λ g. let same : cond {A = ℕ} (is_active_in c (Some g) y) 1 0 ≡ cond {A = ℕ} (is_active_in c (Some g) x) 1 0 = (λ j. cond {A = ℕ} (is_active (state j) && same_group (group_of c (object j)) (Some g)) 1 0) in omega (arith, same))

  -- a call in another state
  pub consistent_state : (returned answered : ℕ) → returned + answered + cond {A = ℕ} (is_ended_call x) 1 0 ≡ c.returned + c.answered + cond {A = ℕ} (is_ended_call y) 1 0 →
      IsConsistent (record c { calls = slice_set c.calls i y; returned = returned; answered = answered }) (recount t (group_of c x.object) (is_active x.state) (is_active y.state))
  consistent_state returned answered ends =
      consistent_put (recount t (group_of c x.object) (is_active x.state) (is_active y.state)) returned answered
      (recount_size t (group_of c x.object) (is_active x.state) (is_active y.state) ∙ k.size) ends
      (λ g.
      let same : cond {A = ℕ} (is_active_in c (Some g) y) 1 0 ≡ cond {A = ℕ} (is_active y.state && same_group (group_of c x.object) (Some g)) 1 0 = (λ j. cond {A = ℕ} (is_active y.state && same_group (group_of c (object j)) (Some g)) 1 0) in
      let r = recount_at t (group_of c x.object) (is_active x.state) (is_active y.state) g k.size (group_in k x.object) (table_few k) counted_there in
      r ∙ ap (λ (v : ℕ). get_or t g 0 + v) (sym same))

-- a new call
pub consistent_push : {c : Configuration} {t : List ℕ} (y : CallRecord) → IsConsistent c t → length c.calls < 128 → y.object ≤ length c.objects → is_ended_call y ≡ false →
    IsConsistent (record c { calls = c.calls ++ y ∷ [] }) (recount t (group_of c y.object) false (is_active y.state))
consistent_push {c} {t} y k room object goes =
    let u = recount t (group_of c y.object) false (is_active y.state) in
    let ends : cond {A = ℕ} (is_ended_call y) 1 0 ≡ 0 = ap (λ (b : Bool). cond {A = ℕ} b 1 0) goes in
    record {
      size = recount_size t (group_of c y.object) false (is_active y.state) ∙ k.size;
      calls = omega (arith, length_push c.calls y, room);
      objects = k.objects;
      groups = k.groups;
      counted = omega (arith, k.counted, ends, count_push is_ended_call c.calls y);
      groups_there = k.groups_there;
      objects_there = push_cases c.calls y (λ (j : ℕ) (z : CallRecord). z.object ≤ length c.objects) object k.objects_there;
      active = λ g.
          let r = recount_at t (group_of c y.object) false (is_active y.state) g k.size (group_in k y.object) (table_few k) (λ g was is there. absurd (true≢false (sym was))) in
          let none : cond {A = ℕ} (false && same_group (group_of c y.object) (Some g)) 1 0 ≡ 0 = refl in
          omega (arith, r, none, k.active g, count_push (is_active_in c (Some g)) c.calls y);
    }

-- a call in place of another
pub changed_is : (c : Configuration) (n i : ℕ) (x y : CallRecord) (f : Option CallRecord → Configuration) → n ≡ i + 1 → item_at c.calls n ≡ Some x →
    f (Some x) ≡ record c { calls = with_item_at c.calls n y } → record c { calls = slice_set c.calls i y } ≡ f (call_at c n)
changed_is c n i x y f at e h = ap (λ (xs : List CallRecord). record c { calls = xs }) (sym (put_is c.calls n i y at)) ∙ sym h ∙ ap f (sym e)

-- tests that agree on all that are there count as many
passing_same : {A : Type 0} (p q : A → Bool) (xs : List A) → ((i : ℕ) (x : A) → slice_get xs i ≡ Some x → p x ≡ q x) → passing p xs ≡ passing q xs
passing_same p q [] h = refl
passing_same p q (x ∷ xs) h =
    let here : cond {A = ℕ} (p x) 1 0 ≡ cond {A = ℕ} (q x) 1 0 = ap (λ (b : Bool). cond {A = ℕ} b 1 0) (h 0 x refl) in
    let a : passing p (x ∷ xs) ≡ cond {A = ℕ} (p x) 1 0 + passing p xs = refl in
    let b : passing q (x ∷ xs) ≡ cond {A = ℕ} (q x) 1 0 + passing q xs = refl in
    omega (arith, passing_same p q xs (λ i y e. h (suc i) y e))

count_same : {A : Type 0} (p q : A → Bool) (xs : List A) → ((n : ℕ) (x : A) → item_at xs n ≡ Some x → p x ≡ q x) → count_by p xs ≡ count_by q xs
count_same p q xs h = sym (counted p xs) ∙ passing_same p q xs (λ i x e. h (suc i) x e) ∙ counted q xs

in_groups_put : (xs : List ObjectRecord) (n : ℕ) (o p : ObjectRecord) → item_at xs n ≡ Some o → p.group ≡ o.group → (j : ℕ) →
    given {A = ObjectRecord} {B = ℕ} (item_at (with_item_at xs n p) j) (λ y. y.group) ≡ given (item_at xs j) (λ y. y.group)
in_groups_put xs n o p e same j = elim (same_or n j) [
  | inl at ↦ rw at (ap (λ (q : Option ObjectRecord). given {A = ObjectRecord} {B = ℕ} q (λ y. y.group)) (put_here xs n o p e) ∙ same ∙ sym (ap (λ (q : Option ObjectRecord). given {A = ObjectRecord} {B = ℕ} q (λ y. y.group)) e))
  | inr ne ↦ ap (λ (q : Option ObjectRecord). given {A = ObjectRecord} {B = ℕ} q (λ y. y.group)) (put_other xs n j p ne)
]

-- an object in place of another of its group
pub consistent_object : {c : Configuration} {t : List ℕ} → IsConsistent c t → (n i : ℕ) (o p : ObjectRecord) → n ≡ i + 1 → item_at c.objects n ≡ Some o → p.group ≡ o.group → IsConsistent (record c { objects = slice_set c.objects i p }) t
consistent_object {c} {t} k n i o p at e same =
    let size = length_put c.objects n p in
    rw (← put_is c.objects n i p at) (record {
      size = k.size;
      calls = k.calls;
      objects = omega (arith, k.objects, size);
      groups = omega (arith, k.groups, size);
      counted = k.counted;
      groups_there = put_cases c.objects n o p e (λ (j : ℕ) (z : ObjectRecord). InGroups c.groups z.group) (rw same (k.groups_there n o e)) (λ j z there ne. k.groups_there j z there);
      objects_there = λ j x there. omega (arith, size, k.objects_there j x there);
      active = λ g. k.active g ∙ count_same (is_active_in c (Some g)) (is_active_in (record c { objects = with_item_at c.objects n p }) (Some g)) c.calls
          (λ j x there. ap (λ (q : Option ℕ). is_active x.state && same_group q (Some g)) (sym (in_groups_put c.objects n o p e same x.object)));
    })

-- a new object
pub consistent_push_object : {c : Configuration} {t : List ℕ} → IsConsistent c t → (o : ObjectRecord) (new : Bool) → length c.objects < 64 → InGroups (c.groups + cond new 1 0) o.group →
    IsConsistent (record c { objects = c.objects ++ o ∷ []; groups = c.groups + cond new 1 0 }) t
consistent_push_object {c} {t} k o new room group =
    let size = length_push c.objects o in
    let one : cond {A = ℕ} new 1 0 ≤ 1 = at_most new in
    record {
      size = k.size;
      calls = k.calls;
      objects = omega (arith, room, size);
      groups = omega (arith, k.groups, size, one);
      counted = k.counted;
      groups_there = push_cases c.objects o (λ (j : ℕ) (z : ObjectRecord). InGroups (c.groups + cond {A = ℕ} new 1 0) z.group) group
          (λ j z there. in_more c.groups (c.groups + cond {A = ℕ} new 1 0) z.group (omega arith) (k.groups_there j z there));
      objects_there = λ j x there. omega (arith, size, k.objects_there j x there);
      active = λ g. k.active g ∙ count_same (is_active_in c (Some g)) (is_active_in (record c { objects = c.objects ++ o ∷ [] }) (Some g)) c.calls
          (λ j x there.
          let within = k.objects_there j x there in
          ap (λ (q : Option ObjectRecord). is_active x.state && same_group (given {A = ObjectRecord} {B = ℕ} q (λ y. y.group)) (Some g)) (sym (push_other c.objects o x.object (λ e. absurd (past within e)))));
    }
  where
    at_most : (b : Bool) → cond {A = ℕ} b 1 0 ≤ 1
    at_most true = omega arith
    at_most false = omega arith

    past : {a b : ℕ} → a ≤ b → a ≡ b + 1 → ⊥
    past h e = omega (arith, h, e)

-- an object in place of another
pub field_is : (c : Configuration) (n i k : ℕ) (v : Value) (o : ObjectRecord) → n ≡ i + 1 → item_at c.objects n ≡ Some o →
    record c { objects = slice_set c.objects i (record o { fields = slice_set o.fields k v }) } ≡ with_field c n k v
field_is c n i k v o at e =
    ap (λ (xs : List ObjectRecord). record c { objects = xs }) (sym (put_is c.objects n i (record o { fields = slice_set o.fields k v }) at)) ∙ sym (ap (with_field_of c n k v) e)

-- a call that ended
pub result_is : (c : Configuration) (n i : ℕ) (x : CallRecord) (v : Value) (reply : Bool) (returned answered : ℕ) → n ≡ i + 1 → item_at c.calls n ≡ Some x →
    returned ≡ c.returned + cond (not reply) 1 0 → answered ≡ c.answered + cond reply 1 0 →
    record c { calls = slice_set c.calls i (as_ended x v); returned = returned; answered = answered } ≡ call_with_result c n v reply (call_at c n)
result_is c n i x v true returned answered at e r a =
    let r0 : returned ≡ c.returned = omega (arith, r) in
    (λ j. record c { calls = (sym (put_is c.calls n i (as_ended x v) at)) j; returned = r0 j; answered = a j }) ∙ sym (ap (call_with_result c n v true) e)
result_is c n i x v false returned answered at e r a =
    let a0 : answered ≡ c.answered = omega (arith, a) in
    (λ j. record c { calls = (sym (put_is c.calls n i (as_ended x v) at)) j; returned = r j; answered = a0 j }) ∙ sym (ap (call_with_result c n v false) e)

pub none_at : {A : Type 0} (xs : List A) (n i : ℕ) → n ≡ i + 1 → length xs ≤ i → item_at xs n ≡ None
none_at xs n i at past = let k : n ≡ suc i = omega (arith, at) in ap (item_at xs) k ∙ slice_get_past xs i past

pub same_found : {A : Type 0} (xs : List A) (n i : ℕ) (x y : A) → n ≡ i + 1 → i < length xs → x ≡ get_or xs i x → y ≡ get_or xs i y → x ≡ y
same_found xs n i x y at lt a b = known (sym (found xs n i x at lt a) ∙ found xs n i y at lt b)

pub not_over : (c : Configuration) (n : ℕ) (x : CallRecord) → item_at c.calls n ≡ Some x → is_ended_at (call_at c n) ≡ false → is_ended_call x ≡ false
not_over c n x e h = sym (ap is_ended_at e) ∙ h

pub zero_if : (b : Bool) → b ≡ false → cond {A = ℕ} b 1 0 ≡ 0
zero_if b e = ap (λ (b : Bool). cond {A = ℕ} b 1 0) e

pub either : (b : Bool) → cond {A = ℕ} b 1 0 + cond {A = ℕ} (not b) 1 0 ≡ 1
either true = refl
either false = refl

pub in_groups : {c : Configuration} {t : List ℕ} → IsConsistent c t → (o : ℕ) → InGroups c.groups (group_of c o)
in_groups {c} k o = at (item_at c.objects o) refl
  where
    at : (q : Option ObjectRecord) → item_at c.objects o ≡ q → InGroups c.groups (given q (λ y. y.group))
    at None e = tt
    at (Some y) e = k.groups_there o y e

-- the first place that passes, and that none does
pub place_hit : {A : Type 0} (p : A → Bool) (xs : List A) (i : ℕ) (d : A) → i < length xs → ((k : ℕ) → k < i → p (get_or xs k d) ≡ false) → p (get_or xs i d) ≡ true → position p xs ≡ Some i
place_hit p xs i d lt before hit =
    let at = position_or_len_is p xs i d (omega (arith, lt)) before (λ within. hit) in
    let within : nat_lt i (length xs) ≡ true = grind (arith, lt) in
    rw at (rw within refl)

pub place_none : {A : Type 0} (p : A → Bool) (xs : List A) → ((k : ℕ) (d : A) → k < length xs → p (get_or xs k d) ≡ false) → position p xs ≡ None
place_none p [] h = refl
place_none p (x ∷ xs) h =
    let at = position_or_len_is p (x ∷ xs) (length (x ∷ xs)) x (omega arith) (λ k lt. h k x lt) (λ within. absurd (self_lt within)) in
    let past : nat_lt (length (x ∷ xs)) (length (x ∷ xs)) ≡ false = grind arith in
    rw at (rw past refl)
  where
    self_lt : {n : ℕ} → n < n → ⊥
    self_lt h = omega (arith, h)

zeros : (n g : ℕ) → get_or (replicate {A = ℕ} n 0) g 0 ≡ 0
zeros zero g = refl
zeros (suc n) zero = refl
zeros (suc n) (suc g) = zeros n g

-- of a configuration in which there is nothing
pub consistent_none : (objects : List ObjectRecord) (calls : List CallRecord) → objects ≡ [] → calls ≡ [] → IsConsistent (record { objects = objects; calls = calls; cells = []; groups = 0; returned = 0; answered = 0 }) (replicate 65 0)
consistent_none objects calls p q = rw (p, q) (record {
  size = refl;
  calls = omega arith;
  objects = omega arith;
  groups = omega arith;
  counted = refl;
  groups_there = none;
  objects_there = no_calls;
  active = λ g. zeros 65 g;
})
  where
    none : (n : ℕ) (o : ObjectRecord) → item_at [] n ≡ Some o → InGroups 0 o.group
    none zero o e = absurd (none-some o e)
    none (suc n) o e = absurd (none-some o e)

    no_calls : (n : ℕ) (x : CallRecord) → item_at [] n ≡ Some x → x.object ≤ 0
    no_calls zero x e = absurd (none-some x e)
    no_calls (suc n) x e = absurd (none-some x e)
