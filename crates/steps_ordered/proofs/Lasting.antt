-- Calls and objects last where a call changes, where one is added, and where an object changes.
use Rattle.std.proofs.Common.{◌≡◌, ℕ, ◌+◌, false, not, List, [], ◌∷◌, ◌++◌, Some, None, Option, refl, sym, ap, ◌∙◌, inl, inr, arith}
use Rattle.std.specs.Prelude.{slice_set, ◌&&◌, ◌||◌}
use Rattle.std.proofs.lemmas.Option.{none-some}
use Rattle.rules.proofs.Rows.{known}
use Rattle.syntax.specs.Rows.{given}
use Rattle.evaluation.specs.declared.value.Value.{Value}
use Rattle.steps.specs.declared.records.CallRecord.{CallRecord}
use Rattle.steps.specs.declared.records.ObjectRecord.{ObjectRecord}
use Rattle.steps.specs.Changes.{with_field_of, with_item_at}
use Rattle.steps.specs.Configurations.{Configuration, call_at, item_at, object_at}
use Rattle.steps.specs.States.{is_ended, is_unfinished}
use Rattle.steps.proofs.Items.{push_cases, push_old, put_here, put_other, same_or}
use Rattle.steps_ordered.specs.Ending.{Finish, ends, replies_counted, returns, returns_counted}
use Rattle.steps_ordered.specs.Lasting.{IsSameCall, IsSameObject}
use Rattle.steps_ordered.proofs.Ordering.{GroupsStay}

-- What call k, which was x, is now.
pub record CallLasts (f : Finish) (k : ℕ) (x y : CallRecord) : Type 0 where
  pub same : IsSameCall x y
  pub value : (v : Value) → x.result ≡ Some v → y.result ≡ Some v
  pub unfinished : is_unfinished y.state ≡ (not (returns f k) && is_unfinished x.state)
  pub ended : is_ended y.state ≡ (ends f k || is_ended x.state)

abbrev pub ObjectsLast : Configuration → Configuration → Type 0
ObjectsLast c d = (n : ℕ) (o : ObjectRecord) → object_at c n ≡ Some o → (p : ObjectRecord) × (object_at d n ≡ Some p) × IsSameObject o p

-- What c was, d is still: calls and objects last, and what ends is counted.
pub record Lasts (c : Configuration) (f : Finish) (d : Configuration) : Type 0 where
  pub calls : (k : ℕ) (x : CallRecord) → call_at c k ≡ Some x → (y : CallRecord) × (call_at d k ≡ Some y) × CallLasts f k x y
  pub new_calls : (k : ℕ) (y : CallRecord) → call_at c k ≡ None → call_at d k ≡ Some y → is_ended y.state ≡ false
  pub objects : ObjectsLast c d
  pub returned : d.returned ≡ c.returned + returns_counted f
  pub answered : d.answered ≡ c.answered + replies_counted f

pub objects_same : (c : Configuration) → ObjectsLast c c
objects_same c n o e = (o, e, record { class = refl; group = refl })

pub objects_then : (c d e : Configuration) → ObjectsLast c d → ObjectsLast d e → ObjectsLast c e
objects_then c d e a b n o there =
    let p = a n o there in
    let q = b n p.0 p.1 in
    (q.0, q.1, record { class = q.2.class ∙ p.2.class; group = q.2.group ∙ p.2.group })

-- an object more
pub objects_push : (c d : Configuration) (p : ObjectRecord) → d.objects ≡ c.objects ++ p ∷ [] → ObjectsLast c d
objects_push c d p more n o there =
    (o, ap (λ (l : List ObjectRecord). item_at l n) more ∙ push_old c.objects p n o there, record { class = refl; group = refl })

-- a field
pub objects_field : (c : Configuration) (n k : ℕ) (v : Value) (p : Option ObjectRecord) → object_at c n ≡ p → ObjectsLast c (with_field_of c n k v p)
objects_field c n k v None e j o there = objects_same c j o there
objects_field c n k v (Some p) e j o there =
    let r : ObjectRecord = record p { fields = slice_set p.fields k v } in
    elim (same_or n j) [
      | inl at ↦ (
          let same : p ≡ o = known (sym e ∙ ap (object_at c) (sym at) ∙ there) in
          let now : item_at (with_item_at c.objects n r) j ≡ Some r = ap (item_at (with_item_at c.objects n r)) at ∙ put_here c.objects n p r e in
          (r, now, record { class = ap (λ (z : ObjectRecord). z.class) same; group = ap (λ (z : ObjectRecord). z.group) same })
          )
      | inr ne ↦ (o, put_other c.objects n j r ne ∙ there, record { class = refl; group = refl })
    ]

-- the groups of objects that last stay
pub groups_stay : (c d : Configuration) → ObjectsLast c d → GroupsStay c d
groups_stay c d last n o e =
    let p = last n o e in
    let group : Option ObjectRecord → Option ℕ = λ z. given z (λ y. y.group) in
    ap group p.1 ∙ p.2.group ∙ sym (ap group e)

module _ (f : Finish) where
  -- a call of which nothing ends
  pub same_lasts : (k : ℕ) (x : CallRecord) → returns f k ≡ false → ends f k ≡ false → CallLasts f k x x
  same_lasts k x after_return over = record {
    same = record { object = refl; method = refl; caller = refl };
    value = λ v e. e;
    unfinished = rw after_return refl;
    ended = rw over refl;
  }

  -- one call changes
  pub lasts_put : (c d : Configuration) (n : ℕ) (x y : CallRecord) → call_at c n ≡ Some x → d.calls ≡ with_item_at c.calls n y → CallLasts f n x y →
      ((k : ℕ) → (k ≡ n → ⊥) → (returns f k ≡ false) × (ends f k ≡ false)) → ObjectsLast c d →
      d.returned ≡ c.returned + returns_counted f → d.answered ≡ c.answered + replies_counted f → Lasts c f d
  lasts_put c d n x y there calls lasts others objects returned answered =
      record { calls = old; new_calls = new; objects = objects; returned = returned; answered = answered }
    where
      at_d : (k : ℕ) → call_at d k ≡ item_at (with_item_at c.calls n y) k
      at_d k = ap (λ (l : List CallRecord). item_at l k) calls

      old : (k : ℕ) (z : CallRecord) → call_at c k ≡ Some z → (u : CallRecord) × (call_at d k ≡ Some u) × CallLasts f k z u
      old k z e = elim (same_or n k) [
        | inl at ↦ (
            let same : x ≡ z = known (sym there ∙ ap (call_at c) (sym at) ∙ e) in
            (y, at_d k ∙ ap (item_at (with_item_at c.calls n y)) at ∙ put_here c.calls n x y there, rw (at, ← same) lasts)
            )
        | inr ne ↦ (let other = others k ne in (z, at_d k ∙ put_other c.calls n k y ne ∙ e, same_lasts k z other.0 other.1))
      ]

      new : (k : ℕ) (z : CallRecord) → call_at c k ≡ None → call_at d k ≡ Some z → is_ended z.state ≡ false
      new k z none e = elim (same_or n k) [
        | inl at ↦ absurd (none-some x (sym none ∙ ap (call_at c) at ∙ there))
        | inr ne ↦ absurd (none-some z (sym none ∙ sym (put_other c.calls n k y ne) ∙ sym (at_d k) ∙ e))
      ]

  -- and then nothing ends
  pub lasts_then : (c d e : Configuration) → Lasts c f d → Lasts d Finish.nothing e → Lasts c f e
  lasts_then c d e a b = record {
    calls = λ k x there. (
        let p = a.calls k x there in
        let q = b.calls k p.0 p.1 in (
          q.0,
          q.1,
          record {
            same = record {
              object = q.2.same.object ∙ p.2.same.object;
              method = q.2.same.method ∙ p.2.same.method;
              caller = q.2.same.caller ∙ p.2.same.caller;
            };
            value = λ v e. q.2.value v (p.2.value v e);
            unfinished = q.2.unfinished ∙ p.2.unfinished;
            ended = q.2.ended ∙ p.2.ended;
          },
        )
        );
    new_calls = λ k z none there. new k z none there (call_at d k) refl;
    objects = objects_then c d e a.objects b.objects;
    returned = (let p = a.returned in let q = b.returned in omega arith);
    answered = (let p = a.answered in let q = b.answered in omega arith);
  }
    where
      new : (k : ℕ) (z : CallRecord) → call_at c k ≡ None → call_at e k ≡ Some z → (o : Option CallRecord) → call_at d k ≡ o → is_ended z.state ≡ false
      new k z none there None between = b.new_calls k z between there
      new k z none there (Some y) between =
          let q = b.calls k y between in
          let same : q.0 ≡ z = known (sym q.1 ∙ there) in
          ap (λ (w : CallRecord). is_ended w.state) (sym same) ∙ q.2.ended ∙ a.new_calls k y none between

-- no call changes
pub lasts_same : (c d : Configuration) → d.calls ≡ c.calls → ObjectsLast c d → d.returned ≡ c.returned → d.answered ≡ c.answered → Lasts c Finish.nothing d
lasts_same c d calls objects returned answered = record {
  calls = λ k x e. (x, ap (λ (l : List CallRecord). item_at l k) calls ∙ e, same_lasts Finish.nothing k x refl refl);
  new_calls = λ k y none e. absurd (none-some y (sym none ∙ sym (ap (λ (l : List CallRecord). item_at l k) calls) ∙ e));
  objects = objects;
  returned = omega arith;
  answered = omega arith;
}

-- a call more
pub lasts_push : (c d : Configuration) (y : CallRecord) → is_ended y.state ≡ false → d.calls ≡ c.calls ++ y ∷ [] → ObjectsLast c d → d.returned ≡ c.returned →
    d.answered ≡ c.answered → Lasts c Finish.nothing d
lasts_push c d y open_ calls objects returned answered = record {
  calls = λ k x e. (x, ap (λ (l : List CallRecord). item_at l k) calls ∙ push_old c.calls y k x e, same_lasts Finish.nothing k x refl refl);
  new_calls = λ k z none e. push_cases c.calls y (λ k z. call_at c k ≡ None → is_ended z.state ≡ false) (λ none. open_)
      (λ k z there none. absurd (none-some z (sym none ∙ there))) k z (sym (ap (λ (l : List CallRecord). item_at l k) calls) ∙ e) none;
  objects = objects;
  returned = omega arith;
  answered = omega arith;
}
