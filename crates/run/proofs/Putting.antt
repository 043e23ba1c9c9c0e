-- Changes of one call after another, and steps that ask nothing of the outside.
use Rattle.std.proofs.Common.{◌≡◌, ℕ, zero, suc, ◌-◌, Bool, true, false, List, [], ◌∷◌, Some, None, Ok, Err, length, Option, refl, sym, ap, subst, ◌∙◌, append-nil, arith}
use Rattle.std.specs.Prelude.{nat_lt, slice_set}
use Rattle.std.proofs.lemmas.List.{take_all}
use Rattle.mapping.specs.Bindings.{since}
use Rattle.evaluation.specs.Plans.{Environment}
use Rattle.steps.specs.declared.refusal.Refusal.{Refusal}
use Rattle.evaluation.specs.declared.value.Value.{Value}
use Rattle.evaluation.specs.Stores.{Longer}
use Rattle.evaluation.specs.Values.{Data}
use Rattle.steps.specs.declared.records.CallRecord.{CallRecord}
use Rattle.steps.specs.declared.records.ObjectRecord.{ObjectRecord}
use Rattle.steps.specs.declared.state.CallState.{CallState}
use Rattle.steps.specs.Changes.{at_statement, with_call, with_cells, with_field, with_field_of, with_item_at, with_slot, with_target}
use Rattle.steps.specs.Configurations.{Configuration, call_at, object_at}
use Rattle.steps.specs.Outcomes.{Outcome, silent}
use Rattle.steps.proofs.Items.{put_here}
use Rattle.run_state.specs.Changes.{call_at_statement, call_in_state, call_with_slot, call_with_target}
use Rattle.run.specs.Choices.{StandsAs}

set_set : {A : Type 0} (xs : List A) (i : ℕ) (a b : A) → slice_set (slice_set xs i a) i b ≡ slice_set xs i b
set_set [] i a b = refl
set_set (x ∷ xs) zero a b = refl
set_set (x ∷ xs) (suc i) a b = ap (λ (ys : List _). x ∷ ys) (set_set xs i a b)

put_put : {A : Type 0} (xs : List A) (n : ℕ) (a b : A) → with_item_at (with_item_at xs n a) n b ≡ with_item_at xs n b
put_put xs zero a b = refl
put_put xs (suc n) a b = set_set xs n a b

pub twice : (c : Configuration) (n : ℕ) (a b : CallRecord) → with_call (with_call c n a) n b ≡ with_call c n b
twice c n a b = ap (λ (xs : List CallRecord). record c { calls = xs }) (put_put c.calls n a b)

pub longer_same : (cs : List Data) → Longer cs cs
longer_same cs = ([], sym (append-nil cs))

pub stands_silent : {out : Outcome} {d : Configuration} (c c' : Configuration) → out ≡ silent d → c' ≡ d → Longer c.cells c'.cells → StandsAs out c (Ok tt) c'
stands_silent c c' h made grows = subst (λ (out : Outcome). StandsAs out c (Ok tt) c') (sym h) (refl, made, grows, refl)

-- an object changes, and a call
field_call : (c : Configuration) (n : ℕ) (z : CallRecord) (o k : ℕ) (v : Value) (q : Option ObjectRecord) → with_field_of (with_call c n z) o k v q ≡ with_call (with_field_of c o k v q) n z
field_call c n z o k v None = refl
field_call c n z o k v (Some y) = refl

-- what is with_target, where the call was changed before
slot_twice : (c : Configuration) (n : ℕ) (y z : CallRecord) (slot : ℕ) (v : Value) (local : Bool) → with_slot (with_call c n y) n z slot v local ≡ with_slot c n z slot v local
slot_twice c n y z slot v true = twice c n y (record z { slots = slice_set z.slots slot v })
slot_twice c n y z slot v false =
    ap (λ (d : Configuration). with_call d n z) (field_call c n y z.object (slot - 128) v (object_at c z.object)) ∙ twice (with_field c z.object (slot - 128) v) n y z

target_twice : (c : Configuration) (n : ℕ) (y z : CallRecord) (target : Option ℕ) (v : Value) → with_target (with_call c n y) n z target v ≡ with_target c n z target v
target_twice c n y z None v = twice c n y z
target_twice c n y z (Some slot) v = slot_twice c n y z slot v (nat_lt slot 128)

module _ (c : Configuration) (n : ℕ) (x : CallRecord) (e : call_at c n ≡ Some x) where
  at_statement_is : (next : ℕ) (d : Configuration) → d ≡ call_at_statement c n next (call_at c n) → d ≡ with_call c n (at_statement x next)
  at_statement_is next d h = h ∙ ap (call_at_statement c n next) e

  in_state_is : (s : CallState) (d : Configuration) → d ≡ call_in_state c n s (call_at c n) → d ≡ with_call c n (record x { state = s })
  in_state_is s d h = h ∙ ap (call_in_state c n s) e

  -- the call is changed
  there : (y : CallRecord) (d : Configuration) → d ≡ with_call c n y → call_at d n ≡ Some y
  there y d h = ap (λ (d : Configuration). call_at d n) h ∙ put_here c.calls n x y e

  pub target_slot : (slot : ℕ) (v : Value) (next : ℕ) (d f : Configuration) → d ≡ call_at_statement c n next (call_at c n) → f ≡ call_with_slot d n slot v (call_at d n) → nat_lt slot 128 ≡ true →
      f ≡ call_with_target c n (Some slot) v next (call_at c n)
  target_slot slot v next d f h k lt =
      let z = at_statement x next in
      k ∙ ap (call_with_slot d n slot v) (there z d (at_statement_is next d h)) ∙ ap (λ (d : Configuration). with_call d n (record z { slots = slice_set z.slots slot v })) (at_statement_is next d h)
      ∙ twice c n z (record z { slots = slice_set z.slots slot v }) ∙ sym (ap (with_slot c n z slot v) lt) ∙ sym (ap (call_with_target c n (Some slot) v next) e)

  pub target_field : (slot : ℕ) (v : Value) (next : ℕ) (d f : Configuration) → d ≡ call_at_statement c n next (call_at c n) → f ≡ with_field d x.object (slot - 128) v → nat_lt slot 128 ≡ false →
      f ≡ call_with_target c n (Some slot) v next (call_at c n)
  target_field slot v next d f h k ge =
      let z = at_statement x next in
      k ∙ ap (λ (d : Configuration). with_field d x.object (slot - 128) v) (at_statement_is next d h) ∙ field_call c n z x.object (slot - 128) v (object_at c x.object)
      ∙ sym (ap (with_slot c n z slot v) ge) ∙ sym (ap (call_with_target c n (Some slot) v next) e)

  pub state_statement : (s : CallState) (next : ℕ) (d f : Configuration) → d ≡ call_in_state c n s (call_at c n) → f ≡ call_at_statement d n next (call_at d n) → f ≡ with_call c n (record x { state = s; statement = next })
  state_statement s next d f h k =
      let y : CallRecord = record x { state = s } in
      k ∙ ap (call_at_statement d n next) (there y d (in_state_is s d h)) ∙ ap (λ (d : Configuration). with_call d n (at_statement y next)) (in_state_is s d h) ∙ twice c n y (at_statement y next)

  pub state_target : (s : CallState) (target : Option ℕ) (v : Value) (next : ℕ) (d f : Configuration) → d ≡ call_in_state c n s (call_at c n) → f ≡ call_with_target d n target v next (call_at d n) →
      f ≡ with_target c n (record x { state = s; statement = next }) target v
  state_target s target v next d f h k =
      let y : CallRecord = record x { state = s } in
      k ∙ ap (call_with_target d n target v next) (there y d (in_state_is s d h)) ∙ ap (λ (d : Configuration). with_target d n (at_statement y next) target v) (in_state_is s d h) ∙ target_twice c n y (at_statement y next) target v

pub stands_refused : {out : Outcome} {e : Refusal} (c c' : Configuration) → out ≡ Err e → with_cells c' c.cells ≡ c → Longer c.cells c'.cells → StandsAs out c (Err e) c'
stands_refused {e = e} c c' h same grows = subst (λ (out : Outcome). StandsAs out c (Err e) c') (sym h) (refl, same, grows)

-- all bindings
pub since_all : (s : Environment) → since 0 s ≡ s
since_all s = take_all (length s - 0) s (omega arith)

-- what is with_target leaves the cells
slot_cells : (c : Configuration) (n : ℕ) (x : CallRecord) (slot : ℕ) (v : Value) (local : Bool) (q : Option ObjectRecord) → object_at c x.object ≡ q → (with_slot c n x slot v local).cells ≡ c.cells
slot_cells c n x slot v true q e = refl
slot_cells c n x slot v false None e = ap (λ (q : Option ObjectRecord). (with_field_of c x.object (slot - 128) v q).cells) e
slot_cells c n x slot v false (Some y) e = ap (λ (q : Option ObjectRecord). (with_field_of c x.object (slot - 128) v q).cells) e

pub target_cells : (c : Configuration) (n : ℕ) (x : CallRecord) (target : Option ℕ) (v : Value) → (with_target c n x target v).cells ≡ c.cells
target_cells c n x None v = refl
target_cells c n x (Some slot) v = slot_cells c n x slot v (nat_lt slot 128) (object_at c x.object) refl
