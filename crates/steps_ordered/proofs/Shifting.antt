-- A process moves on, and the configuration stays in order.
use Rattle.std.proofs.Common.{◌≡◌, ℕ, zero, suc, ◌-◌, Bool, true, false, List, Some, None, Option, IfOk, refl, sym, ap, ◌∙◌, inl, inr, arith, is_some}
use Rattle.std.specs.Prelude.{nat_lt, slice_set}
use Rattle.std.proofs.lemmas.Bool.{and_from, false≢true, true≢false}
use Rattle.std.proofs.lemmas.Option.{none-some}
use Rattle.tables.specs.Layout.{Content}
use Rattle.rules.proofs.Rows.{row_any}
use Rattle.syntax.specs.Rows.{given, when}
use Rattle.outside.specs.declared.value.Sort.{Sort}
use Rattle.outside.specs.Outsides.{Waits}
use Rattle.evaluation.specs.declared.value.Value.{Value}
use Rattle.evaluation.specs.Values.{Data}
use Rattle.steps.specs.declared.state.CallState.{CallState}
use Rattle.steps.specs.declared.state.CallState.TheVariants as state
use Rattle.steps.specs.declared.records.CallRecord.{CallRecord}
use Rattle.steps.specs.declared.records.ObjectRecord.{ObjectRecord}
use Rattle.steps.specs.Changes.{with_call, with_cells, with_field_of, with_item_at, with_slot, with_target}
use Rattle.steps.specs.Configurations.{Configuration, call_at, group_of, item_at, object_at, same_group}
use Rattle.steps.specs.Crossing.{result_sort}
use Rattle.steps.specs.Outcomes.{Outcome, Transition, silent}
use Rattle.steps.specs.Sound.{Beside, InOrder, WaitsBecome, calls_outside, waiting_sort}
use Rattle.steps.specs.States.{is_active, is_ended, is_outside, is_unfinished}
use Rattle.steps.specs.Steps.{is_active_in, is_busy}
use Rattle.steps.proofs.Items.{put_here, put_other, same_or}
use Rattle.steps_ordered.specs.Ending.{Finish}
use Rattle.steps_ordered.specs.Lasting.{HaveObjects}
use Rattle.steps_ordered.proofs.Lasting.{Lasts, ObjectsLast, groups_stay, lasts_put, lasts_then, objects_field, objects_same}
use Rattle.steps_ordered.proofs.Ordering.{Alters, change_ordered, group_back, weight}

-- The states of a process that waits for no call in its place.
abbrev pub moves : CallState → Bool
moves state.Sent = true
moves state.Queued = true
moves (state.Active callee) = true
moves _ = false

moves_parts : (s : CallState) → moves s ≡ true → (is_unfinished s ≡ true) × (is_ended s ≡ false) × (is_outside s ≡ false) × (weight s ≡ 1)
moves_parts state.Sent e = (refl, refl, refl, refl)
moves_parts state.Queued e = (refl, refl, refl, refl)
moves_parts (state.Active k) e = (refl, refl, refl, refl)
moves_parts (state.Calling k) e = absurd (false≢true e)
moves_parts state.Ended e = absurd (false≢true e)
moves_parts state.Outside e = absurd (false≢true e)

not_calling : (s : CallState) → moves s ≡ true → (k : ℕ) → s ≡ state.Calling k → ⊥
not_calling s e k f = true≢false (sym e ∙ ap moves f)

-- the calls that waited before a choice, and the configuration that there was
pub record Before : Type 0 where
  pub waits : Waits
  pub start : Configuration

-- In order, over these waiting calls, and nothing ended.
pub record IsBase (m : Content) (c : Configuration) (w : Before) : Type 0 where
  pub order : InOrder c
  pub homes : HaveObjects c
  pub out : (n : ℕ) → w.waits n ≡ calls_outside m c n
  pub lasts : Lasts w.start Finish.nothing c

-- A transition that leads to a configuration in order, over what then waits, and in which all lasts but what ends.
abbrev pub Follows : Content → Before → Finish → Transition → Type 0
Follows m w f t = InOrder t.configuration
    × ((w′ : Waits) → WaitsBecome w.waits t.request w′ → (n : ℕ) → w′ n ≡ calls_outside m t.configuration n)
    × Lasts w.start f t.configuration

abbrev pub IsFine : Content → Before → Finish → Outcome → Type 0
IsFine m w f o = IfOk o (Follows m w f)

-- a call at another statement and in another state
abbrev pub now_at : CallRecord → (row : ℕ) → CallState → CallRecord
now_at x row s = record x { statement = row; state = s }

-- Call n is in a state, and all else that order speaks of is as it was.
pub record Shifts (c d : Configuration) (n : ℕ) (x : CallRecord) (s : CallState) : Type 0 where
  pub call : CallRecord
  pub calls : d.calls ≡ with_item_at c.calls n call
  pub object : call.object ≡ x.object
  pub method : call.method ≡ x.method
  pub caller : call.caller ≡ x.caller
  pub result : call.result ≡ x.result
  pub in_state : call.state ≡ s
  pub objects : ObjectsLast c d
  pub returned : d.returned ≡ c.returned
  pub answered : d.answered ≡ c.answered

field_calls : (c : Configuration) (o k : ℕ) (v : Value) (p : Option ObjectRecord) → ((with_field_of c o k v p).calls ≡ c.calls)
    × ((with_field_of c o k v p).returned ≡ c.returned) × ((with_field_of c o k v p).answered ≡ c.answered)
field_calls c o k v None = (refl, refl, refl)
field_calls c o k v (Some p) = (refl, refl, refl)

module _ (c : Configuration) (n : ℕ) (x : CallRecord) (row : ℕ) (s : CallState) where
  -- a call that is put, and one with a value in its target
  pub put_shift : Shifts c (with_call c n (now_at x row s)) n x s
  put_shift = record {
    call = now_at x row s;
    calls = refl;
    object = refl;
    method = refl;
    caller = refl;
    result = refl;
    in_state = refl;
    objects = objects_same c;
    returned = refl;
    answered = refl;
  }

  slot_shift : (slot : ℕ) (v : Value) (local : Bool) → Shifts c (with_slot c n (now_at x row s) slot v local) n x s
  slot_shift slot v true = record {
    call = record (now_at x row s) { slots = slice_set x.slots slot v };
    calls = refl;
    object = refl;
    method = refl;
    caller = refl;
    result = refl;
    in_state = refl;
    objects = objects_same c;
    returned = refl;
    answered = refl;
  }
  slot_shift slot v false =
      let f = field_calls c x.object (slot - 128) v (object_at c x.object) in
      record {
        call = now_at x row s;
        calls = ap (λ (l : List CallRecord). with_item_at l n (now_at x row s)) f.0;
        object = refl;
        method = refl;
        caller = refl;
        result = refl;
        in_state = refl;
        objects = objects_field c x.object (slot - 128) v (object_at c x.object) refl;
        returned = f.1;
        answered = f.2;
      }

  pub target_shift : (target : Option ℕ) (v : Value) → Shifts c (with_target c n (now_at x row s) target v) n x s
  target_shift None v = put_shift
  target_shift (Some slot) v = slot_shift slot v (nat_lt slot 128)

module _ (m : Content) (c d : Configuration) (n : ℕ) (x y : CallRecord) (there : call_at c n ≡ Some x) (calls : d.calls ≡ with_item_at c.calls n y) where
  -- calls that were not out and are not
  pub out_stays : is_outside x.state ≡ false → is_outside y.state ≡ false → (k : ℕ) → calls_outside m d k ≡ calls_outside m c k
  out_stays was is k = elim (same_or n k) [
    | inl at ↦ (
        let sort : Option CallRecord → Option Sort = λ o. given o (waiting_sort m) in
        let now : call_at d k ≡ Some y = ap (λ (l : List CallRecord). item_at l k) calls ∙ ap (item_at (with_item_at c.calls n y)) at ∙ put_here c.calls n x y there in
        let before : call_at c k ≡ Some x = ap (call_at c) at ∙ there in
        ap sort now ∙ ap (λ (b : Bool). when b (Some (result_sort m y))) is ∙ sym (ap (λ (b : Bool). when b (Some (result_sort m x))) was) ∙ sym (ap sort before)
        )
    | inr ne ↦ ap (λ (o : Option CallRecord). given o (waiting_sort m)) (ap (λ (l : List CallRecord). item_at l k) calls ∙ put_other c.calls n k y ne)
  ]

-- a process that moves on
module _ (m : Content) (c d : Configuration) (w : Before) (base : IsBase m c w) (n : ℕ) (x : CallRecord) (there : call_at c n ≡ Some x) (s : CallState)
    (shift : Shifts c d n x s) (was : moves x.state ≡ true) (is : moves s ≡ true)
    (alone : is_active s ≡ true → (k : ℕ) (z : CallRecord) → call_at c k ≡ Some z → is_active z.state ≡ true → Beside c x z → n ≡ k) where
  before_parts : (is_unfinished x.state ≡ true) × (is_ended x.state ≡ false) × (is_outside x.state ≡ false) × (weight x.state ≡ 1)
  before_parts = moves_parts x.state was

  now_moves : moves shift.call.state ≡ true
  now_moves = ap moves shift.in_state ∙ is

  now_parts : (is_unfinished shift.call.state ≡ true) × (is_ended shift.call.state ≡ false) × (is_outside shift.call.state ≡ false) × (weight shift.call.state ≡ 1)
  now_parts = moves_parts shift.call.state now_moves

  shift_becomes : Alters c d n x shift.call
  shift_becomes = record {
    calls = shift.calls;
    object = shift.object;
    caller = shift.caller;
    resolved = ap is_some shift.result ∙ base.order.resolved n x there ∙ before_parts.1 ∙ sym now_parts.1;
    was_not_calling = not_calling x.state was;
    not_calling = not_calling shift.call.state now_moves;
    was_open = λ e. before_parts.0;
    stays_open = λ k e f. now_parts.0;
    alone = λ e. alone (sym (ap is_active shift.in_state) ∙ e);
    counts = (
        let is_one = now_parts.3 in
        let was_one = before_parts.3 in
        let r = shift.returned in
        let q = shift.answered in
        omega arith
        );
  }

  pub shift_ordered : InOrder d
  shift_ordered = change_ordered c d base.homes (groups_stay c d shift.objects) base.order n x shift.call there shift_becomes

  pub shift_out : (k : ℕ) → calls_outside m d k ≡ calls_outside m c k
  shift_out = out_stays m c d n x shift.call there shift.calls before_parts.2 now_parts.2

  pub shift_lasts : Lasts c Finish.nothing d
  shift_lasts =
      lasts_put Finish.nothing c d n x shift.call there shift.calls (record {
        same = record { object = shift.object; method = shift.method; caller = shift.caller };
        value = λ v e. shift.result ∙ e;
        unfinished = now_parts.0 ∙ sym before_parts.0;
        ended = now_parts.1 ∙ sym before_parts.1;
      }) (λ k ne. (refl, refl)) shift.objects (let r = shift.returned in omega arith) (let q = shift.answered in omega arith)

  pub shift_fine : IsFine m w Finish.nothing (silent d)
  shift_fine = (
    shift_ordered,
    λ w′ becomes k. becomes k ∙ base.out k ∙ sym (shift_out k),
    lasts_then Finish.nothing w.start c d base.lasts shift_lasts,
  )

-- an active process is the only one of its group
pub alone_active : (c : Configuration) → InOrder c → (n : ℕ) (x : CallRecord) → call_at c n ≡ Some x → is_active x.state ≡ true →
    (k : ℕ) (z : CallRecord) → call_at c k ≡ Some z → is_active z.state ≡ true → Beside c x z → n ≡ k
alone_active c h n x there active k z e az near = h.one_active n k x z there e active az near

-- in an idle group none is active
pub alone_idle : (c : Configuration) (n : ℕ) (x : CallRecord) → is_busy c (group_of c x.object) ≡ false →
    (k : ℕ) (z : CallRecord) → call_at c k ≡ Some z → is_active z.state ≡ true → Beside c x z → n ≡ k
alone_idle c n x idle zero z e az near = absurd (none-some z e)
alone_idle c n x idle (suc k) z e az near =
    let test : is_active_in c (group_of c x.object) z ≡ true =
    and_from (is_active z.state) (same_group (group_of c z.object) (group_of c x.object)) az (group_back (group_of c x.object) (group_of c z.object) near) in
    absurd (true≢false (sym (row_any (is_active_in c (group_of c x.object)) c.calls k z e test) ∙ idle))

-- cells that are added
order_cells : (c : Configuration) (cells : List Data) → InOrder c → InOrder (with_cells c cells)
order_cells c cells h = record {
  one_active = h.one_active;
  resolved = h.resolved;
  calling = h.calling;
  callers = h.callers;
  balance = h.balance;
  few = h.few;
}

pub base_cells : (m : Content) (c : Configuration) (w : Before) (cells : List Data) → IsBase m c w → IsBase m (with_cells c cells) w
base_cells m c w cells b = record {
  order = order_cells c cells b.order;
  homes = b.homes;
  out = b.out;
  lasts = record {
    calls = b.lasts.calls;
    new_calls = b.lasts.new_calls;
    objects = b.lasts.objects;
    returned = b.lasts.returned;
    answered = b.lasts.answered;
  };
}
