-- Why a call's choice is refused, by the refusal.
use Rattle.std.proofs.Common.{◌≡◌, ℕ, suc, Bool, true, false, Some, None, IfErr, refl}
use Rattle.std.specs.Prelude.{⊤}
use Rattle.std.proofs.lemmas.Bool.{and_parts, false≢true}
use Rattle.tables.specs.Layout.{Content}
use Rattle.rules.proofs.Rows.{any_row}
use Rattle.outside.specs.Outsides.{OutgoingCall}
use Rattle.steps.specs.declared.records.CallRecord.{CallRecord}
use Rattle.steps.specs.declared.refusal.Refusal.{Refusal}
use Rattle.steps.specs.declared.refusal.Refusal.TheVariants as refusal
use Rattle.steps.specs.declared.state.CallState.{CallState}
use Rattle.steps.specs.declared.state.CallState.TheVariants as state
use Rattle.steps.specs.Calling.{takes_call}
use Rattle.steps.specs.Configurations.{Configuration, call_at, group_of, same_group, value_at}
use Rattle.steps.specs.Guards.{at_false_await}
use Rattle.steps.specs.Outcomes.{Observation, Outcome}
use Rattle.steps.specs.States.{is_active, is_unfinished}
use Rattle.steps.specs.Steps.{activate_step, is_active_in, is_busy}
use Rattle.steps_laws.specs.Halted.{WaitsAs}

module _ (m : Content) (c : Configuration) (seen : Observation) where
  -- why call n, which is x and in this state, is refused with this
  abbrev pub Reason : (n : ℕ) → CallRecord → CallState → Refusal → Type 0
  Reason n x s refusal.NoSuchCall = ⊥
  Reason n x s refusal.Finished = is_unfinished s ≡ false
  Reason n x s refusal.GroupBusy = (k : ℕ) × (y : CallRecord) × WaitsAs m c x k s × (call_at c k ≡ Some y) × (is_unfinished y.state ≡ true)
  Reason n x s refusal.FalseGuard = at_false_await m c x ≡ true
  Reason n x s refusal.Unresolved = (k : ℕ) × (y : CallRecord) × WaitsAs m c x k s × (call_at c k ≡ Some y) × (value_at c k ≡ None)
  Reason n x s refusal.Calling = (k : ℕ) × (y : CallRecord) × WaitsAs m c x k s × (call_at c k ≡ Some y) × (is_unfinished y.state ≡ true)
  Reason n x s refusal.NothingWaits = ⊥
  Reason n x s refusal.StrangeReply = ⊥
  Reason n x s refusal.NotTaken = (g : OutgoingCall) × (takes_call seen g ≡ false)
  Reason n x s _ = ⊤

  -- what is refused has its reason
  abbrev pub HasReason : (n : ℕ) → CallRecord → CallState → Outcome → Type 0
  HasReason n x s out = IfErr out (Reason n x s)

active_unfinished : (s : CallState) → is_active s ≡ true → is_unfinished s ≡ true
active_unfinished state.Sent e = absurd (false≢true e)
active_unfinished state.Queued e = absurd (false≢true e)
active_unfinished (state.Active k) e = refl
active_unfinished (state.Calling k) e = absurd (false≢true e)
active_unfinished state.Ended e = absurd (false≢true e)
active_unfinished state.Outside e = absurd (false≢true e)

-- A queued process is refused by the active one of its group, or by its guard.
pub queued_reason : (m : Content) (c : Configuration) (seen : Observation) (n : ℕ) (x : CallRecord) (busy held_up : Bool) →
    is_busy c (group_of c x.object) ≡ busy → at_false_await m c x ≡ held_up → HasReason m c seen n x state.Queued (activate_step m c seen n x busy held_up)
queued_reason m c seen n x true held_up busy guard =
    let p = any_row (is_active_in c (group_of c x.object)) c.calls busy in
    let y : CallRecord = p.1 in
    let q = and_parts (is_active y.state) (same_group (group_of c y.object) (group_of c x.object)) p.3 in
    (suc p.0, y, (y, p.2, q.0, q.1), p.2, active_unfinished y.state q.0)
queued_reason m c seen n x false true busy guard = guard
queued_reason m c seen n x false false busy guard = tt
