-- What a wrong tool would break: of the guarantee by itself, whether or not the history is linked, and of a linked history. And what the
-- guarantee by itself lets pass, which is why a whole run is both.
use Rattle.std.specs.Prelude.{◌≡◌, ℕ, zero, suc, ◌==◌, true, false, List, ◌∷◌, Some, Ok, Err, is_some}
use Rattle.tables.specs.Layout.{Content}
use Rattle.outside.specs.declared.outside.Outside.{Ghosts}
use Rattle.evaluation.specs.declared.value.Value.{Value}
use Rattle.steps.specs.declared.refusal.Refusal.{Refusal}
use Rattle.steps.specs.Account.{Account}
use Rattle.steps.specs.Configurations.{value_at}
use Rattle.steps.specs.Histories.{Answer, Event, History, IsPartOf, Linked, Moment, now}
use Rattle.steps.specs.Observing.{observation}
use Rattle.steps.specs.Outcomes.{Transition}
use Rattle.steps.specs.Steps.{step}
use Rattle.steps_ordered.specs.Ending.{at_return}
use Rattle.steps_laws.specs.Laws.{account_over}
use Rattle.steps_guarantee.specs.Guarantee.{Guarantee}
use Rattle.steps_guarantee.specs.WholeRuns.{WholeRun}

-- how many choices 0 were accepted, by the answers
abbrev pub accepted_zeros : List ℕ → List Answer → ℕ
accepted_zeros (zero ∷ ns) (Ok call ∷ answers) = suc (accepted_zeros ns answers)
accepted_zeros (n ∷ ns) (a ∷ answers) = accepted_zeros ns answers
accepted_zeros _ _ = 0

module _ {O : Type 0} (g : Ghosts O) (m : Content) where
  -- No reply is invented: the account of a whole run has those that were answered with ok.
  abbrev pub NoInventedReply : Type 0
  NoInventedReply = (o o′ : O) (choices : List ℕ) (answers : List Answer) (account : Account) → WholeRun g m o choices answers account o′ →
      account.answered ≡ accepted_zeros choices answers

  -- No refused choice is counted.
  abbrev pub NoCountedRefusal : Type 0
  NoCountedRefusal = (h : History O) (n : ℕ) (e : Refusal) (t : Moment O) → Guarantee g m (History.after h (Event.choice n (Err e)) t) →
      let before : Account = account_over (now h).configuration (g.waits (now h).outside) in
      let after : Account = account_over t.configuration (g.waits t.outside) in
      (after.calls ≡ before.calls) × (after.returned ≡ before.returned) × (after.answered ≡ before.answered)

  -- No call is lost outside, and none comes from nowhere, where the configuration stays.
  abbrev pub NoLostCall : Type 0
  NoLostCall = (h : History O) (e : Event) (t : Moment O) → Guarantee g m (History.after h e t) → t.configuration ≡ (now h).configuration → (call : ℕ) →
      is_some (g.waits t.outside call) ≡ is_some (g.waits (now h).outside call)

  -- No future has one value and later another.
  abbrev pub NoOtherValue : Type 0
  NoOtherValue = (run h p : History O) → Guarantee g m run → IsPartOf h run → IsPartOf p h → (future : ℕ) (v w : Value) →
      value_at (now p).configuration future ≡ Some v → value_at (now h).configuration future ≡ Some w → v ≡ w

  -- No reply, and no return, is answered with ok where nothing changes.
  abbrev pub NoIdleReply : Type 0
  NoIdleReply = (h : History O) (call : ℕ) (t : Moment O) → Guarantee g m (History.after h (Event.choice 0 (Ok call)) t) →
      t.configuration ≡ (now h).configuration → ⊥

  abbrev pub NoIdleReturn : Type 0
  NoIdleReturn = (h : History O) (n call : ℕ) (t : Moment O) → at_return m (now h).configuration n ≡ true →
      Guarantee g m (History.after h (Event.choice n (Ok call)) t) → t.configuration ≡ (now h).configuration → ⊥

  -- Any other choice may be, by the guarantee alone.
  abbrev pub AllowsIdleChoices : Type 0
  AllowsIdleChoices = (h : History O) (n call : ℕ) → (n == 0) ≡ false → at_return m (now h).configuration n ≡ false → Guarantee g m h →
      Guarantee g m (History.after h (Event.choice n (Ok call)) (now h))

  -- By the guarantee alone, any choice may be refused for any reason.
  abbrev pub AllowsEarlyRefusals : Type 0
  AllowsEarlyRefusals = (h : History O) (n : ℕ) (e : Refusal) → Guarantee g m h → Guarantee g m (History.after h (Event.choice n (Err e)) (now h))

  -- In a linked history, what is answered with ok was done, and what is refused is refused by the step.
  abbrev pub NoIdleChoice : Type 0
  NoIdleChoice = (h : History O) (n call : ℕ) (t : Moment O) → Linked g m (History.after h (Event.choice n (Ok call)) t) →
      (d : Transition) × (step m (now h).configuration (observation g (now h).outside) n ≡ Ok d) × (t.configuration ≡ d.configuration)

  abbrev pub NoEarlyRefusal : Type 0
  NoEarlyRefusal = (h : History O) (n : ℕ) (e : Refusal) (t : Moment O) → Linked g m (History.after h (Event.choice n (Err e)) t) →
      step m (now h).configuration (observation g (now h).outside) n ≡ Err e
