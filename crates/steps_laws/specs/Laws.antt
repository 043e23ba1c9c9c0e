-- The laws of choices.
use Rattle.std.specs.Prelude.{◌≡◌, ◌↔◌, ℕ, ◌+◌, None, Some, Err, IfOk, is_some}
use Rattle.tables.specs.Layout.{Content}
use Rattle.outside.specs.Outsides.{Waits}
use Rattle.steps.specs.declared.records.CallRecord.{CallRecord}
use Rattle.steps.specs.declared.refusal.Refusal.{Refusal}
use Rattle.steps.specs.declared.refusal.Refusal.TheVariants as refusal
use Rattle.steps.specs.declared.state.CallState.TheVariants as state
use Rattle.steps.specs.Account.{Account, account}
use Rattle.steps.specs.Configurations.{Configuration, call_at}
use Rattle.steps.specs.Opening.{first_configuration}
use Rattle.steps.specs.Outcomes.{Observation}
use Rattle.steps.specs.Sound.{Sound, WaitsBecome}
use Rattle.steps.specs.Steps.{step}
use Rattle.steps_ordered.specs.Lasting.{KeepsIdentities, KeepsValues}
use Rattle.steps_laws.specs.Halted.{EveryChoiceRefused, Halted, Reports}

-- Calls are returns, replies, unfinished processes and calls that wait outside.
abbrev pub Balanced : Account → Type 0
Balanced a = a.calls ≡ a.returned + a.answered + a.unfinished + a.waiting

-- the account of a configuration over an outside
abbrev pub account_over : Configuration → Waits → Account
account_over c waits = account c (λ n. is_some (waits n))

module _ (m : Content) where
  -- Opening over an outside in which nothing waits makes a sound configuration.
  abbrev pub OpensSound : Type 0
  OpensSound = (waits : Waits) → ((n : ℕ) → waits n ≡ None) → Sound m (first_configuration m) waits

  -- A choice that is accepted keeps a configuration sound, over what then waits.
  abbrev pub ChoicesKeepSound : Type 0
  ChoicesKeepSound = (c : Configuration) (seen : Observation) (waits : Waits) → Sound m c waits → (choice : ℕ) →
      IfOk (step m c seen choice) (λ d. (after : Waits) → WaitsBecome waits d.request after → Sound m d.configuration after)

  -- A future that has a value keeps it.
  abbrev pub ChoicesKeepValues : Type 0
  ChoicesKeepValues = (c : Configuration) (seen : Observation) (waits : Waits) → Sound m c waits → (choice : ℕ) →
      IfOk (step m c seen choice) (λ d. KeepsValues c d.configuration)

  -- Calls and objects stay the same under their numbers.
  abbrev pub ChoicesKeepIdentities : Type 0
  ChoicesKeepIdentities = (c : Configuration) (seen : Observation) (waits : Waits) → Sound m c waits → (choice : ℕ) →
      IfOk (step m c seen choice) (λ d. KeepsIdentities c d.configuration)

  -- The account of a sound configuration balances.
  abbrev pub Balances : Type 0
  Balances = (c : Configuration) (waits : Waits) → Sound m c waits → Balanced (account_over c waits)

  -- Where every choice is refused, nothing waits outside, and each unfinished process has its reason.
  abbrev pub Progresses : Type 0
  Progresses = (c : Configuration) (seen : Observation) (waits : Waits) → Sound m c waits → Reports seen waits → EveryChoiceRefused m c seen →
      Halted m c seen waits

  -- no call is sent
  abbrev pub HasNoneSent : Configuration → Type 0
  HasNoneSent c = (n : ℕ) (x : CallRecord) → call_at c n ≡ Some x → x.state ≡ state.Sent → ⊥

  -- Where every choice is refused, no call is still sent.
  abbrev pub NoneStaysSent : Type 0
  NoneStaysSent = (c : Configuration) (seen : Observation) → EveryChoiceRefused m c seen → HasNoneSent c

  -- No choice is refused with this.
  abbrev pub NeverComes : Configuration → Observation → Refusal → Type 0
  NeverComes c seen e = (choice : ℕ) → step m c seen choice ≡ Err e → ⊥

  -- The next reply is one that a call of the run waits for, with a value of its sort: it is never refused as a strange one.
  abbrev pub NoReplyIsStrange : Type 0
  NoReplyIsStrange = (c : Configuration) (seen : Observation) (waits : Waits) → Sound m c waits → Reports seen waits → NeverComes c seen refusal.StrangeReply

  -- Where nothing waits outside, a call is never refused because the outside did not take it.
  abbrev pub EveryCallIsTaken : Type 0
  EveryCallIsTaken = (c : Configuration) (seen : Observation) (waits : Waits) → Sound m c waits → Reports seen waits → ((n : ℕ) → waits n ≡ None) →
      NeverComes c seen refusal.NotTaken

  -- A choice is refused for want of a call exactly if it is not 0 and there is no call of the number: all else that a step asks for is there.
  abbrev pub MissesOnlyCalls : Configuration → Observation → Type 0
  MissesOnlyCalls c seen = (choice : ℕ) → (step m c seen choice ≡ Err refusal.NoSuchCall) ↔ ((choice ≡ 0 → ⊥) × (call_at c choice ≡ None))

  -- So it is in every sound configuration.
  abbrev pub OnlyCallsAreMissing : Type 0
  OnlyCallsAreMissing = (c : Configuration) (seen : Observation) (waits : Waits) → Sound m c waits → MissesOnlyCalls c seen
