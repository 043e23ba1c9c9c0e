-- Where every choice is refused, no call is still sent: the one of least number would reach its queue.
use Rattle.std.proofs.Common.{◌≡◌, ℕ, zero, suc, Bool, true, false, Some, None, Err, refl, sym, ap, ◌∙◌, is_err, take}
use Rattle.std.specs.List.{list_any}
use Rattle.std.proofs.lemmas.Bool.{false≢true, ne_eqb}
use Rattle.std.proofs.lemmas.Option.{none-some}
use Rattle.tables.specs.Layout.{Content}
use Rattle.rules.proofs.Rows.{find_row, find_some, row_any}
use Rattle.steps.specs.declared.records.CallRecord.{CallRecord}
use Rattle.steps.specs.declared.refusal.Refusal.TheVariants as refusal
use Rattle.steps.specs.declared.state.CallState.{CallState}
use Rattle.steps.specs.declared.state.CallState.TheVariants as state
use Rattle.steps.specs.Configurations.{Configuration, call_at}
use Rattle.steps.specs.Outcomes.{Observation}
use Rattle.steps.specs.Steps.{move_step, state_step, step}
use Rattle.steps_laws.specs.Laws.{NoneStaysSent}

abbrev is_sent : CallState → Bool
is_sent state.Sent = true
is_sent _ = false

sent_of : (s : CallState) → is_sent s ≡ true → s ≡ state.Sent
sent_of state.Sent e = refl
sent_of state.Queued e = absurd (false≢true e)
sent_of (state.Active k) e = absurd (false≢true e)
sent_of (state.Calling k) e = absurd (false≢true e)
sent_of state.Ended e = absurd (false≢true e)
sent_of state.Outside e = absurd (false≢true e)

abbrev sends : CallRecord → Bool
sends x = is_sent x.state

-- the sent call of least number
pub record LeastSent (c : Configuration) : Type 0 where
  pub before : ℕ
  pub call : CallRecord
  pub there : call_at c (suc before) ≡ Some call
  pub sent : call.state ≡ state.Sent
  pub least : list_any sends (take before c.calls) ≡ false

-- Where some call is sent, one of them is of least number.
pub least_sent : (c : Configuration) (n : ℕ) (x : CallRecord) → call_at c n ≡ Some x → x.state ≡ state.Sent → LeastSent c
least_sent c zero x there sent = absurd (none-some x there)
least_sent c (suc n) x there sent =
    let any : list_any sends c.calls ≡ true = row_any sends c.calls n x there (ap is_sent sent) in
    let found = find_some sends c.calls any in
    let at = find_row sends c.calls found.0 found.1 in
    record { before = at.0; call = found.0; there = at.1; sent = sent_of found.0.state at.2; least = at.3 }

pub suc_ne : (n : ℕ) → suc n ≡ 0 → ⊥
suc_ne n e = absurd cc

module _ (m : Content) (c : Configuration) (seen : Observation) where
  -- a choice of a number that no call has is refused for that
  pub step_misses : (n : ℕ) → (n ≡ 0 → ⊥) → call_at c n ≡ None → step m c seen n ≡ Err refusal.NoSuchCall
  step_misses n ne none = rw (ne_eqb n 0 ne) (ap (move_step m c seen n) none)

  -- the choice of a call moves it
  pub step_moves : (n : ℕ) (x : CallRecord) → call_at c n ≡ Some x → step m c seen n ≡ state_step m c seen n x x.state
  step_moves zero x there = absurd (none-some x there)
  step_moves (suc n) x there = rw (ne_eqb (suc n) 0 (suc_ne n)) (ap (move_step m c seen (suc n)) there)

  -- Its choice is accepted.
  least_accepted : (l : LeastSent c) → is_err (step m c seen (suc l.before)) ≡ false
  least_accepted l = ap is_err (step_moves (suc l.before) l.call l.there ∙ ap (state_step m c seen (suc l.before) l.call) l.sent)

pub none_stays_sent : (m : Content) → NoneStaysSent m
none_stays_sent m c seen refused n x there sent =
    let l = least_sent c n x there sent in
    absurd (false≢true (sym (least_accepted m c seen l) ∙ refused (suc l.before)))
