-- What an accepted choice ends.
use Rattle.std.specs.Prelude.{◌≡◌, ℕ, zero, suc, ◌+◌, ◌==◌, Bool, true, false, not, cond, ◌&&◌, ◌||◌, Some, None, Option}
use Rattle.tables.specs.Layout.{Content}
use Rattle.rules.specs.Words.{passes}
use Rattle.syntax.specs.declared.statements.Statement.{Statement}
use Rattle.syntax.specs.declared.statements.Statement.TheVariants as statement
use Rattle.outside.specs.declared.value.Reply.{Reply}
use Rattle.steps.specs.declared.records.CallRecord.{CallRecord}
use Rattle.steps.specs.declared.state.CallState.{CallState}
use Rattle.steps.specs.declared.state.CallState.TheVariants as state
use Rattle.steps.specs.Configurations.{Configuration, call_at, statement_at}
use Rattle.steps.specs.Outcomes.{Observation}
use Rattle.steps.specs.States.{is_ended, is_unfinished}

-- What an accepted choice ends: no call, a call whose process returns, or a call to which a reply comes.
pub data Finish : Type 0 where
  nothing : Finish
  return : (call : ℕ) → Finish
  reply : (call : ℕ) → Finish

-- a return of this call
abbrev pub returns : Finish → (call : ℕ) → Bool
returns (Finish.return n) k = n == k
returns _ k = false

-- the end of this call
abbrev pub ends : Finish → (call : ℕ) → Bool
ends Finish.nothing k = false
ends (Finish.return n) k = n == k
ends (Finish.reply n) k = n == k

-- how many returns, and how many replies
abbrev pub returns_counted : Finish → ℕ
returns_counted (Finish.return n) = 1
returns_counted _ = 0

abbrev pub replies_counted : Finish → ℕ
replies_counted (Finish.reply n) = 1
replies_counted _ = 0

-- active, and not waiting for a result
abbrev pub is_running : CallState → Bool
is_running (state.Active None) = true
is_running _ = false

-- a return
abbrev pub is_return : Statement → Bool
is_return (statement.Return value) = true
is_return _ = false

-- The process of the call performs a return next.
abbrev pub stands_at_return : Content → CallRecord → Bool
stands_at_return m x = is_running x.state && passes (statement_at m x.statement) is_return

-- and so does the call of a number
abbrev pub at_return : Content → Configuration → ℕ → Bool
at_return m c n = passes (call_at c n) (stands_at_return m)

-- a reply ends the call that it is to
abbrev pub finish_by_reply : Option Reply → Finish
finish_by_reply None = Finish.nothing
finish_by_reply (Some r) = Finish.reply r.call

-- what a choice ends, if it is accepted
abbrev pub finish_of : Content → Configuration → Observation → (choice : ℕ) → Finish
finish_of m c seen zero = finish_by_reply seen.next
finish_of m c seen (suc n) = cond (at_return m c (suc n)) (Finish.return (suc n)) Finish.nothing

-- Between c and d, a call became what it is by what ended: it is unfinished if it was and has not returned, and it ended if it had or if it
-- ends now. No call that is new has ended, and returns and replies are counted.
pub record EndsBy (f : Finish) (c d : Configuration) : Type 0 where
  pub calls : (k : ℕ) (x : CallRecord) → call_at c k ≡ Some x → (y : CallRecord) × (call_at d k ≡ Some y)
      × (is_unfinished y.state ≡ (not (returns f k) && is_unfinished x.state)) × (is_ended y.state ≡ (ends f k || is_ended x.state))
  pub new_calls : (k : ℕ) (y : CallRecord) → call_at c k ≡ None → call_at d k ≡ Some y → is_ended y.state ≡ false
  pub returned : d.returned ≡ c.returned + returns_counted f
  pub answered : d.answered ≡ c.answered + replies_counted f
