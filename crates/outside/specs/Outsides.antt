-- What a take and a delivery make of an outside. `waits`, `roomy`, `after_take` and `after_delivery` are the outside's meaning, as the trait declares it.
use Rattle.std.specs.Prelude.{◌≡◌, ℕ, Bool, true, false, not, cond, ◌&&◌, ◌==◌, List, is_some, Some, None, Option}
use Rattle.outside.specs.declared.value.PlainValue.{PlainValue}
use Rattle.outside.specs.declared.value.Sort.{Sort}
use Rattle.outside.specs.declared.outside.Outgoing.{Outgoing}

-- a call that is handed out, with its arguments as a list
pub record OutgoingCall : Type 0 where
  pub call : ℕ
  pub class : ℕ
  pub object : ℕ
  pub sort : Sort
  pub arguments : List PlainValue

-- what the code hands out
abbrev pub call_of : Outgoing → OutgoingCall
call_of c = record { call = c.call; class = c.class; object = c.object; sort = c.sort; arguments = c.arguments.now }

-- which calls wait, each with the sort of its result
abbrev pub Waits : Type 0
Waits = ℕ → Option Sort

-- the call waits afterwards, and every other as before
abbrev pub Joins : Waits → (call : ℕ) → Sort → Waits → Type 0
Joins w call s w′ = (n : ℕ) → w′ n ≡ cond (call == n) (Some s) (w n)

-- the call does not wait afterwards, and every other as before
abbrev pub Leaves : Waits → (call : ℕ) → Waits → Type 0
Leaves w call w′ = (n : ℕ) → w′ n ≡ cond (call == n) None (w n)

-- a take of the call c, whether it was accepted, and the outside afterwards
pub record Takes {O : Type 0} (waits : O → Waits) (roomy : O → ℕ → Bool) (after_take : O → OutgoingCall → O → Type 0) (o : O) (c : OutgoingCall) (accepted : Bool) (o′ : O) : Type 0 where
  -- it is accepted exactly if its class has room and its number does not wait
  pub answer : accepted ≡ (roomy o c.class && not (is_some (waits o c.call)))
  pub joins : accepted ≡ true → Joins (waits o) c.call c.sort (waits o′)
  pub becomes : accepted ≡ true → after_take o c o′
  pub same : accepted ≡ false → o′ ≡ o

-- a delivery of a call by its number, and the outside afterwards
pub record Delivers {O : Type 0} (waits : O → Waits) (after_delivery : O → ℕ → O → Type 0) (o : O) (call : ℕ) (o′ : O) : Type 0 where
  pub leaves : Leaves (waits o) call (waits o′)
  pub becomes : is_some (waits o call) ≡ true → after_delivery o call o′
  pub same : is_some (waits o call) ≡ false → o′ ≡ o
