-- Lists of waiting calls.
use Rattle.std.specs.Prelude.{◌≡◌, ℕ, Bool, not, ◌&&◌, ◌==◌, List, [], ◌∷◌, length, nat_lt, is_some, None, Option, ⊤}
use Rattle.std.specs.List.{find, filter, slice_get}
use Rattle.std.specs.Option.{option_map}
use Rattle.outside.specs.declared.value.Reply.{Reply}
use Rattle.outside.specs.declared.waiting.WaitingCall.{WaitingCall}
use Rattle.outside.specs.Outsides.{Waits}

-- the call with a number
abbrev pub find_call : {K : Type 0} → ℕ → List (WaitingCall K) → Option (WaitingCall K)
find_call n cs = find (λ c. c.call == n) cs

-- which calls wait, each with the sort of its result
abbrev pub waits_in : {K : Type 0} → List (WaitingCall K) → Waits
waits_in cs n = option_map (λ c. c.sort) (find_call n cs)

-- whether there is room for one call more, where at most `limit` may wait
abbrev pub room_in : {K : Type 0} → (limit : ℕ) → List (WaitingCall K) → Bool
room_in limit cs = nat_lt (length cs) limit

-- A call is accepted if there is room and its number does not wait.
abbrev pub accepts : {K : Type 0} → (limit call : ℕ) → List (WaitingCall K) → Bool
accepts limit call cs = room_in limit cs && not (is_some (find_call call cs))

-- the reply to the first call
abbrev pub first_reply : {K : Type 0} → (WaitingCall K → Reply) → List (WaitingCall K) → Option Reply
first_reply reply cs = option_map reply (slice_get cs 0)

-- the calls with another number
abbrev pub others : {K : Type 0} → ℕ → List (WaitingCall K) → List (WaitingCall K)
others n cs = filter (λ c. not (c.call == n)) cs

-- No two calls have one number.
abbrev pub Distinct : {K : Type 0} → List (WaitingCall K) → Type 0
Distinct [] = ⊤
Distinct (c ∷ cs) = (find_call c.call cs ≡ None) × Distinct cs
