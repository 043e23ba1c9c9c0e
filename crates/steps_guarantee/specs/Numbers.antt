-- The five numbers of a run, counted in its history: in its choices with their answers, and in what waited outside.
use Rattle.std.specs.Prelude.{ℕ, ◌+◌, ◌==◌, Bool, false, not, cond, ◌&&◌, ◌||◌, Some, None, Ok, Err, Option, is_some}
use Rattle.tables.specs.Layout.{Content}
use Rattle.rules.specs.Words.{passes}
use Rattle.outside.specs.declared.outside.Outside.{Ghosts}
use Rattle.steps.specs.Account.{Account, count_to}
use Rattle.steps.specs.Configurations.{Configuration, call_at}
use Rattle.steps.specs.Histories.{Event, History, now}
use Rattle.steps_ordered.specs.Ending.{at_return}

abbrev pub is_call : Configuration → ℕ → Bool
is_call c n = is_some (call_at c n)

-- a call that is there after, and was not there before
abbrev pub is_new : (before after : Configuration) → ℕ → Bool
is_new c d n = not (is_call c n) && is_call d n

-- how many of the numbers that calls can have pass
abbrev pub call_count : (ℕ → Bool) → ℕ
call_count p = count_to 128 p

-- the choice of the event, if it was accepted
abbrev pub accepted_choice : Event → Option ℕ
accepted_choice (Event.choice n (Ok call)) = Some n
accepted_choice (Event.choice n (Err e)) = None

-- how many calls an accepted choice brought, and a refused one
abbrev pub new_calls : (before : Configuration) → Option ℕ → (after : Configuration) → ℕ
new_calls c (Some n) d = call_count (is_new c d)
new_calls c None d = 0

-- an accepted choice 0
abbrev pub is_reply : Event → Bool
is_reply e = passes (accepted_choice e) (λ n. n == 0)

module _ (m : Content) where
  -- an accepted choice of a call that stood at a return
  abbrev pub is_return_choice : (before : Configuration) → Event → Bool
  is_return_choice c e = passes (accepted_choice e) (at_return m c)

  -- the same, of this call
  abbrev pub returns_call : (before : Configuration) → Event → (call : ℕ) → Bool
  returns_call c e k = passes (accepted_choice e) (λ n. n == k && at_return m c n)

module _ {O : Type 0} (g : Ghosts O) (m : Content) where
  -- call 1, and the calls that accepted choices brought
  abbrev pub calls_in : History O → ℕ
  calls_in (History.start s) = 1
  calls_in (History.after h e t) = calls_in h + new_calls (now h).configuration (accepted_choice e) t.configuration

  -- the accepted choices that performed a return
  abbrev pub returned_in : History O → ℕ
  returned_in (History.start s) = 0
  returned_in (History.after h e t) = returned_in h + cond (is_return_choice m (now h).configuration e) 1 0

  -- the accepted choices 0
  abbrev pub answered_in : History O → ℕ
  answered_in (History.start s) = 0
  answered_in (History.after h e t) = answered_in h + cond (is_reply e) 1 0

  -- the call waited outside at some moment: an outside took it
  abbrev pub was_outside : History O → ℕ → Bool
  was_outside (History.start s) n = is_some (g.waits s.outside n)
  was_outside (History.after h e t) n = was_outside h n || is_some (g.waits t.outside n)

  -- a return of the call was performed
  abbrev pub has_returned : History O → ℕ → Bool
  has_returned (History.start s) n = false
  has_returned (History.after h e t) n = has_returned h n || returns_call m (now h).configuration e n

  -- A process: a call that waited outside at no moment.
  abbrev pub is_process : History O → ℕ → Bool
  is_process h n = is_call (now h).configuration n && not (was_outside h n)

  -- the processes that have not returned
  abbrev pub unfinished_in : History O → ℕ
  unfinished_in h = call_count (λ n. is_process h n && not (has_returned h n))

  -- the calls that wait outside now
  abbrev pub waiting_in : History O → ℕ
  waiting_in h = call_count (λ n. is_some (g.waits (now h).outside n))

  -- the five numbers
  abbrev pub numbers_of : History O → Account
  numbers_of h = record {
    calls = calls_in h;
    returned = returned_in h;
    answered = answered_in h;
    unfinished = unfinished_in h;
    waiting = waiting_in h;
  }
