-- Trials of the refusals that come late or by a limit; each model has one class and one method.
use Rattle.std.specs.Prelude.{ℕ, List, [], ◌∷◌, ◌++◌, replicate}
use Rattle.steps_trials.specs.Listings.{Trial, ok, refused}

-- The method gets from null.
abbrev pub null_get : List ℕ
null_get =
    2 ∷ 1 ∷ 0 ∷ 0 ∷ 0 ∷ 0 ∷ 1 ∷ 1 ∷ 2 ∷ 0 ∷ 2
    -- types
    ∷ 0 ∷ 0
    ∷ 5 ∷ 0
    -- lists
    ∷ 1
    -- classes
    ∷ 0 ∷ 0 ∷ 0 ∷ 0 ∷ 0 ∷ 0 ∷ 0 ∷ 1
    -- methods
    ∷ 0 ∷ 0 ∷ 0 ∷ 0 ∷ 1 ∷ 0 ∷ 2
    -- nodes
    ∷ 5 ∷ 0 ∷ 0 ∷ 0 ∷ 0 ∷ 0 ∷ 0
    ∷ 0 ∷ 0 ∷ 0 ∷ 0 ∷ 0 ∷ 0 ∷ 0
    -- statements
    ∷ 5 ∷ 0 ∷ 0 ∷ 0 ∷ 1 ∷ 0 ∷ 0 ∷ 0 ∷ 0 ∷ 1 ∷ 0
    ∷ 10 ∷ 0 ∷ 0 ∷ 0 ∷ 1 ∷ 1 ∷ 0 ∷ 0 ∷ 0 ∷ 0 ∷ 0
    ∷ []

-- An expression that makes 10,000 visits, and in the next statement one that makes 10,001.
abbrev pub long_count : List ℕ
long_count =
    3 ∷ 2 ∷ 0 ∷ 1 ∷ 0 ∷ 0 ∷ 1 ∷ 1 ∷ 19 ∷ 2 ∷ 3
    -- types
    ∷ 1 ∷ 0
    ∷ 2 ∷ 0
    ∷ 0 ∷ 0
    -- lists
    ∷ 1 ∷ 0
    -- functions
    ∷ 0 ∷ 0 ∷ 1 ∷ 1 ∷ 10
    -- classes
    ∷ 0 ∷ 0 ∷ 0 ∷ 0 ∷ 0 ∷ 0 ∷ 0 ∷ 1
    -- methods
    ∷ 0 ∷ 2 ∷ 1 ∷ 0 ∷ 1 ∷ 0 ∷ 3
    -- nodes
    ∷ 5 ∷ 0 ∷ 0 ∷ 0 ∷ 0 ∷ 0 ∷ 0
    ∷ 3 ∷ 1 ∷ 0 ∷ 0 ∷ 0 ∷ 0 ∷ 0
    ∷ 13 ∷ 0 ∷ 2 ∷ 0 ∷ 1 ∷ 0 ∷ 0
    ∷ 2 ∷ 0 ∷ 0 ∷ 0 ∷ 0 ∷ 0 ∷ 0
    ∷ 2 ∷ 0 ∷ 0 ∷ 0 ∷ 0 ∷ 0 ∷ 0
    ∷ 1 ∷ 0 ∷ 0 ∷ 0 ∷ 0 ∷ 0 ∷ 0
    ∷ 5 ∷ 0 ∷ 0 ∷ 0 ∷ 0 ∷ 0 ∷ 0
    ∷ 3 ∷ 1 ∷ 0 ∷ 0 ∷ 0 ∷ 0 ∷ 0
    ∷ 11 ∷ 0 ∷ 2 ∷ 6 ∷ 7 ∷ 0 ∷ 0
    ∷ 8 ∷ 0 ∷ 1 ∷ 8 ∷ 0 ∷ 0 ∷ 0
    ∷ 9 ∷ 0 ∷ 1 ∷ 2 ∷ 0 ∷ 0 ∷ 0
    ∷ 3 ∷ 1249 ∷ 0 ∷ 0 ∷ 0 ∷ 0 ∷ 0
    ∷ 8 ∷ 0 ∷ 1 ∷ 11 ∷ 0 ∷ 0 ∷ 0
    ∷ 15 ∷ 0 ∷ 1 ∷ 12 ∷ 0 ∷ 0 ∷ 0
    ∷ 3 ∷ 1249 ∷ 0 ∷ 0 ∷ 0 ∷ 0 ∷ 0
    ∷ 8 ∷ 0 ∷ 1 ∷ 14 ∷ 0 ∷ 0 ∷ 0
    ∷ 15 ∷ 0 ∷ 1 ∷ 15 ∷ 0 ∷ 0 ∷ 0
    ∷ 15 ∷ 0 ∷ 1 ∷ 16 ∷ 0 ∷ 0 ∷ 0
    ∷ 0 ∷ 0 ∷ 0 ∷ 0 ∷ 0 ∷ 0 ∷ 0
    -- branches
    ∷ 3 ∷ 4 ∷ 1
    ∷ 5 ∷ 9 ∷ 0
    -- statements
    ∷ 1 ∷ 1 ∷ 0 ∷ 0 ∷ 1 ∷ 13 ∷ 0 ∷ 0 ∷ 0 ∷ 1 ∷ 0
    ∷ 1 ∷ 1 ∷ 0 ∷ 0 ∷ 1 ∷ 17 ∷ 0 ∷ 0 ∷ 0 ∷ 2 ∷ 0
    ∷ 10 ∷ 0 ∷ 0 ∷ 0 ∷ 1 ∷ 18 ∷ 0 ∷ 0 ∷ 0 ∷ 0 ∷ 0
    ∷ []

-- The method calls itself, again and again.
abbrev pub endless_calls : List ℕ
endless_calls =
    1 ∷ 0 ∷ 0 ∷ 0 ∷ 0 ∷ 0 ∷ 1 ∷ 1 ∷ 0 ∷ 0 ∷ 1
    -- types
    ∷ 0 ∷ 0
    -- classes
    ∷ 0 ∷ 0 ∷ 0 ∷ 0 ∷ 0 ∷ 0 ∷ 0 ∷ 1
    -- methods
    ∷ 0 ∷ 0 ∷ 0 ∷ 0 ∷ 0 ∷ 0 ∷ 1
    -- statements
    ∷ 8 ∷ 0 ∷ 0 ∷ 0 ∷ 0 ∷ 0 ∷ 0 ∷ 0 ∷ 0 ∷ 0 ∷ 0
    ∷ []

-- The method makes an object, again and again.
abbrev pub endless_objects : List ℕ
endless_objects =
    1 ∷ 0 ∷ 0 ∷ 0 ∷ 0 ∷ 0 ∷ 1 ∷ 1 ∷ 0 ∷ 0 ∷ 1
    -- types
    ∷ 0 ∷ 0
    -- classes
    ∷ 0 ∷ 0 ∷ 0 ∷ 0 ∷ 0 ∷ 0 ∷ 0 ∷ 1
    -- methods
    ∷ 0 ∷ 0 ∷ 0 ∷ 0 ∷ 0 ∷ 0 ∷ 1
    -- statements
    ∷ 6 ∷ 0 ∷ 0 ∷ 0 ∷ 0 ∷ 0 ∷ 0 ∷ 0 ∷ 0 ∷ 0 ∷ 0
    ∷ []

-- The method puts a constructor around what it has, again and again.
abbrev pub endless_chain : List ℕ
endless_chain =
    2 ∷ 1 ∷ 2 ∷ 0 ∷ 0 ∷ 0 ∷ 1 ∷ 1 ∷ 2 ∷ 0 ∷ 1
    -- types
    ∷ 3 ∷ 0
    ∷ 0 ∷ 0
    -- lists
    ∷ 0
    -- constructors
    ∷ 0 ∷ 0 ∷ 0
    ∷ 0 ∷ 0 ∷ 1
    -- classes
    ∷ 0 ∷ 0 ∷ 0 ∷ 0 ∷ 0 ∷ 0 ∷ 0 ∷ 1
    -- methods
    ∷ 0 ∷ 1 ∷ 0 ∷ 0 ∷ 1 ∷ 0 ∷ 1
    -- nodes
    ∷ 5 ∷ 0 ∷ 0 ∷ 0 ∷ 0 ∷ 0 ∷ 0
    ∷ 7 ∷ 1 ∷ 1 ∷ 0 ∷ 0 ∷ 0 ∷ 0
    -- statements
    ∷ 1 ∷ 1 ∷ 0 ∷ 0 ∷ 1 ∷ 1 ∷ 0 ∷ 0 ∷ 0 ∷ 0 ∷ 0
    ∷ []

-- The method calls an outside, again and again.
abbrev pub endless_rings : List ℕ
endless_rings =
    4 ∷ 2 ∷ 0 ∷ 0 ∷ 1 ∷ 1 ∷ 2 ∷ 2 ∷ 2 ∷ 0 ∷ 2
    -- types
    ∷ 1 ∷ 0
    ∷ 2 ∷ 0
    ∷ 0 ∷ 0
    ∷ 4 ∷ 0
    -- lists
    ∷ 1 ∷ 3
    -- interfaces
    ∷ 0 ∷ 1
    -- signatures
    ∷ 0 ∷ 0 ∷ 0 ∷ 1
    -- classes
    ∷ 0 ∷ 0 ∷ 0 ∷ 0 ∷ 0 ∷ 0 ∷ 0 ∷ 1
    ∷ 1 ∷ 1 ∷ 1 ∷ 0 ∷ 0 ∷ 0 ∷ 1 ∷ 1
    -- methods
    ∷ 1 ∷ 2 ∷ 1 ∷ 0 ∷ 1 ∷ 0 ∷ 2
    ∷ 0 ∷ 0 ∷ 0 ∷ 1 ∷ 1 ∷ 0 ∷ 0
    -- nodes
    ∷ 5 ∷ 0 ∷ 0 ∷ 0 ∷ 0 ∷ 0 ∷ 0
    ∷ 3 ∷ 1 ∷ 0 ∷ 0 ∷ 0 ∷ 0 ∷ 0
    -- statements
    ∷ 6 ∷ 1 ∷ 0 ∷ 1 ∷ 0 ∷ 0 ∷ 0 ∷ 0 ∷ 0 ∷ 1 ∷ 0
    ∷ 8 ∷ 0 ∷ 1 ∷ 0 ∷ 1 ∷ 1 ∷ 0 ∷ 0 ∷ 0 ∷ 1 ∷ 0
    ∷ []

pub record RefusalTrials : Type 0 where
  pub null_future : Trial null_get
      (refused 1 21 ∷ refused 1 21 ∷ [])
      (record { calls = 1; returned = 0; answered = 0; unfinished = 1; waiting = 0 })
  pub visits_spent : Trial long_count
      (ok 1 ∷ refused 1 24 ∷ [])
      (record { calls = 1; returned = 0; answered = 0; unfinished = 1; waiting = 0 })
  pub no_call_left : Trial endless_calls
      (replicate 127 (ok 1) ++ refused 1 25 ∷ [])
      (record { calls = 128; returned = 0; answered = 0; unfinished = 128; waiting = 0 })
  pub no_object_left : Trial endless_objects
      (replicate 63 (ok 1) ++ refused 1 25 ∷ [])
      (record { calls = 1; returned = 0; answered = 0; unfinished = 1; waiting = 0 })
  pub no_cell_left : Trial endless_chain
      (replicate 256 (ok 1) ++ refused 1 25 ∷ [])
      (record { calls = 1; returned = 0; answered = 0; unfinished = 1; waiting = 0 })
  pub not_taken : Trial endless_rings
      (replicate 17 (ok 1) ++ refused 1 26 ∷ ok 0 ∷ ok 1 ∷ refused 1 26 ∷ [])
      (record { calls = 18; returned = 0; answered = 1; unfinished = 1; waiting = 16 })
