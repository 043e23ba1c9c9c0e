-- The worked examples.
use Rattle.std.specs.Prelude.{false, List, [], ◌∷◌, ◌++◌, map, pos, replicate, take}
use Rattle.tables.specs.Layout.{Content, content_of}
use Rattle.evaluation.specs.declared.value.Value.TheVariants as value
use Rattle.steps.specs.Account.{Account}
use Rattle.steps_trials.specs.Listings.{Line, choice_of, content_of_numbers, ok, refused}
use Rattle.worked_examples.specs.Computations.{Example, ◌gives◌, addition, division, matching, evaluation, costing, loading, run, worth, cost, fit, no_fit, refusal, acceptance, fault, listing}
use Rattle.worked_examples.specs.Models.{awaits_a_future, calls_across, calls_inside, fills_the_house, gets_a_future, sets_a_radiator, smallest}
use Rattle.worked_examples.specs.Pairs.{case_of_a_pair, case_of_pairs, equality, greatest, least, minus, pair_data, pairs}

-- a run whose choices are answered as the lines say, and come to the account
abbrev pub listed_run : Content → List Line → Account → Example
listed_run m lines account = run m (map choice_of lines) gives listing (record { lines = lines; account = account })

abbrev pub arithmetic : List Example
arithmetic =
    -- A result beyond the range stops at its end.
    (addition greatest (pos 1) gives worth (value.Int greatest))
    -- Division cuts toward zero; there is none by 0.
    ∷ (division (minus 7) (pos 2) gives worth (value.Int (minus 3)))
    ∷ (division least (minus 1) gives worth (value.Int greatest))
    ∷ (division (pos 5) (pos 0) gives refusal 23)
    ∷ []

abbrev pub patterns : List Example
patterns =
    -- Pair(v, v) does not fit Pair(1, 2), and on Pair(2, 2) v, in slot 0, is 2.
    (matching pairs 3 (pair_data 1 2) gives no_fit)
    ∷ (matching pairs 3 (pair_data 2 2) gives fit (record { slot = 0; entry = value.Int (pos 2) } ∷ []))
    -- Pair(w, 3) does not fit Pair(1, 2), and Pair(v, w) binds v, in slot 0, and w, in slot 1.
    ∷ (matching pairs 4 (pair_data 1 2) gives no_fit)
    ∷ (matching pairs 5 (pair_data 1 2) gives fit (record { slot = 1; entry = value.Int (pos 2) } ∷ record { slot = 0; entry = value.Int (pos 1) } ∷ []))
    -- The branch Pair(w, 3) does not fit Pair(1, 2), and so binds nothing; in the next, Pair(v, w), w is 2.
    ∷ (evaluation case_of_a_pair 11 gives worth (value.Int (pos 2)))
    ∷ []

-- The two equalities and the two calls that docs/EVALUATION.md tells visit by visit.
abbrev pub costs : List Example
costs =
    (costing equality 6 gives cost (value.Bool false) 10 (pair_data 1 2 ∷ pair_data 1 3 ∷ []))
    ∷ (costing equality 8 gives cost (value.Bool false) 9 (pair_data 1 2 ∷ pair_data 3 2 ∷ []))
    ∷ (costing case_of_pairs 19 gives cost (value.Int (pos 3)) 10 (pair_data 1 2 ∷ []))
    ∷ (costing case_of_pairs 21 gives cost (value.Int (pos 2)) 8 (pair_data 2 2 ∷ []))
    ∷ []

abbrev pub models : List Example
models =
    -- The smallest model is accepted, and not without its last byte.
    (loading smallest gives acceptance)
    ∷ (loading (take 96 smallest) gives fault 1 0 0)
    ∷ []

abbrev pub runs : List Example
runs =
    -- It returns, and is then refused 11.
    listed_run (content_of smallest)
    (ok 1 ∷ refused 1 11 ∷ [])
    (record { calls = 1; returned = 1; answered = 0; unfinished = 0; waiting = 0 })
    -- The await idles the group, so that call 2 runs; call 1 is refused 13 until call 2 has returned.
    ∷ listed_run (content_of_numbers awaits_a_future)
    (ok 1 ∷ ok 1 ∷ refused 1 13 ∷ ok 2 ∷ ok 2 ∷ refused 1 12 ∷ ok 2 ∷ ok 1 ∷ ok 1 ∷ ok 1 ∷
    refused 1 11 ∷ [])
    (record { calls = 2; returned = 2; answered = 0; unfinished = 0; waiting = 0 })
    -- Call 1 stays active and is refused 14; so call 2 is refused 12.
    ∷ listed_run (content_of_numbers gets_a_future)
    (ok 1 ∷ refused 1 14 ∷ ok 2 ∷ refused 2 12 ∷ refused 0 16 ∷ refused 3 10 ∷ [])
    (record { calls = 2; returned = 0; answered = 0; unfinished = 2; waiting = 0 })
    -- Call 2 runs in the place of call 1, which is refused 15 until it has returned, and then stores the result.
    ∷ listed_run (content_of_numbers calls_inside)
    (ok 1 ∷ refused 1 15 ∷ ok 2 ∷ ok 1 ∷ ok 1 ∷ refused 1 11 ∷ [])
    (record { calls = 2; returned = 2; answered = 0; unfinished = 0; waiting = 0 })
    -- Call 1 stays active and is refused 14 until call 2 has returned, and then stores the result.
    ∷ listed_run (content_of_numbers calls_across)
    (ok 1 ∷ ok 1 ∷ refused 1 14 ∷ ok 2 ∷ refused 1 14 ∷ ok 2 ∷ ok 2 ∷ ok 1 ∷ ok 1 ∷
    refused 2 11 ∷ [])
    (record { calls = 2; returned = 2; answered = 0; unfinished = 0; waiting = 0 })
    -- The 17th call is not taken, until a reply makes room.
    ∷ listed_run (content_of_numbers fills_the_house)
    (replicate 17 (ok 1) ++ refused 1 26 ∷ refused 1 26 ∷ ok 0 ∷ ok 1 ∷ [])
    (record { calls = 18; returned = 0; answered = 1; unfinished = 1; waiting = 16 })
    -- The run that docs/RUNS.md tells step by step.
    ∷ listed_run (content_of_numbers sets_a_radiator)
    (ok 1 ∷ ok 1 ∷ ok 1 ∷ refused 1 13 ∷ ok 0 ∷ ok 1 ∷ ok 1 ∷ ok 1 ∷ ok 1 ∷ refused 1 11 ∷
    refused 0 16 ∷ [])
    (record { calls = 2; returned = 1; answered = 1; unfinished = 0; waiting = 0 })
    ∷ []

-- all of them
abbrev pub worked_examples : List Example
worked_examples = arithmetic ++ patterns ++ costs ++ models ++ runs
