-- What a call that comes or goes does to the calls that are found.
use Rattle.std.proofs.Common.{◌≡◌, ℕ, Bool, true, false, cond, not, ◌==◌, List, [], ◌∷◌, ◌++◌, is_some, Some, None, Option, refl, ap, ◌∙◌, arith, tests}
use Rattle.std.specs.Option.{option_map}
use Rattle.outside.specs.declared.waiting.WaitingCall.{WaitingCall}
use Rattle.outside.specs.Calls.{find_call, waits_in, others, Distinct}

-- where a choice gives nothing, its first part was not chosen
pub cond_none : {A : Type 0} (b : Bool) (x : A) (o : Option A) → cond b (Some x) o ≡ None → (b ≡ false) × (o ≡ None)
cond_none true x o h = absurd cc
cond_none false x o h = (refl, h)

-- what is not there
none_of : {A : Type 0} (o : Option A) → is_some o ≡ false → o ≡ None
none_of None h = refl
none_of (Some x) h = absurd cc

-- a map of a choice
map_cond : {A B : Type 0} (f : A → B) (b : Bool) (x y : Option A) → option_map f (cond b x y) ≡ cond b (option_map f x) (option_map f y)
map_cond f true x y = refl
map_cond f false x y = refl

module _ {K : Type 0} where
  -- where the calls of one number are taken out, that number is not found, and every other as before
  pub find_others : (m n : ℕ) (cs : List (WaitingCall K)) → find_call n (others m cs) ≡ cond (m == n) None (find_call n cs)
  find_others m n [] = grind (arith, tests)
  find_others m n (c ∷ cs) = grind (arith, tests, find_others m n cs)

  -- a call behind the others is found where its number was not
  pub find_last : (c : WaitingCall K) (n : ℕ) (cs : List (WaitingCall K)) → find_call c.call cs ≡ None → find_call n (cs ++ c ∷ []) ≡ cond (c.call == n) (Some c) (find_call n cs)
  find_last c n [] none = refl
  find_last c n (d ∷ cs) none =
      let h = cond_none (d.call == c.call) d (find_call c.call cs) none in
      let rest = find_last c n cs h.1 in
      grind (arith, tests, rest, h.0)

  -- a number that was not found is not found among fewer calls
  none_others : (m n : ℕ) (cs : List (WaitingCall K)) → find_call n cs ≡ None → find_call n (others m cs) ≡ None
  none_others m n cs none = find_others m n cs ∙ grind (arith, none)

  -- calls that are left have distinct numbers
  pub distinct_others : (m : ℕ) (cs : List (WaitingCall K)) → Distinct cs → Distinct (others m cs)
  distinct_others m [] d = tt
  distinct_others m (c ∷ cs) (first, rest) =
      elim (c.call == m) as (λ b. Distinct (cond (not b) (c ∷ others m cs) (others m cs)))
      [ true ↦ distinct_others m cs rest | false ↦ (none_others m c.call cs first, distinct_others m cs rest) ]

  -- so have calls with one more behind them
  pub distinct_last : (c : WaitingCall K) (cs : List (WaitingCall K)) → find_call c.call cs ≡ None → Distinct cs → Distinct (cs ++ c ∷ [])
  distinct_last c [] none d = (refl, tt)
  distinct_last c (e ∷ cs) none (first, rest) =
      let h = cond_none (e.call == c.call) e (find_call c.call cs) none in
      (find_last c e.call cs h.1 ∙ grind (arith, tests, first, h.0), distinct_last c cs h.1 rest)

  -- where a number is not found, no call has it
  pub others_none : (m : ℕ) (cs : List (WaitingCall K)) → find_call m cs ≡ None → others m cs ≡ cs
  others_none m [] none = refl
  others_none m (c ∷ cs) none =
      let h = cond_none (c.call == m) c (find_call m cs) none in
      let rest = others_none m cs h.1 in
      grind (arith, rest, h.0)

  -- a call behind the others waits, and they as before, where its number did not
  pub waits_last : (c : WaitingCall K) (n : ℕ) (cs : List (WaitingCall K)) → is_some (find_call c.call cs) ≡ false → waits_in (cs ++ c ∷ []) n ≡ cond (c.call == n) (Some c.sort) (waits_in cs n)
  waits_last c n cs gone = ap (option_map (λ x. x.sort)) (find_last c n cs (none_of _ gone)) ∙ map_cond (λ x. x.sort) (c.call == n) (Some c) (find_call n cs)
