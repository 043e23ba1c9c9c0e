-- An input that is taken in piece by piece.
use Rattle.std.proofs.Common.{◌≡◌, ℕ, zero, suc, ◌+◌, ◌-◌, ◌*◌, ◌^◌, ◌<◌, ◌≤◌, min, true, false, not, ◌||◌, eqb, ltb, List, [], ◌∷◌, ◌++◌, length, get_or, take, drop, Some, None, vec_items, sym, refl, ap, ◌∙◌, inl, inr, arith, lit<, lit≤, length-append, length-take}
use Rattle.std.proofs.lemmas.Option.{none-some}
use Rattle.std.proofs.lemmas.Bool.Decides.{nat_tests}
use Rattle.std.proofs.lemmas.List.{take_all, take-take, take_rest, drop-take, get_or-take}
use Rattle.std.proofs.lemmas.Bool.{or_left, or_right, not_from_false, cases_Bool, cases_lt, le-ltb, eq-eqb, ne_eqb}
use Rattle.tables.specs.declared.place.TableRule.TheVariants.{Length, Counts as CountsRule}
use Rattle.tables.specs.declared.tables.Counts.{Counts}
use Rattle.tables.specs.Layout.{stated_length, wrong_length, wrong_counts, over_limit, cells_of, header_counts}
use Rattle.tables.specs.Reading.{header_fault}
use Rattle.model.specs.Rules.{verdict_in}
use Rattle.model.specs.Input.{Keeps, behind_model, model_in}
use Rattle.model.specs.declared.input.Input.{Input}
use Rattle.model.proofs.Decides.{header_decides}

take_joined : (n : ℕ) (xs ys : List ℕ) → take n (xs ++ ys) ≡ take n xs ++ take (n - length xs) ys
take_joined n [] ys = let e : n - 0 ≡ n = omega arith in go n (take n ys) e refl
  where
    go : (n : ℕ) (zs : List ℕ) → n - 0 ≡ n → zs ≡ take n ys → zs ≡ take n [] ++ take (n - 0) ys
    go zero zs e h = h
    go (suc n) zs e h = rw e h
take_joined zero (x ∷ xs) ys = let e : 0 - suc (length xs) ≡ 0 = omega arith in rw e
take_joined (suc n) (x ∷ xs) ys =
    let e : suc n - suc (length xs) ≡ n - length xs = omega arith in
    rw e (ap (λ (zs : List ℕ). x ∷ zs) (take_joined n xs ys))

take_clamped : {A : Type 0} (ys : List A) (n k : ℕ) → k ≡ min n (length ys) → take k ys ≡ take n ys
take_clamped ys n k e =
    elim (cases_lt n (length ys)) [
      | inl lt ↦ (let h : k ≡ n = omega arith in rw h)
      | inr ge ↦ (let h : length ys ≤ k = omega arith in rw (take_all k ys h, take_all n ys ge))
    ]

pub keeps_more : (i i' : Input) (piece input : List ℕ) (k : ℕ) → Keeps i input → k ≡ min (51675 - length (vec_items i.kept)) (length piece) →
    vec_items i'.kept ≡ vec_items i.kept ++ take (k - 0) piece → i'.total ≡ min (i.total + length piece) (2 ^ 64 - 1) → Keeps i' (input ++ piece)
keeps_more i i' piece input k h room kept total =
    let long : length (vec_items i.kept) ≡ min 51675 (length input) = ap length h.kept ∙ length-take 51675 input in
    let some : k - 0 ≡ min (51675 - length input) (length piece) = omega arith in
    let rest = take_clamped piece (51675 - length input) (k - 0) some in
    record {
      kept = kept ∙ rw (h.kept, rest) (sym (take_joined 51675 input piece));
      total = simp length-append (omega (arith, h.total));
    }

-- a header's faults
length_fault : (bs : List ℕ) → wrong_length bs ≡ true → verdict_in bs ≡ Some (header_fault Length)
length_fault bs l = header_decides bs (header_fault Length) (rw l)

counts_fault : (bs : List ℕ) → wrong_length bs ≡ false → wrong_counts bs ≡ true → verdict_in bs ≡ Some (header_fault CountsRule)
counts_fault bs l k = header_decides bs (header_fault CountsRule) (rw (l, k))

-- counts within their limits make no model longer than the largest
largest : (c : Counts) → over_limit c ≡ false → cells_of c ≤ 21725
largest c h = grind (arith, nat_tests)

too_long : (bs : List ℕ) → 43477 < length bs → wrong_counts bs ≡ true
too_long bs lt =
    elim (cases_Bool (over_limit (header_counts bs))) [
      | inl over ↦ or_left _ _ over
      | inr within ↦ (
          let cells : cells_of (header_counts bs) ≤ 21725 = largest (header_counts bs) within in
          or_right _ _ (not_from_false _ (ne_eqb (27 + 2 * cells_of (header_counts bs)) (length bs) (λ e. omega arith)))
          )
    ]

-- what makes a length right or wrong
wrong_stated : (bs : List ℕ) → (stated_length bs + 4 ≡ length bs → ⊥) → wrong_length bs ≡ true
wrong_stated bs h =
    or_left (ltb (length bs) 27 || not (eqb (stated_length bs + 4) (length bs))) (not (eqb (get_or bs 4 0) 1))
    (or_right (ltb (length bs) 27) (not (eqb (stated_length bs + 4) (length bs))) (not_from_false _ (ne_eqb (stated_length bs + 4) (length bs) h)))

wrong_version : (bs : List ℕ) → (get_or bs 4 0 ≡ 1 → ⊥) → wrong_length bs ≡ true
wrong_version bs h =
    or_right (ltb (length bs) 27 || not (eqb (stated_length bs + 4) (length bs))) (not (eqb (get_or bs 4 0) 1))
    (not_from_false _ (ne_eqb (get_or bs 4 0) 1 h))

right_length : (bs : List ℕ) → 27 ≤ length bs → stated_length bs + 4 ≡ length bs → get_or bs 4 0 ≡ 1 → wrong_length bs ≡ false
right_length bs long stated version =
    rw (le-ltb (length bs) 27 long, eq-eqb (stated_length bs + 4) (length bs) stated, eq-eqb (get_or bs 4 0) 1 version)

-- the first four bytes of a part are those of the whole
stated_in : (xs : List ℕ) (n : ℕ) → 4 ≤ n → stated_length (take n xs) ≡ stated_length xs
stated_in xs n le = rw (get_or-take n xs 0 0 (omega arith), get_or-take n xs 1 0 (omega arith), get_or-take n xs 2 0 (omega arith), get_or-take n xs 3 0 (omega arith))

module _ (i : Input) (input : List ℕ) (h : Keeps i input) where
  same_stated : stated_length (vec_items i.kept) ≡ stated_length input
  same_stated = ap stated_length h.kept ∙ stated_in input 51675 (lit≤ tt)

  module _ (end : ℕ) (e : end ≡ stated_length (vec_items i.kept) + 4) where
    ends : end ≡ stated_length input + 4
    ends = e ∙ ap (λ n. n + 4) same_stated

    -- an input that is shorter than its length states
    pub cut_short : end ≤ 2 ^ 32 + 4 → i.total < end → verdict_in (model_in input) ≡ Some (header_fault Length)
    cut_short small lt =
        let ended = ends in
        let short : length input < stated_length input + 4 = omega (arith, h.total) in
        let whole : take (stated_length input + 4) input ≡ input = take_all (stated_length input + 4) input (omega arith) in
        rw whole (length_fault input (wrong_stated input (λ e. omega arith)))

    -- a model that is kept whole
    pub kept_whole : end ≤ length (vec_items i.kept) → take end (vec_items i.kept) ≡ model_in input
    kept_whole le =
        let long : length (vec_items i.kept) ≡ min 51675 (length input) = ap length h.kept ∙ length-take 51675 input in
        let inside : end ≤ 51675 = omega arith in
        rw (h.kept, take-take end 51675 input inside, ends)

    -- a model that is longer than what is kept
    module _ (more : length (vec_items i.kept) < end) (there : end ≤ i.total) where
      long_model : length (model_in input) ≡ stated_length input + 4
      long_model = let ended = ends in simp length-take (omega (arith, h.total))

      past_largest : 51675 < length (model_in input)
      past_largest =
          let long : length (vec_items i.kept) ≡ min 51675 (length input) = ap length h.kept ∙ length-take 51675 input in
          let ended = ends in
          let model = long_model in
          omega (arith, h.total)

      version : get_or (vec_items i.kept) 4 0 ≡ get_or (model_in input) 4 0
      version =
          let model : 4 < stated_length input + 4 = omega (arith, past_largest, long_model) in
          ap (λ (xs : List ℕ). get_or xs 4 0) h.kept ∙ get_or-take 51675 input 4 0 (lit< tt) ∙ sym (get_or-take (stated_length input + 4) input 4 0 model)

      stated_whole : stated_length (model_in input) ≡ stated_length input
      stated_whole = stated_in input (stated_length input + 4) (omega arith)

      pub long_version : (get_or (vec_items i.kept) 4 0 ≡ 1 → ⊥) → verdict_in (model_in input) ≡ Some (header_fault Length)
      long_version other = length_fault (model_in input) (wrong_version (model_in input) (λ e. other (version ∙ e)))

      pub long_counts : get_or (vec_items i.kept) 4 0 ≡ 1 → verdict_in (model_in input) ≡ Some (header_fault CountsRule)
      long_counts one =
          let same : stated_length (model_in input) + 4 ≡ length (model_in input) = ap (λ n. n + 4) stated_whole ∙ sym long_model in
          counts_fault (model_in input) (right_length (model_in input) (omega (arith, past_largest)) same (sym version ∙ one)) (too_long (model_in input) (omega (arith, past_largest)))

-- the length of a model that breaks no rule is the one stated, and no more than the largest
sound_stated : (bs : List ℕ) → verdict_in bs ≡ None → stated_length bs + 4 ≡ length bs
sound_stated bs none = elim (cases_Bool (wrong_length bs)) [
  | inl wrong ↦ absurd (none-some (header_fault Length) (sym none ∙ length_fault bs wrong))
  | inr right ↦ grind (arith, nat_tests)
]

sound_size : (bs : List ℕ) → verdict_in bs ≡ None → length bs ≤ 43477
sound_size bs none = elim (cases_lt 43477 (length bs)) [
  | inr le ↦ le
  | inl lt ↦ elim (cases_Bool (wrong_length bs)) [
    | inl wrong ↦ absurd (none-some (header_fault Length) (sym none ∙ length_fault bs wrong))
    | inr right ↦ absurd (none-some (header_fault CountsRule) (sym none ∙ counts_fault bs right (too_long bs lt)))
  ]
]

-- what is kept behind a model that breaks no rule
pub kept_behind : (i : Input) (input : List ℕ) → Keeps i input → verdict_in (model_in input) ≡ None → (end k : ℕ) →
    end ≡ min (length (vec_items i.kept)) (stated_length (vec_items i.kept) + 4) → k - 0 ≡ min 8198 (length (drop end (vec_items i.kept))) →
    take (k - 0) (take (length (vec_items i.kept) - end) (drop end (vec_items i.kept))) ≡ take 8198 (behind_model input)
kept_behind i input h none end k ends some =
    let n = stated_length input + 4 in
    let stated : stated_length (take n input) ≡ stated_length input = stated_in input n (omega arith) in
    let model : n ≡ length (take n input) = sym (ap (λ m. m + 4) stated) ∙ sound_stated (take n input) none in
    let small : length (take n input) ≤ 43477 = sound_size (take n input) none in
    let long : length (vec_items i.kept) ≡ min 51675 (length input) = ap length h.kept ∙ length-take 51675 input in
    let all : length (take n input) ≡ min n (length input) = length-take n input in
    let same : stated_length (vec_items i.kept) ≡ stated_length input = ap stated_length h.kept ∙ stated_in input 51675 (lit≤ tt) in
    let there : end ≡ n = omega (arith, same) in
    let whole : n + (51675 - n) ≡ 51675 = omega arith in
    let rest : drop n (take 51675 input) ≡ take (51675 - n) (drop n input) =
    ap (λ m. drop n (take m input)) (sym whole) ∙ drop-take n (51675 - n) input in
    ap (take (k - 0)) (take_rest (vec_items i.kept) end) ∙ take_clamped (drop end (vec_items i.kept)) 8198 (k - 0) some
    ∙ rw (there, h.kept, rest) (take-take 8198 (51675 - n) (drop n input) (omega arith))
