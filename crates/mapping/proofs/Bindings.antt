-- What a look-up, a bind and a cut do to the bindings in use.
use Rattle.std.proofs.Common.{◌≡◌, ℕ, suc, ◌+◌, ◌-◌, ◌<◌, ◌≤◌, min, length, List, [], ◌∷◌, ◌++◌, reverse, take, drop, set, replicate, sym, ap, ◌∙◌, arith, refl}
use Rattle.std.specs.List.{slice_range}
use Rattle.std.proofs.lemmas.List.{take-append-drop, reverse-append, length-reverse, length-drop, take_at, drop_at, take_min, take-take, length-take-le, take_more_set, set-append_left, append_assoc}
use Rattle.std.proofs.Math.Seq.{take-set-lt}
use Rattle.std.proofs.lemmas.Slice.{between_is}
use Rattle.mapping.specs.Bindings.{used, bound, since, oldest, blanked}
use Rattle.mapping.specs.declared.mapping.Binding.{Binding}
use Rattle.mapping.specs.declared.mapping.Mapping.{Mapping}

-- a mapping has as many bindings as it counts
pub bound_length : {E : Type 0} (m : Mapping E) → length (bound m) ≡ m.count
unfolding bound
bound_length m = length-reverse (take m.count m.bindings.now) ∙ length-take-le m.count _ m.fits

module _ {A : Type 0} (n : ℕ) (xs : List A) where
  -- from the last element to the first: those after the first `n`, and then the first `n`
  reverse_split : reverse xs ≡ reverse (drop n xs) ++ reverse (take n xs)
  reverse_split = sym (ap reverse (take-append-drop n xs)) ∙ reverse-append (take n xs) (drop n xs)

  -- how many elements there are after the first `n`
  length_after : length (reverse (drop n xs)) ≡ length (reverse xs) - n
  length_after = simp (length-reverse, length-drop)

  -- so those after the first `n` come first
  take_reverse : take (length (reverse xs) - n) (reverse xs) ≡ reverse (drop n xs)
  take_reverse = rw (← length_after, reverse_split) (take_at (reverse (drop n xs)) (reverse (take n xs)) _ refl)

  -- and the first `n` come after them
  drop_reverse : drop (length (reverse xs) - n) (reverse xs) ≡ reverse (take n xs)
  drop_reverse = rw (← length_after, reverse_split) (drop_at (reverse (drop n xs)) (reverse (take n xs)) _ refl)

module _ {E : Type 0} (n : ℕ) (bs : List (Binding E)) where
  -- a binding that is written to the next place is the newest
  pub used_set : (b : Binding E) → n < length bs → used (n + 1) (set bs n b) ≡ b ∷ used n bs
  used_set b lt = ap reverse (take_more_set bs n b lt) ∙ reverse-append (take n bs) (b ∷ [])

  -- the bindings made since there were `earlier` stand at the places from `earlier` up to `n`
  pub since_used : (earlier : ℕ) → since earlier (used n bs) ≡ reverse (slice_range bs earlier n)
  since_used earlier = take_reverse earlier (take n bs) ∙ ap reverse (sym (between_is bs earlier n))

  module _ (earlier kept : ℕ) (is : kept ≡ min earlier n) (le : n ≤ length bs) where
    -- and those from the place that is left of both
    pub since_kept : since earlier (used n bs) ≡ reverse (slice_range bs kept n)
    since_kept =
        let len : length (used n bs) ≡ n = length-reverse (take n bs) ∙ length-take-le n bs le in
        let same : length (used n bs) - earlier ≡ length (used n bs) - kept = omega arith in
        ap (λ (k : ℕ). take k (used n bs)) same ∙ since_used kept

    -- the oldest `earlier` stand at the first places
    oldest_used : oldest earlier (used n bs) ≡ used kept bs
    oldest_used =
        let first : take kept (take n bs) ≡ take earlier (take n bs) = rw (length-take-le n bs le, ← is) at (take_min earlier (take n bs)) in
        drop_reverse earlier (take n bs) ∙ ap reverse (sym first ∙ take-take kept n bs (omega arith))

  -- no blank yet
  pub blank_none : (blank : E) → bs ≡ blanked blank n n bs
  blank_none blank =
      let all : min n n ≡ n = omega arith in
      let none : n - n ≡ 0 = omega arith in
      rw (all, none) (sym (take-append-drop n bs))

  -- a blank more, before those that there are
  pub blank_more : (blank : E) (k j : ℕ) → j ≡ k + 1 → k < n → n ≤ length bs → set (blanked blank j n bs) k (record { slot = 0; entry = blank }) ≡ blanked blank k n bs
  blank_more blank k j next lt le =
      let b : Binding E = record { slot = 0; entry = blank } in
      let rest : List (Binding E) = replicate (n - j) b ++ drop n bs in
      let high : min j n ≡ k + 1 = omega arith in
      let low : min k n ≡ k = omega arith in
      let one : n - k ≡ suc (n - j) = omega arith in
      let len : length (take (k + 1) bs) ≡ k + 1 = length-take-le (k + 1) bs (omega arith) in
      let at : set (take (k + 1) bs) k b ≡ take k bs ++ b ∷ [] = sym (take-set-lt (k + 1) bs k b (omega arith)) ∙ take_more_set bs k b (omega arith) in
      rw (high, low, one) (set-append_left (take (k + 1) bs) rest k b (omega arith) ∙ ap (λ (z : List (Binding E)). z ++ rest) at ∙ append_assoc (take k bs) (b ∷ []) rest)

  module _ (earlier kept : ℕ) (is : kept ≡ min earlier n) (le : n ≤ length bs) (blank : E) where
    -- blanks from the place that is left of both on are what a cut leaves
    pub blanked_kept : blanked blank kept n bs ≡ blanked blank earlier n bs
    blanked_kept =
        let first : min kept n ≡ min earlier n = omega arith in
        let more : n - kept ≡ n - earlier = omega arith in
        rw (first, more) refl

    -- and the oldest are as they were
    pub used_blanked : used kept (blanked blank kept n bs) ≡ oldest earlier (used n bs)
    used_blanked =
        let low : min kept n ≡ kept = omega arith in
        let len : length (take kept bs) ≡ kept = length-take-le kept bs (omega arith) in
        rw low (ap reverse (take_at (take kept bs) _ kept len) ∙ sym (oldest_used earlier kept is le))

-- what the operations of a mapping ask for: how many bindings are in use, the newest and the oldest of them
pub ruleset in_use = (bound_length, used_set, since_used)
