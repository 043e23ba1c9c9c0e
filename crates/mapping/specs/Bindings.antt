-- A mapping as a list of bindings, the newest first, and the memory that it has for them.
use Rattle.std.specs.Prelude.{ℕ, ◌-◌, min, List, ◌++◌, reverse, length, take, drop, replicate, find, Option, option_map, ◌==◌}
use Rattle.mapping.specs.declared.mapping.Binding.{Binding}
use Rattle.mapping.specs.declared.mapping.Mapping.{Mapping}

-- the newest entry of a slot
abbrev pub lookup : {E : Type 0} → ℕ → List (Binding E) → Option E
lookup slot bs = option_map (λ b. b.entry) (find (λ b. b.slot == slot) bs)

-- what the lent slice holds, in use or not
unfoldable pub memory : {E : Type 0} → Mapping E → List (Binding E)
memory m = m.bindings.now

-- how many bindings there is memory for
unfoldable pub capacity : {E : Type 0} → Mapping E → ℕ
capacity m = length m.bindings.now

-- the bindings at the first `n` places of a memory, the newest first
abbrev pub used : {E : Type 0} → ℕ → List (Binding E) → List (Binding E)
used n bs = reverse (take n bs)

-- the bindings in use, the newest first
unfoldable pub bound : {E : Type 0} → Mapping E → List (Binding E)
bound m = used m.count m.bindings.now

-- the bindings that were made since there were `n` of them
abbrev pub since : {E : Type 0} → ℕ → List (Binding E) → List (Binding E)
since n bs = take (length bs - n) bs

-- the first `n` bindings that were made, or all where there are no more
abbrev pub oldest : {E : Type 0} → ℕ → List (Binding E) → List (Binding E)
oldest n bs = drop (length bs - n) bs

-- a memory with a blank at each place from `first` up to `end`, and elsewhere as it was
abbrev pub blanked : {E : Type 0} → E → ℕ → ℕ → List (Binding E) → List (Binding E)
blanked blank first end bs = take (min first end) bs ++ (replicate (end - first) (record { slot = 0; entry = blank }) ++ drop end bs)
