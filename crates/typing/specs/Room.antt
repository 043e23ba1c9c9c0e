-- The slots that a scope may bind, and how many of them nothing is bound to.
use Rattle.std.specs.Prelude.{ℕ, zero, suc, ◌+◌, Bool, cond, ◌&&◌, ◌||◌, List, is_some, nat_le, nat_lt}
use Rattle.mapping.specs.declared.mapping.Binding.{Binding}
use Rattle.mapping.specs.Bindings.{lookup}

-- eight parameters and locals, and eight fields, which are numbered from 128 on
abbrev pub is_slot : ℕ → Bool
is_slot slot = nat_lt slot 8 || (nat_le 128 slot && nat_lt slot 136)

-- the slot at place `i` of these sixteen
abbrev pub slot_of : ℕ → ℕ
slot_of i = cond (nat_lt i 8) i (i + 120)

-- how many of the first `n` of the sixteen nothing is bound to
unfoldable pub free : {E : Type 0} → ℕ → List (Binding E) → ℕ
free zero s = 0
free (suc n) s = cond (is_some (lookup (slot_of n) s)) 0 1 + free n s
