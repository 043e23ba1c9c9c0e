-- What follows from a thing that may be missing.
use Rattle.std.specs.Prelude.{Bool, true, false, Some, None, Option}

-- what follows from a thing, if the thing is there
abbrev pub given : {A B : Type 0} → Option A → (A → Option B) → Option B
given None f = None
given (Some x) f = f x

-- a thing under a condition
abbrev pub when : {A : Type 0} → Bool → Option A → Option A
when true o = o
when false o = None
