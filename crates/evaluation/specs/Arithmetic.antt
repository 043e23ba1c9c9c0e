-- Arithmetic: an Int lies from −2^63 to 2^63 − 1, and a result beyond stops at that end.
use Rattle.std.specs.Prelude.{ℤ, pos, negsuc, ◌+ℤ◌, ◌-ℤ◌, int_div, suc, Ok, Err, Result, zero}
use Rattle.std.specs.Int.{w64, saturate_signed}
use Rattle.evaluation.specs.declared.refusal.EvaluationRefusal.{EvaluationRefusal}
use Rattle.evaluation.specs.declared.refusal.EvaluationRefusal.TheVariants.{ZeroDivisor}

-- the number, or the end of the range that it passes
abbrev pub bounded : ℤ → ℤ
bounded n = saturate_signed w64 n

abbrev pub sum : ℤ → ℤ → ℤ
sum x y = bounded (x +ℤ y)

abbrev pub difference : ℤ → ℤ → ℤ
difference x y = bounded (x -ℤ y)

-- Division cuts toward zero; there is none by 0.
abbrev pub quotient : ℤ → ℤ → Result ℤ EvaluationRefusal
quotient x (pos zero) = Err ZeroDivisor
quotient x (pos (suc n)) = Ok (bounded (int_div x (pos (suc n))))
quotient x (negsuc n) = Ok (bounded (int_div x (negsuc n)))
