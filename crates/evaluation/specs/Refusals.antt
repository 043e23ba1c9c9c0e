-- The numbers under which refusals of evaluation are reported, and answers that may be refusals.
use Rattle.std.specs.Prelude.{ℕ, Ok, Err, Result}
use Rattle.evaluation.specs.declared.refusal.EvaluationRefusal.{EvaluationRefusal}
use Rattle.evaluation.specs.declared.refusal.EvaluationRefusal.TheVariants.{NoBranch, ZeroDivisor, VisitsSpent, NoCell}

abbrev pub evaluation_number : EvaluationRefusal → ℕ
evaluation_number NoBranch = 22
evaluation_number ZeroDivisor = 23
evaluation_number VisitsSpent = 24
evaluation_number NoCell = 25

-- an answer in other words
abbrev pub answered : {A B : Type 0} → (A → B) → Result A EvaluationRefusal → Result B EvaluationRefusal
answered f (Ok a) = Ok (f a)
answered f (Err e) = Err e
