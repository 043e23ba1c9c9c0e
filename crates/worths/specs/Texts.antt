-- How the answer to a case is printed.
use Rattle.std.specs.Prelude.{ℕ, List, ◌++◌, codes, Ok, Err, if◌then◌else◌}
use Rattle.std.specs.Fmt.{decimal, signed_decimal}
use Rattle.evaluation.specs.declared.value.Value.{Value}
use Rattle.evaluation.specs.declared.value.Value.TheVariants.{Unit, Bool, Int, Null, Object, Future, Constant, Cell}
use Rattle.evaluation.specs.Refusals.{evaluation_number}
use Rattle.worths.specs.declared.answer.Answer.{Answer}
use Rattle.worths.specs.declared.answer.Answer.TheVariants.{Evaluated, NoFunction, NotAccepted, NotACase}
use Rattle.worths.specs.declared.answer.Evaluation.{Evaluation}

abbrev pub value_text : Value → List ℕ
value_text Unit = codes "unit"
value_text (Bool truth) = if truth then codes "true" else codes "false"
value_text (Int number) = signed_decimal number
value_text Null = codes "null"
value_text (Object object) = codes "object " ++ decimal object
value_text (Future call) = codes "future " ++ decimal call
value_text (Constant row) = codes "data row " ++ decimal row
value_text (Cell cell) = codes "cell " ++ decimal cell

-- the value, or the number of the refusal
abbrev pub worth_text : Evaluation → List ℕ
worth_text e = elim e.worth [ Ok value ↦ value_text value | Err refusal ↦ codes "refused " ++ decimal (evaluation_number refusal) ]

-- the worth, the visits and the cells
abbrev pub evaluation_text : Evaluation → List ℕ
evaluation_text e = worth_text e ++ codes " visits " ++ decimal e.visits ++ codes " cells " ++ decimal e.cells

abbrev pub answer_text : Answer → List ℕ
answer_text (Evaluated evaluation) = evaluation_text evaluation
answer_text NoFunction = codes "no function"
answer_text NotAccepted = codes "not accepted"
answer_text NotACase = codes "not a case"
