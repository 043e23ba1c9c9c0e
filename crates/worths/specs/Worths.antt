-- What is told of an expression.
use Rattle.std.specs.Prelude.{◌≡◌, ℕ, ◌-◌, cond, is_ok, [], length, Some, None, Result, IfOk, ⊤}
use Rattle.std.specs.List.{slice_get}
use Rattle.tables.specs.declared.rows.FunctionRow.{FunctionRow}
use Rattle.tables.specs.Layout.{Content}
use Rattle.syntax.specs.declared.types.ValueType.{ValueType}
use Rattle.syntax.specs.Types.{type_at}
use Rattle.typing.specs.declared.within.Within.{Within}
use Rattle.typing.specs.Expressions.{type_in}
use Rattle.typing.specs.Scopes.{Bindings}
use Rattle.evaluation.specs.declared.refusal.EvaluationRefusal.{EvaluationRefusal}
use Rattle.evaluation.specs.declared.value.Value.{Value}
use Rattle.evaluation.specs.Evaluation.{State, Ending, carried_out}
use Rattle.evaluation.specs.Plans.{ask}
use Rattle.evaluation.specs.Typed.{Referents, Has, SlotsTyped, Serves, FunctionsTyped}
use Rattle.worths.specs.declared.answer.Answer.{Answer}
use Rattle.worths.specs.declared.answer.Answer.TheVariants.{Evaluated, NoFunction, NotAccepted, NotACase}
use Rattle.worths.specs.declared.answer.Evaluation.{Evaluation}

-- all visits of a choice, and no cell in use
abbrev pub all_visits : State
all_visits = record { left = 10000; cells = [] }

-- how the evaluation of the node in a row ends, for object 0, where nothing is bound
abbrev pub ending_of : Content → ℕ → Ending Value
ending_of m row = carried_out m 0 (ask row []) all_visits

-- The worth, the visits made and the cells in use are those of the node in this row; a refused evaluation leaves no cell.
pub record IsEvaluationOf (m : Content) (row : ℕ) (e : Evaluation) : Type 0 where
  pub worth : e.worth ≡ (ending_of m row).answer
  pub visits : e.visits ≡ 10000 - (ending_of m row).state.left
  pub cells : e.cells ≡ length (cond (is_ok e.worth) (ending_of m row).state.cells [])

-- Of a model with these tables, the body of function 0 is evaluated, if there is one.
abbrev pub IsAnswerOf : Content → Answer → Type 0
IsAnswerOf m (Evaluated evaluation) = (f : FunctionRow) × (slice_get m.functions 0 ≡ Some f) × IsEvaluationOf m f.body evaluation
IsAnswerOf m NoFunction = slice_get m.functions 0 ≡ None
IsAnswerOf m NotAccepted = ⊥
IsAnswerOf m NotACase = ⊥

-- Where functions are typed, and the node in a row has a type in a scope for which no slot has to be bound, its worth is a value of that
-- type, over the cells that the evaluation leaves. That is so whatever objects and calls there are.
abbrev pub KeepsType : Content → ℕ → Result Value EvaluationRefusal → Type 0
KeepsType m row worth =
    FunctionsTyped m → (known : Referents) (w : Within) (b : Bindings) (t : ValueType) → type_in m w row b ≡ Some t → Serves m known w 0 →
    SlotsTyped m known w [] [] b → IfOk worth (λ v. Has m known (ending_of m row).state.cells v t)

-- Where function 0 takes nothing, the worth of its body is a value of the type of its result.
abbrev pub HasItsType : Content → Answer → Type 0
HasItsType m (Evaluated e) =
    (known : Referents) (f : FunctionRow) (t : ValueType) → slice_get m.functions 0 ≡ Some f → f.parameters ≡ 0 → type_at m f.result ≡ Some t →
    IfOk e.worth (λ v. Has m known (ending_of m f.body).state.cells v t)
HasItsType m NoFunction = ⊤
HasItsType m NotAccepted = ⊤
HasItsType m NotACase = ⊤
