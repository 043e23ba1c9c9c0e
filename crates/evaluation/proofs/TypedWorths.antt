-- Evaluation keeps types.
use Rattle.std.proofs.Common.{◌≡◌, ℕ, List, Ok, Err, Result, IfOk, is_ok, cond}
use Rattle.tables.specs.Layout.{Content}
use Rattle.evaluation.specs.declared.refusal.EvaluationRefusal.{EvaluationRefusal}
use Rattle.evaluation.specs.declared.value.Value.{Value}
use Rattle.evaluation.specs.Carried.{Work, Evaluates}
use Rattle.evaluation.specs.Evaluation.{State, Ending, carried_out}
use Rattle.evaluation.specs.Plans.{Environment, ask}
use Rattle.evaluation.specs.Rules.{all_of}
use Rattle.evaluation.specs.Typed.{Referents, FunctionsTyped, Worth, Worths, KeepsTypes, KeepsEachType}
use Rattle.evaluation.specs.Values.{Data}
use Rattle.evaluation.proofs.Meeting.{Ends, out_meets}
use Rattle.evaluation.proofs.TypedRules.{kept, arguments_kept}
use Rattle.evaluation.proofs.TypedTasks.{Typed, typing, later_same}

-- an answer and cells that are those of an ending
answer_of : {A : Type 0} (Q : A → List Data → Type 0) (earlier later : List Data) (r : Result A EvaluationRefusal) (e : Ending A) →
    r ≡ e.answer → later ≡ cond (is_ok r) e.state.cells earlier → Ends Q e → IfOk r (λ a. Q a later)
answer_of Q earlier later (Ok a) e answers cells ends = let h = rw (← answers) at ends in rw cells h
answer_of Q earlier later (Err x) e answers cells ends = tt

-- A node of a type makes a value of the type.
pub ask_keeps : (m : Content) (known : Referents) (this row : ℕ) (s : State) (env : Environment) → FunctionsTyped m → (asked : Typed m known this s.cells row env) →
    Ends (Worth m known asked.type s.cells) (carried_out m this (ask row env) s)
ask_keeps m known this row s env functions asked =
    out_meets (typing m known this) m this (kept m known this functions) (Worth m known asked.type s.cells) (ask row env) s (asked, λ v later worth. worth)

pub keeps_types : (m : Content) (this row : ℕ) {before after : Work} {r : Result Value EvaluationRefusal} →
    Evaluates m this (ask row before.bindings) before r after → KeepsTypes m this row before r after
keeps_types m this row {before} {after} {r} h functions known w b t typed serves store slots =
    answer_of (Worth m known t before.state.cells) before.state.cells after.state.cells r (carried_out m this (ask row before.bindings) before.state) h.value h.cells
    (ask_keeps m known this row before.state before.bindings functions
    (record { within = w; scope = b; type = t; serves = serves; slots = slots; store = store; typed = typed }))

pub keeps_each_type : (m : Content) (this : ℕ) (rows : List ℕ) {before after : Work} {r : Result (List Value) EvaluationRefusal} →
    Evaluates m this (all_of rows before.bindings) before r after → KeepsEachType m this rows before r after
keeps_each_type m this rows {before} {after} {r} h functions known w b xs typed serves store slots =
    answer_of (Worths m known xs before.state.cells) before.state.cells after.state.cells r (carried_out m this (all_of rows before.bindings) before.state) h.value h.cells
    (out_meets (typing m known this) m this (kept m known this functions) (Worths m known xs before.state.cells) (all_of rows before.bindings) before.state
    (arguments_kept m known this w serves before.bindings b rows xs typed (later_same m known before.state.cells store) slots))
