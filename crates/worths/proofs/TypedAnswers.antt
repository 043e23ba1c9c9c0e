-- What function 0 of an accepted model is worth has the type of its result.
use Rattle.std.proofs.Common.{◌≡◌, ℕ, cond, is_ok, [], Some, Ok, Err, Result, IfOk, refl, sym, ap, ◌∙◌}
use Rattle.std.proofs.lemmas.Option.{none-some}
use Rattle.std.specs.List.{slice_get}
use Rattle.tables.specs.declared.rows.FunctionRow.{FunctionRow}
use Rattle.tables.specs.Layout.{Content}
use Rattle.rules.proofs.Rows.{known}
use Rattle.syntax.specs.declared.types.ValueType.{ValueType}
use Rattle.syntax.specs.Types.{type_at}
use Rattle.typing.specs.declared.within.Within.{Within}
use Rattle.typing.specs.declared.within.Within.TheVariants as within
use Rattle.typing.specs.Scopes.{function_scope}
use Rattle.evaluation.specs.declared.refusal.EvaluationRefusal.{EvaluationRefusal}
use Rattle.evaluation.specs.declared.value.Value.{Value}
use Rattle.evaluation.specs.Carried.{Work, Evaluates}
use Rattle.evaluation.specs.Evaluation.{State, carried_out}
use Rattle.evaluation.specs.Plans.{ask}
use Rattle.evaluation.specs.Typed.{Referents, Has, CellsTyped, SlotsTyped, Worth, FunctionsTyped, KeepsTypes}
use Rattle.worths.specs.Worths.{all_visits, ending_of, KeepsType}

-- nothing is bound in an empty scope
nothing_bound : (m : Content) (refs : Referents) (w : Within) → SlotsTyped m refs w [] [] []
nothing_bound m refs w = record { bound = λ slot t e. absurd (none-some t e); declared = λ f is slot v t e e'. absurd (none-some v e) }

-- the cells that an evaluation leaves are those of the ending, where there is a worth
worth_has : (m : Content) (refs : Referents) (t : ValueType) (r : Result Value EvaluationRefusal) (earlier later left : _) → later ≡ cond (is_ok r) left earlier →
    IfOk r (λ v. Worth m refs t earlier v later) → IfOk r (λ v. Has m refs left v t)
worth_has m refs t (Ok v) earlier later left cells h = let has = h.has in rw cells at has
worth_has m refs t (Err x) earlier later left cells h = tt

pub keeps_type : (m : Content) (row : ℕ) {r : Result Value EvaluationRefusal} {before after : Work} → before.bindings ≡ [] → before.state ≡ all_visits →
    Evaluates m 0 (ask row before.bindings) before r after → KeepsTypes m 0 row before r after → KeepsType m row r
keeps_type m row {r} {before} {after} none all h keeps functions refs w b t typed serves slots =
    let cells : before.state.cells ≡ [] = ap (λ (s : State). s.cells) all in
    let store : CellsTyped m refs before.state.cells = rw cells (λ i d e. absurd (none-some d e)) in
    let worth = keeps functions refs w b t typed serves store (rw (cells, none) slots) in
    let has = worth_has m refs t r before.state.cells after.state.cells (carried_out m 0 (ask row before.bindings) before.state).state.cells h.cells worth in
    rw (none, all) at has

pub has_its_type : (m : Content) (f : FunctionRow) (r : Result Value EvaluationRefusal) → FunctionsTyped m → slice_get m.functions 0 ≡ Some f → KeepsType m f.body r →
    (refs : Referents) (g : FunctionRow) (t : ValueType) → slice_get m.functions 0 ≡ Some g → g.parameters ≡ 0 → type_at m g.result ≡ Some t →
    IfOk r (λ v. Has m refs (ending_of m g.body).state.cells v t)
has_its_type m f r functions there keeps refs g t there' none result =
    let same : f ≡ g = known (sym there ∙ there') in
    let body = functions g (0, there') in
    let type : body.0 ≡ t = known (sym body.1 ∙ result) in
    let scope : function_scope m g ≡ [] = rw none refl in
    let slots : SlotsTyped m refs (within.Function g) [] [] (function_scope m g) = rw scope (nothing_bound m refs (within.Function g)) in
    let own : KeepsType m g.body r = rw same at keeps in
    own functions refs (within.Function g) (function_scope m g) t (rw type at body.2) tt slots
