-- What a function that carries out a step promises.
use Rattle.std.specs.Prelude.{◌≡◌, ℕ, Bool, true, false, Some, None, Ok, Err, List, Option, Result}
use Rattle.tables.specs.Layout.{Content}
use Rattle.outside.specs.declared.outside.Outside.{Ghosts}
use Rattle.evaluation.specs.declared.refusal.EvaluationRefusal.{EvaluationRefusal}
use Rattle.evaluation.specs.declared.value.Value.{Value}
use Rattle.evaluation.specs.declared.value.Values.{Values}
use Rattle.evaluation.specs.Plans.{Plan}
use Rattle.evaluation.specs.Stores.{Longer}
use Rattle.evaluation.specs.Values.{Data, values_of}
use Rattle.steps.specs.declared.records.CallRecord.{CallRecord}
use Rattle.steps.specs.declared.refusal.Refusal.{Refusal}
use Rattle.steps.specs.declared.refusal.Refusal.TheVariants as refusal
use Rattle.steps.specs.Changes.{with_cells}
use Rattle.steps.specs.Configurations.{Configuration, call_at}
use Rattle.steps.specs.Observing.{Fulfils, observation}
use Rattle.steps.specs.Outcomes.{Observation, Outcome, Request, not_there, plan_ending}
use Rattle.run.specs.Runs.{RunView}

abbrev pub is_delivery : Request → Bool
is_delivery (Request.deliver call) = true
is_delivery _ = false

-- the outcome of a rule for a call, if the call is there
abbrev pub at_call : (CallRecord → Outcome) → Option CallRecord → Outcome
at_call rule None = not_there
at_call rule (Some x) = rule x

-- A step with this outcome was tried, which delivers nothing. A refusal may leave cells behind the earlier ones, and nothing else.
abbrev pub AdvancesAs : {O : Type 0} → Ghosts O → Outcome → Configuration → O → Result (Unit {0}) Refusal → Configuration → O → Type 0
AdvancesAs g (Err e) c o r c′ o′ = (r ≡ Err e) × (with_cells c′ c.cells ≡ c) × Longer c.cells c′.cells × (o′ ≡ o)
AdvancesAs g (Ok d) c o r c′ o′ =
    (r ≡ Ok tt) × (c′ ≡ d.configuration) × Longer c.cells c′.cells × Fulfils g o d.request o′ × (is_delivery d.request ≡ false)

-- The same of a step that asks nothing of the outside.
abbrev pub StandsAs : Outcome → Configuration → Result (Unit {0}) Refusal → Configuration → Type 0
StandsAs (Err e) c r c′ = (r ≡ Err e) × (with_cells c′ c.cells ≡ c) × Longer c.cells c′.cells
StandsAs (Ok d) c r c′ = (r ≡ Ok tt) × (c′ ≡ d.configuration) × Longer c.cells c′.cells × (d.request ≡ Request.nothing)

-- what a configuration becomes, and what is asked, when call n moves that is x
abbrev pub Rule : Type 0
Rule = Content → Configuration → (n : ℕ) → (x : CallRecord) → Outcome

-- A rule was tried for a call.
abbrev pub Stands : Rule → RunView → ℕ → Result (Unit {0}) Refusal → RunView → Type 0
Stands rule r n result r′ = StandsAs (at_call (rule r.model r.at n) (call_at r.at n)) r.at result r′.at

-- The same of a rule that sees the outside.
abbrev pub Advances : {O : Type 0} → Ghosts O → (Observation → Rule) → RunView → O → ℕ → Result (Unit {0}) Refusal → RunView → O → Type 0
Advances g rule r o n result r′ o′ =
    AdvancesAs g (at_call (rule (observation g o) r.model r.at n) (call_at r.at n)) r.at o result r′.at o′

-- What a plan that a call has carried out comes to: the answer, and the configuration with the cells that it leaves.
abbrev pub plan_result_of : {A : Type 0} → Configuration → Result A EvaluationRefusal → List Data → Result (A × Configuration) Refusal
plan_result_of c (Ok a) cells = Ok (a, with_cells c cells)
plan_result_of c (Err e) cells = Err (refusal.Evaluation e)

abbrev pub plan_result : {A : Type 0} → Content → Configuration → (CallRecord → Plan A) → Option CallRecord → Result (A × Configuration) Refusal
plan_result m c p None = Err refusal.NoSuchCall
plan_result m c p (Some x) = plan_result_of c (plan_ending m c x (p x)).answer (plan_ending m c x (p x)).state.cells

-- That was done; a refusal leaves the run as it was.
abbrev pub GivesAs : {A : Type 0} → Result (A × Configuration) Refusal → Configuration → Result A Refusal → Configuration → Type 0
GivesAs (Err e) c r c′ = (r ≡ Err e) × (c′ ≡ c)
GivesAs (Ok (a, d)) c r c′ = (r ≡ Ok a) × (c′ ≡ d) × Longer c.cells c′.cells

-- A plan was carried out where a call stands.
abbrev pub Gives : {A : Type 0} → (Configuration → CallRecord → Plan A) → RunView → ℕ → Result A Refusal → RunView → Type 0
Gives p r n result r′ = GivesAs (plan_result r.model r.at (p r.at) (call_at r.at n)) r.at result r′.at

abbrev pub values_given : Result Values Refusal → Result (List Value) Refusal
values_given (Ok vs) = Ok (values_of vs)
values_given (Err e) = Err e
