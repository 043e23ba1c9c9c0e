-- What follows a typed evaluation is typed, if it is for each value of the type.
use Rattle.std.proofs.Common.{false, ◌≡◌, ℕ, List, Some, Ok, Err, Result, IfOk, true}
use Rattle.tables.specs.Layout.{Content}
use Rattle.shape.specs.Shape.{is_outside_class}
use Rattle.syntax.specs.declared.types.ValueType.{ValueType}
use Rattle.typing.specs.declared.within.Within.TheVariants as within
use Rattle.typing.specs.Expressions.{type_in}
use Rattle.typing.specs.Scopes.{method_scope}
use Rattle.typing.specs.Statements.{goes_on}
use Rattle.evaluation.specs.declared.refusal.EvaluationRefusal.{EvaluationRefusal}
use Rattle.evaluation.specs.Plans.{Plan, ask}
use Rattle.evaluation.specs.Stores.{Longer}
use Rattle.evaluation.specs.Typed.{Referents, Extends, FunctionsTyped, Worth}
use Rattle.evaluation.specs.Values.{Data}
use Rattle.evaluation.specs.Evaluation.{State, carried_out}
use Rattle.evaluation.proofs.Meeting.{Ends, Meets, out_meets}
use Rattle.evaluation.proofs.TypedRules.{kept}
use Rattle.evaluation.proofs.TypedTasks.{typing}
use Rattle.evaluation.proofs.TypedWorths.{ask_keeps}
use Rattle.steps.specs.declared.state.CallState.{CallState}
use Rattle.steps.specs.declared.records.CallRecord.{CallRecord}
use Rattle.steps.specs.Changes.{with_cells}
use Rattle.steps.specs.Configurations.{Configuration, call_environment}
use Rattle.steps.specs.Outcomes.{Outcome, on_answer, on_ending, plan_ending}
use Rattle.steps.specs.Sound.{referents}
use Rattle.steps.specs.States.{is_outside, is_unfinished}
use Rattle.steps_typed.proofs.Keeping.{call_more}
use Rattle.steps_typed.proofs.Slots.{slots_typed}
use Rattle.steps_typed.proofs.Typings.{CallTyped, ConfigurationTyped}
use Rattle.syntax.specs.Types.{is_plain_type}
use Rattle.syntax.specs.Types.{type_at}

module _ (m : Content) (refs : Referents) (this : ℕ) where
  -- a plan keeps types, and its answer is one of which Q holds
  abbrev pub PlanKeeps : {A : Type 0} → (A → List Data → Type 0) → List Data → Plan A → Type 0
  PlanKeeps Q cells p = Meets (typing m refs this) Q cells p

  -- A plan that keeps types ends so.
  pub plan_ends : FunctionsTyped m → {A : Type 0} (Q : A → List Data → Type 0) (p : Plan A) (s : State) → PlanKeeps Q s.cells p → Ends Q (carried_out m this p s)
  plan_ends functions Q p s keeps = out_meets (typing m refs this) m this (kept m refs this functions) Q p s keeps

module _ (m : Content) where
  -- the configuration of an outcome is typed, if there is one
  abbrev pub OutcomeTyped : Outcome → Type 0
  OutcomeTyped out = IfOk out (λ d. ConfigurationTyped m d.configuration)

  -- a typed call at another statement and in another state
  abbrev pub in_state_typed : {refs : Referents} {cells : List Data} (x : CallRecord) (t : CallTyped m refs cells x) (row : ℕ) (s : CallState) →
      (is_unfinished s ≡ true → goes_on t.method row ≡ true) → (is_unfinished s ≡ true → is_outside_class t.class ≡ false) →
      (is_outside s ≡ true → (u : ValueType) × (type_at m t.method.result ≡ Some u) × (is_plain_type u ≡ true)) →
      CallTyped m refs cells (record x { statement = row; state = s })
  in_state_typed x t row s stands inside plain = record {
    class = t.class;
    of_class = t.of_class;
    method = t.method;
    called = t.called;
    belongs = t.belongs;
    slots = t.slots;
    result = t.result;
    stands = stands;
    inside = inside;
    plain = plain;
  }

  module _ (c : Configuration) (x : CallRecord) where
    on_ending_typed : {A : Type 0} (Q : A → List Data → Type 0) (k : A → Configuration → Outcome) (r : Result A EvaluationRefusal) (cells : List Data) →
        IfOk r (λ a. Q a cells) → ((a : A) → Q a cells → OutcomeTyped (k a (with_cells c cells))) → OutcomeTyped (on_ending c k r cells)
    on_ending_typed Q k (Ok a) cells ends each = each a ends
    on_ending_typed Q k (Err e) cells ends each = tt

    pub on_answer_typed : {A : Type 0} (Q : A → List Data → Type 0) (p : Plan A) (k : A → Configuration → Outcome) → Ends Q (plan_ending m c x p) →
        ((a : A) (cells : List Data) → Q a cells → OutcomeTyped (k a (with_cells c cells))) → OutcomeTyped (on_answer m c x p k)
    on_answer_typed Q p k ends each =
        on_ending_typed Q k (plan_ending m c x p).answer (plan_ending m c x p).state.cells ends (λ a. each a (plan_ending m c x p).state.cells)

    module _ (h : ConfigurationTyped m c) (functions : FunctionsTyped m) (t : CallTyped m (referents m c) c.cells x) where
      -- an expression of the statement has a worth of its type
      pub worth_ends : (row : ℕ) (u : ValueType) → type_in m (within.Class t.class) row (method_scope m t.class t.method) ≡ Some u →
          Ends (Worth m (referents m c) u c.cells) (plan_ending m c x (ask row (call_environment c x)))
      worth_ends row u typed = ask_keeps m (referents m c) x.object row (record { left = 10000; cells = c.cells }) (call_environment c x) functions (record {
        within = within.Class t.class;
        scope = method_scope m t.class t.method;
        type = u;
        serves = t.of_class;
        slots = slots_typed m c h x t;
        store = h.store;
        typed = typed;
      })

      -- and after it the configuration and the call are typed
      abbrev pub call_after : (cells : List Data) → Longer c.cells cells → CallTyped m (referents m (with_cells c cells)) cells x
      call_after cells longer =
          let same : Extends (referents m c) (referents m (with_cells c cells)) = record { objects = λ o k e. e; calls = λ f r e. e } in
          call_more m c.cells cells same longer t
