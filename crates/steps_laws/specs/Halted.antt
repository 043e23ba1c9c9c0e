-- Configurations in which every choice is refused.
use Rattle.std.specs.Prelude.{◌≡◌, ◌⊎◌, ℕ, true, Some, None, Ok, Err, Option, is_err, is_some}
use Rattle.tables.specs.Layout.{Content}
use Rattle.syntax.specs.declared.statements.Statement.TheVariants as statement
use Rattle.outside.specs.declared.value.Reply.{Reply}
use Rattle.outside.specs.Outsides.{Waits}
use Rattle.outside.specs.Values.{sort_of}
use Rattle.evaluation.specs.declared.value.Value.TheVariants as value
use Rattle.evaluation.specs.Plans.{ask}
use Rattle.steps.specs.declared.records.CallRecord.{CallRecord}
use Rattle.steps.specs.declared.refusal.Refusal.{Refusal}
use Rattle.steps.specs.declared.state.CallState.{CallState}
use Rattle.steps.specs.declared.state.CallState.TheVariants as state
use Rattle.steps.specs.Configurations.{Configuration, call_at, call_environment, statement_at, value_at}
use Rattle.steps.specs.Guards.{at_false_await}
use Rattle.steps.specs.Outcomes.{Observation, plan_ending}
use Rattle.steps.specs.Refusals.{is_of_model}
use Rattle.steps.specs.Sound.{Beside}
use Rattle.steps.specs.States.{is_active, is_unfinished}
use Rattle.steps.specs.Steps.{step}

-- What is seen is what an outside says in which these calls wait: the next reply is to one of them, with a value of its sort; and where
-- none waits, there is room for every class.
pub record Reports (seen : Observation) (waits : Waits) : Type 0 where
  pub none : seen.next ≡ None → (n : ℕ) → waits n ≡ None
  pub some : (r : Reply) → seen.next ≡ Some r → waits r.call ≡ Some (sort_of r.value)
  pub room : ((n : ℕ) → waits n ≡ None) → (class : ℕ) → seen.room class ≡ true
  pub waiting : (n : ℕ) → seen.waiting n ≡ is_some (waits n)

module _ (m : Content) (c : Configuration) (x : CallRecord) (k : ℕ) where
  -- The process stands at a get, and the future that it names is that of call k and has no value.
  abbrev pub GetsFrom : Type 0
  GetsFrom = (target : Option ℕ) × (future : ℕ) × (next : ℕ) × (statement_at m x.statement ≡ Some (statement.Get target future next))
      × ((plan_ending m c x (ask future (call_environment c x))).answer ≡ Ok (value.Future k)) × (value_at c k ≡ None)

  -- A queued process waits for the active one of its group, and any other for the call whose result it lacks.
  abbrev pub WaitsAs : CallState → Type 0
  WaitsAs state.Queued = (y : CallRecord) × (call_at c k ≡ Some y) × (is_active y.state ≡ true) × Beside c y x
  WaitsAs (state.Active None) = GetsFrom
  WaitsAs (state.Active (Some callee)) = (callee ≡ k) × (value_at c k ≡ None)
  WaitsAs (state.Calling callee) = callee ≡ k
  WaitsAs _ = ⊥

  -- the process waits for call k
  abbrev pub WaitsFor : Type 0
  WaitsFor = WaitsAs x.state

module _ (m : Content) (c : Configuration) where
  -- the process waits for an unfinished one
  abbrev pub WaitsForUnfinished : CallRecord → Type 0
  WaitsForUnfinished x = (k : ℕ) × (y : CallRecord) × WaitsFor m c x k × (call_at c k ≡ Some y) × (is_unfinished y.state ≡ true)

  module _ (seen : Observation) where
    -- The process is refused with one of the numbers from 20 to 25.
    abbrev pub MeetsRefusal : (n : ℕ) → Type 0
    MeetsRefusal n = (e : Refusal) × (step m c seen n ≡ Err e) × (is_of_model e ≡ true)

    -- whatever is chosen is refused
    abbrev pub EveryChoiceRefused : Type 0
    EveryChoiceRefused = (choice : ℕ) → is_err (step m c seen choice) ≡ true

    -- Nothing waits outside. Each unfinished process meets a refusal of the model's own, stands at an await whose guard is false, or waits
    -- for an unfinished process.
    pub record Halted (waits : Waits) : Type 0 where
      pub nothing_waits : (n : ℕ) → waits n ≡ None
      pub processes : (n : ℕ) (x : CallRecord) → call_at c n ≡ Some x → is_unfinished x.state ≡ true →
          MeetsRefusal n ⊎ ((at_false_await m c x ≡ true) ⊎ WaitsForUnfinished x)
