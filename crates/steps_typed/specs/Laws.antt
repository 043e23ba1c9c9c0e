-- Types: an accepted choice keeps a configuration typed, and the default of a type is a value of it.
use Rattle.std.specs.Prelude.{◌≡◌, ℕ, true, List, Some, IfOk}
use Rattle.tables.specs.Layout.{Content}
use Rattle.syntax.specs.declared.types.ValueType.{ValueType}
use Rattle.syntax.specs.Types.{type_at}
use Rattle.evaluation.specs.Typed.{Has, Referents}
use Rattle.evaluation.specs.Values.{Data}
use Rattle.steps.specs.declared.records.CallRecord.{CallRecord}
use Rattle.steps.specs.declared.state.CallState.TheVariants as state
use Rattle.steps.specs.Configurations.{Configuration, call_at}
use Rattle.steps.specs.Defaults.{default_of}
use Rattle.steps.specs.Outcomes.{Observation}
use Rattle.steps.specs.Sound.{IsTyped}
use Rattle.steps.specs.States.{is_unfinished}
use Rattle.steps.specs.Steps.{step}

-- The caller of an unfinished process waits for it.
abbrev pub CallersWait : Configuration → Type 0
CallersWait c = (n k : ℕ) (x : CallRecord) → call_at c n ≡ Some x → is_unfinished x.state ≡ true → x.caller ≡ Some k →
    (y : CallRecord) × (call_at c k ≡ Some y) × (y.state ≡ state.Calling n)

-- What a choice makes of a typed configuration is typed, whatever the outside says, if callers wait.
abbrev pub StepsKeepTypes : Content → Type 0
StepsKeepTypes m = (c : Configuration) (seen : Observation) (choice : ℕ) → IsTyped m c → CallersWait c →
    IfOk (step m c seen choice) (λ d. IsTyped m d.configuration)

-- The default of each type of the model is a value of it.
abbrev pub DefaultsAreValues : Content → Type 0
DefaultsAreValues m = (row : ℕ) (t : ValueType) → type_at m row ≡ Some t → (known : Referents) (cells : List Data) → Has m known cells (default_of m t) t
