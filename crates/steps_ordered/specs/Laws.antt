-- The laws of an accepted choice, for configurations in order.
use Rattle.std.specs.Prelude.{◌≡◌, ℕ, IfOk}
use Rattle.tables.specs.Layout.{Content}
use Rattle.outside.specs.Outsides.{Waits}
use Rattle.steps.specs.Configurations.{Configuration}
use Rattle.steps.specs.Outcomes.{Observation}
use Rattle.steps.specs.Sound.{InOrder, WaitsBecome, calls_outside}
use Rattle.steps.specs.Steps.{step}
use Rattle.steps_ordered.specs.Ending.{EndsBy, finish_of}
use Rattle.steps_ordered.specs.Lasting.{HaveObjects, KeepsIdentities, KeepsValues}

-- The configuration stays in order, and exactly the calls that are out wait outside, if they did.
abbrev pub OrderLasts : Type 0
OrderLasts = (m : Content) (c : Configuration) (seen : Observation) (waits : Waits) → InOrder c → HaveObjects c → ((k : ℕ) → waits k ≡ calls_outside m c k) → (choice : ℕ) →
    IfOk (step m c seen choice) (λ d. InOrder d.configuration
    × ((after : Waits) → WaitsBecome waits d.request after → (k : ℕ) → after k ≡ calls_outside m d.configuration k))

-- Futures keep their values.
abbrev pub ValuesLast : Type 0
ValuesLast = (m : Content) (c : Configuration) (seen : Observation) → InOrder c → HaveObjects c → (choice : ℕ) →
    IfOk (step m c seen choice) (λ d. KeepsValues c d.configuration)

-- Calls and objects stay the same under their numbers.
abbrev pub IdentitiesLast : Type 0
IdentitiesLast = (m : Content) (c : Configuration) (seen : Observation) → InOrder c → HaveObjects c → (choice : ℕ) →
    IfOk (step m c seen choice) (λ d. KeepsIdentities c d.configuration)

-- A call ends where its process returns or a reply to it comes, and nowhere else.
abbrev pub CallsEnd : Type 0
CallsEnd = (m : Content) (c : Configuration) (seen : Observation) → InOrder c → HaveObjects c → (choice : ℕ) →
    IfOk (step m c seen choice) (λ d. EndsBy (finish_of m c seen choice) c d.configuration)
