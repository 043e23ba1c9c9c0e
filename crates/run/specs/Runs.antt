-- A run as its callers see it: its model, and the configuration at which it stands.
use Rattle.std.specs.Prelude.{ℕ}
use Rattle.tables.specs.Layout.{Content}
use Rattle.loading.specs.Accepted.{IsAccepted}
use Rattle.steps.specs.Configurations.{Configuration}
use Rattle.outside.specs.declared.outside.Outside.{Ghosts}
use Rattle.steps.specs.Histories.{Answer, Chosen, Moment}
use Rattle.steps.specs.Sound.{Sound}

pub record RunView : Type 0 where
  pub model : Content
  pub at : Configuration

-- a run and its outside
abbrev pub moment : {O : Type 0} → RunView → O → Moment O
moment r o = record { configuration = r.at; outside = o }

-- The choice was made of the run over its outside as the step says; this is its answer, and what both are then.
abbrev pub Chooses : {O : Type 0} → Ghosts O → RunView → O → (choice : ℕ) → Answer → RunView → O → Type 0
Chooses g r o n a r′ o′ = Chosen g r.model (moment r o) n a (moment r′ o′)

-- The run is of an accepted model, and sound over what waits in its outside.
abbrev pub IsSound : {O : Type 0} → Ghosts O → RunView → O → Type 0
IsSound g r o = IsAccepted r.model × Sound r.model r.at (g.waits o)
