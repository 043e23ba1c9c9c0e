-- What an outside says before a choice, and what a choice asks of it.
use Rattle.std.specs.Prelude.{◌≡◌, true, is_some}
use Rattle.outside.specs.declared.outside.Outside.{Ghosts}
use Rattle.outside.specs.Outsides.{Takes, Delivers}
use Rattle.steps.specs.Outcomes.{Observation, Request}

module _ {O : Type 0} (g : Ghosts O) where
  -- what an outside says
  abbrev pub observation : O → Observation
  observation o = record { next = g.upcoming o; room = g.roomy o; waiting = λ n. is_some (g.waits o n) }

  -- what was asked of the outside is what it did
  abbrev pub Fulfils : O → Request → O → Type 0
  Fulfils o Request.nothing o′ = o′ ≡ o
  Fulfils o (Request.take c) o′ = Takes g.waits g.roomy g.after_take o c true o′
  Fulfils o (Request.deliver n) o′ = Delivers g.waits g.after_delivery o n o′
