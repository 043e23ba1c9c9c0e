-- Runs over an outside that is determined, as the house is and the script.
use Rattle.std.specs.Prelude.{◌≡◌, ℕ}
use Rattle.tables.specs.Layout.{Content}
use Rattle.outside.specs.declared.outside.Outside.{Ghosts}
use Rattle.outside.specs.Outsides.{OutgoingCall}
use Rattle.steps.specs.Histories.{History, Linked, answers_in, choices_in, first, now}

module _ {O : Type 0} (g : Ghosts O) where
  -- A take and a delivery leave one outside each.
  pub record HasOneOutcome : Type 0 where
    pub takes : (o p q : O) (c : OutgoingCall) → g.after_take o c p → g.after_take o c q → p ≡ q
    pub delivers : (o p q : O) (n : ℕ) → g.after_delivery o n p → g.after_delivery o n q → p ≡ q

  -- Two runs of a model that begin over one such outside and make the same choices have the same answers, and come to the same moment.
  abbrev pub RunsAgree : Content → Type 0
  RunsAgree m = HasOneOutcome → (h k : History O) → Linked g m h → Linked g m k → (first h).outside ≡ (first k).outside → choices_in h ≡ choices_in k →
      (now h ≡ now k) × (answers_in h ≡ answers_in k)
