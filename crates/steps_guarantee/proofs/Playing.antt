-- A run that was led through a list of choices is as guaranteed.
use Rattle.std.proofs.Common.{◌≡◌, ℕ, List, sym, ap, ◌∙◌, refl, inl}
use Rattle.tables.specs.Layout.{Content}
use Rattle.outside.specs.declared.outside.Outside.{Ghosts}
use Rattle.steps.specs.Account.{Account}
use Rattle.steps.specs.Histories.{Answer, History, IsPartOf, Moment, PlaysTo}
use Rattle.loading.specs.Accepted.{IsAccepted}
use Rattle.steps_laws.specs.Laws.{account_over}
use Rattle.steps_laws.proofs.WholeRuns.{OutsideLaws}
use Rattle.steps_guarantee.specs.WholeRuns.{WholeRun}
use Rattle.steps_guarantee.proofs.Guaranteed.{always_guaranteed}

-- a history is a part of itself
pub whole : {O : Type 0} (h : History O) → IsPartOf h h
whole (History.start s) = refl
whole (History.after h e t) = inl refl

-- after the last choice
pub plays_last : {O : Type 0} (g : Ghosts O) (m : Content) → OutsideLaws g → IsAccepted m → (o : O) (ns : List ℕ) (answers : List Answer) (s : Moment O) (a : Account) →
    PlaysTo g m o ns answers s → a ≡ account_over s.configuration (g.waits s.outside) → WholeRun g m o ns answers a s.outside
plays_last {O} g m laws k o ns answers s a plays accounts =
    let guaranteed = always_guaranteed g laws m k plays.history plays.linked in
    record {
      history = plays.history;
      linked = plays.linked;
      begins = plays.begins;
      chooses = plays.chooses;
      tells = plays.tells;
      ends = ap (λ (p : Moment O). p.outside) plays.ends;
      accounts = accounts ∙ ap (λ (p : Moment O). account_over p.configuration (g.waits p.outside)) (sym plays.ends)
          ∙ guaranteed.closing plays.history (whole plays.history);
      guaranteed = guaranteed;
    }
