-- A run is led on by its choices: what a loop over them needs.
use Rattle.std.proofs.Common.{◌≡◌, ℕ, List, [], ◌∷◌, ◌++◌, None, refl, sym, ap, subst}
use Rattle.tables.specs.Layout.{Content}
use Rattle.outside.specs.declared.outside.Outside.{Ghosts}
use Rattle.steps.specs.Histories.{Answer, Chosen, Event, History, Moment, PlaysTo}
use Rattle.steps.specs.Opening.{first_configuration}

module _ {O : Type 0} (g : Ghosts O) (m : Content) (o : O) where
  -- before the first choice
  pub plays_first : ((n : ℕ) → g.waits o n ≡ None) → PlaysTo g m o [] [] (record { configuration = first_configuration m; outside = o })
  plays_first none = record {
    history = History.start (record { configuration = first_configuration m; outside = o });
    linked = (refl, none);
    begins = refl;
    chooses = refl;
    tells = refl;
    ends = refl;
  }

  -- one choice more
  pub plays_on : (ns : List ℕ) (answers : List Answer) (s t : Moment O) (n : ℕ) (a : Answer) → PlaysTo g m o ns answers s → Chosen g m s n a t →
      PlaysTo g m o (ns ++ n ∷ []) (answers ++ a ∷ []) t
  plays_on ns answers s t n a plays chosen = record {
    history = History.after plays.history (Event.choice n a) t;
    linked = (plays.linked, subst (λ (p : Moment O). Chosen g m p n a t) (sym plays.ends) chosen);
    begins = plays.begins;
    chooses = ap (λ (l : List ℕ). l ++ n ∷ []) plays.chooses;
    tells = ap (λ (l : List Answer). l ++ a ∷ []) plays.tells;
    ends = refl;
  }
