-- The laws of a visit.
use Rattle.std.proofs.Common.{◌≡◌, ℕ, ◌∙◌, inl, inr, arith}
use Rattle.std.proofs.lemmas.Bool.{cases_lt, eq-eqb, ne_eqb}
use Rattle.tables.specs.Layout.{Content}
use Rattle.evaluation.specs.Evaluation.{State}
use Rattle.evaluation.specs.Laws.{visited, VisitLaws}
use Rattle.evaluation.specs.Plans.{Task}
use Rattle.evaluation.proofs.Depths.{worth, worth_spent, worth_visited, work_same, worth_falls}
use Rattle.evaluation.proofs.Growing.{work_longer}

module _ (m : Content) (this : ℕ) where
  worth_is : (task : Task) (s : State) → worth m this task s ≡ visited m this task s
  worth_is task s = elim (cases_lt 0 s.left) [
    | inl some ↦ rw (ne_eqb s.left 0 (λ e. omega arith)) (worth_visited m this task s some)
    | inr none ↦ (let spent : s.left ≡ 0 = omega arith in rw (eq-eqb s.left 0 spent) (worth_spent m this task s spent))
  ]

  pub visit_laws : VisitLaws m this
  visit_laws = record {
    depth_never_shows = λ depth task s le. (work_same m this depth s.left task s le (omega arith)).same ∙ worth_is task s;
    visits_never_rise = λ task s. rw (← worth_is task s) (worth_falls m this task s);
    cells_are_added = λ task s. rw (← worth_is task s) (work_longer m this s.left task s);
  }
