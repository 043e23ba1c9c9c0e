-- What follows what a plan of a call comes to.
use Rattle.std.proofs.Common.{◌≡◌, List, Some, None, Ok, Err, Option, Result, refl, sym, ap, ◌∙◌, subst, is_ok}
use Rattle.std.specs.Result.{result_ok}
use Rattle.std.proofs.lemmas.Bool.{true≢false, false≢true}
use Rattle.rules.proofs.Rows.{known}
use Rattle.tables.specs.Layout.{Content}
use Rattle.evaluation.specs.declared.refusal.EvaluationRefusal.{EvaluationRefusal}
use Rattle.evaluation.specs.Plans.{Plan}
use Rattle.evaluation.specs.Stores.{Longer}
use Rattle.evaluation.specs.Values.{Data}
use Rattle.steps.specs.declared.records.CallRecord.{CallRecord}
use Rattle.steps.specs.declared.refusal.Refusal.{Refusal}
use Rattle.steps.specs.Changes.{with_cells}
use Rattle.steps.specs.Configurations.{Configuration}
use Rattle.steps.specs.Outcomes.{Outcome, on_ending, on_answer, plan_ending}
use Rattle.run.specs.Choices.{StandsAs, GivesAs, at_call, plan_result, plan_result_of}
use Rattle.run.proofs.Putting.{longer_same}

-- a refusal, whatever the answer would be
abbrev tag : {A : Type 0} → Result A Refusal → Result (Unit {0}) Refusal
tag (Ok a) = Ok tt
tag (Err e) = Err e

module _ {A : Type 0} (m : Content) (c : Configuration) (p : CallRecord → Plan A) where
  -- it came to an answer
  pub record IsEvaluated (q : Option CallRecord) (v : A) (d : Configuration) : Type 0 where
    pub call : CallRecord
    pub there : q ≡ Some call
    pub comes : (k : CallRecord → A → Configuration → Outcome) → at_call (λ x. on_answer m c x (p x) (k x)) q ≡ k call v d
    pub grows : Longer c.cells d.cells
    pub same : d ≡ with_cells c d.cells

  concludes : (r : Result A EvaluationRefusal) (cells : List Data) (v : A) (d : Configuration) → GivesAs (plan_result_of c r cells) c (Ok v) d →
      ((k : A → Configuration → Outcome) → on_ending c k r cells ≡ k v d) × (d ≡ with_cells c d.cells) × Longer c.cells d.cells
  concludes (Ok a) cells v d h =
      let same : v ≡ a = known (ap result_ok h.0) in
      (λ k. λ i. k ((sym same) i) ((sym h.1) i), h.1 ∙ ap (λ (e : Configuration). with_cells c e.cells) (sym h.1), h.2)
  concludes (Err e) cells v d h = absurd (true≢false (ap is_ok h.0))

  pub evaluated_ok : (q : Option CallRecord) (v : A) (d : Configuration) → GivesAs (plan_result m c p q) c (Ok v) d → IsEvaluated q v d
  evaluated_ok None v d h = absurd (true≢false (ap is_ok h.0))
  evaluated_ok (Some x) v d h =
      let g = concludes (plan_ending m c x (p x)).answer (plan_ending m c x (p x)).state.cells v d h in
      record { call = x; there = refl; comes = λ k. g.0 (k x); grows = g.2; same = g.1 }

  refuses : (k : A → Configuration → Outcome) (r : Result A EvaluationRefusal) (cells : List Data) (e : Refusal) (d : Configuration) → GivesAs (plan_result_of c r cells) c (Err e) d → StandsAs (on_ending c k r cells) c (Err e) d
  refuses k (Ok a) cells e d h = absurd (false≢true (ap is_ok h.0))
  refuses k (Err x) cells e d h = (ap tag h.0, ap (λ (f : Configuration). with_cells f c.cells) h.1, subst (λ (f : Configuration). Longer c.cells f.cells) (sym h.1) (longer_same c.cells))

  pub evaluated_err : (k : CallRecord → A → Configuration → Outcome) (q : Option CallRecord) (e : Refusal) (d : Configuration) → GivesAs (plan_result m c p q) c (Err e) d →
      StandsAs (at_call (λ x. on_answer m c x (p x) (k x)) q) c (Err e) d
  evaluated_err k None e d h = (ap tag h.0, ap (λ (f : Configuration). with_cells f c.cells) h.1, subst (λ (f : Configuration). Longer c.cells f.cells) (sym h.1) (longer_same c.cells))
  evaluated_err k (Some x) e d h = refuses (k x) (plan_ending m c x (p x)).answer (plan_ending m c x (p x)).state.cells e d h
