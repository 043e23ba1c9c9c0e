-- Cells are only added.
use Rattle.std.proofs.Common.{◌≡◌, ℕ, zero, suc, Bool, true, false, cond, eqb, List, [], ◌∷◌, ◌++◌, length, take, nat_lt, Ok, Err, Result, refl, sym, ap, ◌∙◌, append-nil, append_assoc}
use Rattle.std.proofs.Math.Seq.{take-append_seam}
use Rattle.std.specs.List.{slice_get}
use Rattle.tables.specs.Layout.{Content}
use Rattle.evaluation.specs.declared.refusal.EvaluationRefusal.{EvaluationRefusal}
use Rattle.evaluation.specs.declared.refusal.EvaluationRefusal.TheVariants.{VisitsSpent}
use Rattle.evaluation.specs.Evaluation.{State, Ending, ending, after, made, paid, Worker, run, step, work, carried_out}
use Rattle.evaluation.specs.Plans.{Task, Plan, done, refuse, visit, make, read}
use Rattle.evaluation.specs.Rules.{rule}
use Rattle.evaluation.specs.Stores.{with_cell, Longer}
use Rattle.evaluation.specs.Values.{Data}

pub longer_same : (cs : List Data) → Longer cs cs
longer_same cs = ([], sym (append-nil cs))

pub longer_then : (cs ds es : List Data) → Longer cs ds → Longer ds es → Longer cs es
longer_then cs ds es h k = (h.0 ++ k.0, k.1 ∙ ap (λ (xs : List Data). xs ++ k.0) h.1 ∙ append_assoc cs h.0 k.0)

longer_made : (cs : List Data) (d : Data) → Longer cs (with_cell cs d)
longer_made cs d = go (nat_lt (length cs) 256)
  where
    go : (b : Bool) → Longer cs (cond b (cs ++ d ∷ []) cs)
    go true = (d ∷ [], refl)
    go false = longer_same cs

longer_after : {A B : Type 0} (r : Result A EvaluationRefusal) (s : State) (f : A → State → Ending B) → ((a : A) → Longer s.cells (f a s).state.cells) →
    Longer s.cells (after r s f).state.cells
longer_after (Ok a) s f each = each a
longer_after (Err e) s f each = longer_same s.cells

run_longer : {A : Type 0} (worker : Worker) → ((task : Task) (s : State) → Longer s.cells (worker task s).state.cells) → (p : Plan A) (s : State) →
    Longer s.cells (run worker p s).state.cells
unfolding run
run_longer worker each (done a) s = longer_same s.cells
run_longer worker each (refuse e) s = longer_same s.cells
run_longer worker each (visit task k) s =
    let e : Ending _ = worker task s in
    longer_then s.cells e.state.cells _ (each task s) (longer_after e.answer e.state (λ v s'. run worker (k v) s') (λ v. run_longer worker each (k v) e.state))
run_longer worker each (make d k) s =
    let e : Ending ℕ = made d s in
    longer_then s.cells e.state.cells _ (longer_made s.cells d) (longer_after e.answer e.state (λ i s'. run worker (k i) s') (λ i. run_longer worker each (k i) e.state))
run_longer worker each (read i k) s = run_longer worker each (k (slice_get s.cells i)) s

module _ (m : Content) (this : ℕ) where
  step_longer : (worker : Worker) → ((task : Task) (s : State) → Longer s.cells (worker task s).state.cells) → (task : Task) (s : State) →
      Longer s.cells (step m this worker task s).state.cells
  unfolding step
  step_longer worker each task s = go (eqb s.left 0)
    where
      go : (b : Bool) → Longer s.cells (cond b (ending (Err VisitsSpent) s) (run worker (rule m this task) (paid s))).state.cells
      go true = longer_same s.cells
      go false = run_longer worker each (rule m this task) (paid s)

  pub work_longer : (depth : ℕ) (task : Task) (s : State) → Longer s.cells (work m this depth task s).state.cells
  unfolding work
  work_longer zero task s = longer_same s.cells
  work_longer (suc depth) task s = step_longer (work m this depth) (work_longer depth) task s

  pub out_longer : {A : Type 0} (p : Plan A) (s : State) → Longer s.cells (carried_out m this p s).state.cells
  unfolding carried_out
  out_longer p s = run_longer (work m this s.left) (work_longer s.left) p s

-- what a cut leaves of longer cells
pub cut_back : (cs ds : List Data) → Longer cs ds → take (length cs) ds ≡ cs
cut_back cs ds h = ap (take (length cs)) h.1 ∙ take-append_seam cs h.0
