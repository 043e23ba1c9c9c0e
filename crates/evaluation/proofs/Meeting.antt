-- What holds of all worths, proved once over plans: each task asks something of the cells, and its worth makes something of them.
use Rattle.std.proofs.Common.{ℕ, zero, suc, Bool, true, false, cond, List, [], ◌∷◌, ◌++◌, length, Ok, Err, Result, IfOk}
use Rattle.std.specs.Prelude.{◌==◌, nat_lt, ⊤}
use Rattle.std.specs.List.{slice_get}
use Rattle.tables.specs.Layout.{Content}
use Rattle.evaluation.specs.declared.refusal.EvaluationRefusal.{EvaluationRefusal}
use Rattle.evaluation.specs.declared.refusal.EvaluationRefusal.TheVariants.{VisitsSpent, NoCell}
use Rattle.evaluation.specs.declared.value.Value.{Value}
use Rattle.evaluation.specs.Evaluation.{State, Ending, ending, after, paid, Worker, run, step, work, carried_out}
use Rattle.evaluation.specs.Plans.{Task, Plan, done, refuse, visit, make, read, ◌>>=◌}
use Rattle.evaluation.specs.Rules.{rule}
use Rattle.evaluation.specs.Values.{Data}

-- What a task asks of the cells, and what its worth makes of them.
pub record Claim : Type 1 where
  pub Asked : List Data → Task → Type 0
  pub Made : (cells : List Data) (task : Task) → Asked cells task → Value → List Data → Type 0

-- A plan asks of the cells what its tasks ask, and its answer is one of which `Q` holds.
abbrev pub Meets : {A : Type 0} → Claim → (A → List Data → Type 0) → List Data → Plan A → Type 0
Meets claim Q cells (done a) = Q a cells
Meets claim Q cells (refuse e) = ⊤
Meets claim Q cells (visit task k) =
    (asked : claim.Asked cells task) × ((v : Value) (later : List Data) → claim.Made cells task asked v later → Meets claim Q later (k v))
Meets claim Q cells (make d k) = Meets claim Q (cells ++ d ∷ []) (k (length cells))
Meets claim Q cells (read i k) = Meets claim Q cells (k (slice_get cells i))

-- an ending whose answer, if there is one, is one of which `Q` holds
abbrev pub Ends : {A : Type 0} → (A → List Data → Type 0) → Ending A → Type 0
Ends Q e = IfOk e.answer (λ a. Q a e.state.cells)

module _ (claim : Claim) where
  -- one plan after another
  pub meets_then : {A B : Type 0} (P : A → List Data → Type 0) (Q : B → List Data → Type 0) (p : Plan A) (f : A → Plan B) (cells : List Data) →
      Meets claim P cells p → ((a : A) (later : List Data) → P a later → Meets claim Q later (f a)) → Meets claim Q cells (p >>= f)
  meets_then P Q (done a) f cells h each = each a cells h
  meets_then P Q (refuse e) f cells h each = tt
  meets_then P Q (visit task k) f cells h each = (h.0, λ v later worth. meets_then P Q (k v) f later (h.1 v later worth) each)
  meets_then P Q (make d k) f cells h each = meets_then P Q (k (length cells)) f (cells ++ d ∷ []) h each
  meets_then P Q (read i k) f cells h each = meets_then P Q (k (slice_get cells i)) f cells h each

  ends_after : {A B : Type 0} (P : A → List Data → Type 0) (Q : B → List Data → Type 0) (r : Result A EvaluationRefusal) (s : State) (f : A → State → Ending B) →
      IfOk r (λ a. P a s.cells) → ((a : A) → P a s.cells → Ends Q (f a s)) → Ends Q (after r s f)
  ends_after P Q (Ok a) s f h each = each a h
  ends_after P Q (Err e) s f h each = tt

  -- a worker whose worths are as claimed
  abbrev Works : Worker → Type 0
  Works worker = (task : Task) (s : State) (asked : claim.Asked s.cells task) → Ends (claim.Made s.cells task asked) (worker task s)

  made_meets : {A : Type 0} (Q : A → List Data → Type 0) (worker : Worker) → Works worker → (d : Data) (k : ℕ → Plan A) (s : State) (room : Bool) →
      ((t : State) → Meets claim Q t.cells (k (length s.cells)) → Ends Q (run worker (k (length s.cells)) t)) → Meets claim Q (s.cells ++ d ∷ []) (k (length s.cells)) →
      Ends Q (after (cond room (Ok (length s.cells)) (Err NoCell)) (record { left = s.left; cells = cond room (s.cells ++ d ∷ []) s.cells }) (λ i t. run worker (k i) t))
  made_meets Q worker works d k s true each h = each (record { left = s.left; cells = s.cells ++ d ∷ [] }) h
  made_meets Q worker works d k s false each h = tt

  run_meets : {A : Type 0} (Q : A → List Data → Type 0) (worker : Worker) → Works worker → (p : Plan A) (s : State) → Meets claim Q s.cells p → Ends Q (run worker p s)
  unfolding run
  run_meets Q worker works (done a) s h = h
  run_meets Q worker works (refuse e) s h = tt
  run_meets Q worker works (visit task k) s h =
      let e : Ending Value = worker task s in
      ends_after (claim.Made s.cells task h.0) Q e.answer e.state (λ v t. run worker (k v) t) (works task s h.0) (λ v worth. run_meets Q worker works (k v) e.state (h.1 v e.state.cells worth))
  run_meets Q worker works (make d k) s h =
      made_meets Q worker works d k s (nat_lt (length s.cells) 256) (λ t h'. run_meets Q worker works (k (length s.cells)) t h') h
  run_meets Q worker works (read i k) s h = run_meets Q worker works (k (slice_get s.cells i)) s h

  module _ (m : Content) (this : ℕ)
      (kept : (task : Task) (cells : List Data) (asked : claim.Asked cells task) → Meets claim (claim.Made cells task asked) cells (rule m this task)) where
    step_meets : (worker : Worker) → Works worker → Works (step m this worker)
    unfolding step
    step_meets worker works task s asked = go (s.left == 0)
      where
        go : (b : Bool) → Ends (claim.Made s.cells task asked) (cond b (ending (Err VisitsSpent) s) (run worker (rule m this task) (paid s)))
        go true = tt
        go false = run_meets (claim.Made s.cells task asked) worker works (rule m this task) (paid s) (kept task s.cells asked)

    work_meets : (depth : ℕ) → Works (work m this depth)
    unfolding work
    work_meets zero task s asked = tt
    work_meets (suc depth) task s asked = step_meets (work m this depth) (work_meets depth) task s asked

    -- A plan ends as it meets the claim, if each rule does.
    pub out_meets : {A : Type 0} (Q : A → List Data → Type 0) (p : Plan A) (s : State) → Meets claim Q s.cells p → Ends Q (carried_out m this p s)
    unfolding carried_out
    out_meets Q p s h = run_meets Q (work m this s.left) (work_meets s.left) p s h
