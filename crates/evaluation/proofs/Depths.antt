-- The depth of an evaluation never shows: depths that are not below the visits left agree, and visits never rise.
use Rattle.std.proofs.Common.{◌≡◌, ℕ, zero, suc, ◌-◌, ◌≤◌, Ok, Err, Option, Result, refl, sym, ap, subst, ◌∙◌, inl, inr, arith}
use Rattle.std.proofs.lemmas.Bool.{cases_lt, eq-eqb, ne_eqb}
use Rattle.std.specs.List.{slice_get}
use Rattle.tables.specs.Layout.{Content}
use Rattle.evaluation.specs.declared.refusal.EvaluationRefusal.{EvaluationRefusal}
use Rattle.evaluation.specs.declared.refusal.EvaluationRefusal.TheVariants.{VisitsSpent}
use Rattle.evaluation.specs.declared.value.Value.{Value}
use Rattle.evaluation.specs.Evaluation.{State, Ending, ending, after, made, paid, Worker, run, step, work, carried_out}
use Rattle.evaluation.specs.Plans.{Task, Plan, done, refuse, visit, make, read, ◌>>=◌}
use Rattle.evaluation.specs.Rules.{rule}
use Rattle.evaluation.specs.Values.{Data}

-- Two endings are the same, and leave no more visits than `n`.
pub record Same {A : Type 0} (n : ℕ) (e e' : Ending A) : Type 0 where
  pub same : e ≡ e'
  pub falls : e.state.left ≤ n

-- two workers agree on tasks with at most `n` visits left
abbrev Agree : ℕ → Worker → Worker → Type 0
Agree n w w' = (task : Task) (s : State) → s.left ≤ n → Same s.left (w task s) (w' task s)

after_equal : {A B : Type 0} (r : Result A EvaluationRefusal) (t : State) (f g : A → State → Ending B) → ((a : A) → f a t ≡ g a t) → after r t f ≡ after r t g
after_equal (Ok a) t f g each = each a
after_equal (Err e) t f g each = refl

after_after : {A B C : Type 0} (r : Result A EvaluationRefusal) (t : State) (f : A → State → Ending B) (g : B → State → Ending C) →
    after (after r t f).answer (after r t f).state g ≡ after r t (λ a s. after (f a s).answer (f a s).state g)
after_after (Ok a) t f g = refl
after_after (Err e) t f g = refl

after_same : {A B : Type 0} (n : ℕ) (e e' : Ending A) (f g : A → State → Ending B) → Same n e e' →
    ((a : A) (s : State) → s.left ≤ n → Same s.left (f a s) (g a s)) → Same n (after e.answer e.state f) (after e'.answer e'.state g)
after_same n e e' f g h each =
    let P : Ending _ → Type 0 = λ x. Same n (after e.answer e.state f) (after x.answer x.state g) in
    subst P h.same (go e.answer)
  where
    go : (r : Result _ EvaluationRefusal) → Same n (after r e.state f) (after r e.state g)
    go (Ok a) = let q = each a e.state h.falls in let l = q.falls in let m = h.falls in record { same = q.same; falls = omega arith }
    go (Err x) = record { same = refl; falls = h.falls }

run_same : {A : Type 0} (n : ℕ) (w w' : Worker) (p : Plan A) (s : State) → Agree n w w' → s.left ≤ n → Same s.left (run w p s) (run w' p s)
unfolding run
run_same n w w' (done a) s agree le = record { same = refl; falls = omega arith }
run_same n w w' (refuse e) s agree le = record { same = refl; falls = omega arith }
run_same n w w' (visit task k) s agree le =
    after_same s.left (w task s) (w' task s) (λ v s'. run w (k v) s') (λ v s'. run w' (k v) s') (agree task s le)
    (λ v s' le'. run_same n w w' (k v) s' agree (omega arith))
run_same n w w' (make d k) s agree le =
    after_same s.left (made d s) (made d s) (λ i s'. run w (k i) s') (λ i s'. run w' (k i) s') (record { same = refl; falls = omega arith })
    (λ i s' le'. run_same n w w' (k i) s' agree (omega arith))
run_same n w w' (read i k) s agree le = run_same n w w' (k (slice_get s.cells i)) s agree le

module _ (m : Content) (this : ℕ) where
  spent : (task : Task) (s : State) (w : Worker) → s.left ≡ 0 → step m this w task s ≡ ending (Err VisitsSpent) s
  unfolding step
  spent task s w none = rw (eq-eqb s.left 0 none) refl

  spends : (task : Task) (s : State) (w : Worker) → 1 ≤ s.left → step m this w task s ≡ run w (rule m this task) (paid s)
  unfolding step
  spends task s w some = rw (ne_eqb s.left 0 (λ e. omega arith)) refl

  work_zero : (task : Task) (s : State) → work m this zero task s ≡ ending (Err VisitsSpent) s
  unfolding work
  work_zero task s = refl

  work_suc : (depth : ℕ) (task : Task) (s : State) → work m this (suc depth) task s ≡ step m this (work m this depth) task s
  unfolding work
  work_suc depth task s = refl

  -- with no visit left every depth is refused
  work_spent : (depth : ℕ) (task : Task) (s : State) → s.left ≡ 0 → work m this depth task s ≡ ending (Err VisitsSpent) s
  work_spent zero task s none = work_zero task s
  work_spent (suc depth) task s none = work_suc depth task s ∙ spent task s (work m this depth) none

  work_spends : (depth : ℕ) (task : Task) (s : State) → 1 ≤ s.left → work m this (suc depth) task s ≡ run (work m this depth) (rule m this task) (paid s)
  work_spends depth task s some = work_suc depth task s ∙ spends task s (work m this depth) some

  spent_same : (d d' : ℕ) (task : Task) (s : State) → s.left ≡ 0 → Same s.left (work m this d task s) (work m this d' task s)
  spent_same d d' task s none =
      let a = work_spent d task s none in
      record { same = a ∙ sym (work_spent d' task s none); falls = rw a (omega arith) }

  pub work_same : (d d' : ℕ) (task : Task) (s : State) → s.left ≤ d → s.left ≤ d' → Same s.left (work m this d task s) (work m this d' task s)
  work_same zero d' task s le le' = spent_same zero d' task s (omega arith)
  work_same (suc d) zero task s le le' = spent_same (suc d) zero task s (omega arith)
  work_same (suc d) (suc d') task s le le' = elim (cases_lt 0 s.left) [
    | inl some ↦ (
        let r = run_same (s.left - 1) (work m this d) (work m this d') (rule m this task) (paid s)
        (λ task' s' low. work_same d d' task' s' (omega arith) (omega arith)) (omega arith) in
        let a = work_spends d task s some in
        let less = r.falls in
        record { same = a ∙ r.same ∙ sym (work_spends d' task s some); falls = rw a (omega arith) }
        )
    | inr none ↦ spent_same (suc d) (suc d') task s (omega arith)
  ]

  -- What a visit comes to.
  abbrev pub worth : Task → State → Ending Value
  worth task s = work m this s.left task s

  pub worth_falls : (task : Task) (s : State) → (worth task s).state.left ≤ s.left
  worth_falls task s = (work_same s.left s.left task s (omega arith) (omega arith)).falls

  pub worth_spent : (task : Task) (s : State) → s.left ≡ 0 → worth task s ≡ ending (Err VisitsSpent) s
  worth_spent task s none = work_spent s.left task s none

  pub worth_visited : (task : Task) (s : State) → 1 ≤ s.left → worth task s ≡ carried_out m this (rule m this task) (paid s)
  unfolding carried_out
  worth_visited task s some =
      let e : s.left ≡ suc (s.left - 1) = omega arith in
      ap (λ n. work m this n task s) e ∙ work_spends (s.left - 1) task s some

  -- A plan, step by step.
  pub out_done : {A : Type 0} (a : A) (s : State) → carried_out m this (done a) s ≡ ending (Ok a) s
  unfolding carried_out run
  out_done a s = refl

  pub out_refuse : {A : Type 0} (e : EvaluationRefusal) (s : State) → carried_out m this {A = A} (refuse e) s ≡ ending (Err e) s
  unfolding carried_out run
  out_refuse e s = refl

  later : {A : Type 0} (p : Plan A) (s s' : State) → s'.left ≤ s.left → run (work m this s.left) p s' ≡ carried_out m this p s'
  unfolding carried_out
  later p s s' le =
      (run_same s'.left (work m this s.left) (work m this s'.left) p s'
      (λ task t low. work_same s.left s'.left task t (omega arith) (omega arith)) (omega arith)).same

  pub out_visit : {A : Type 0} (task : Task) (k : Value → Plan A) (s : State) →
      carried_out m this (visit task k) s ≡ after (worth task s).answer (worth task s).state (λ v s'. carried_out m this (k v) s')
  unfolding carried_out run
  out_visit task k s =
      let e : Ending Value = worth task s in
      after_equal e.answer e.state (λ v s'. run (work m this s.left) (k v) s') (λ v s'. carried_out m this (k v) s')
      (λ v. later (k v) s e.state (worth_falls task s))

  pub out_make : {A : Type 0} (d : Data) (k : ℕ → Plan A) (s : State) →
      carried_out m this (make d k) s ≡ after (made d s).answer (made d s).state (λ i s'. carried_out m this (k i) s')
  unfolding carried_out run
  out_make d k s =
      let e : Ending ℕ = made d s in
      after_equal e.answer e.state (λ i s'. run (work m this s.left) (k i) s') (λ i s'. carried_out m this (k i) s')
      (λ i. later (k i) s e.state (omega arith))

  pub out_read : {A : Type 0} (i : ℕ) (k : Option Data → Plan A) (s : State) → carried_out m this (read i k) s ≡ carried_out m this (k (slice_get s.cells i)) s
  unfolding carried_out run
  out_read i k s = refl

  -- one plan after another
  abbrev then_out : {A B : Type 0} → (A → Plan B) → Ending A → Ending B
  then_out f e = after e.answer e.state (λ a s'. carried_out m this (f a) s')

  pub out_bind : {A B : Type 0} (p : Plan A) (f : A → Plan B) (s : State) → carried_out m this (p >>= f) s ≡ then_out f (carried_out m this p s)
  out_bind (done a) f s = sym (ap (then_out f) (out_done a s))
  out_bind (refuse e) f s = out_refuse e s ∙ sym (ap (then_out f) (out_refuse e s))
  out_bind (visit task k) f s =
      let e : Ending Value = worth task s in
      out_visit task (λ v. k v >>= f) s
      ∙ after_equal e.answer e.state (λ v s'. carried_out m this (k v >>= f) s') (λ v s'. then_out f (carried_out m this (k v) s')) (λ v. out_bind (k v) f e.state)
      ∙ sym (after_after e.answer e.state (λ v s'. carried_out m this (k v) s') (λ a s'. carried_out m this (f a) s'))
      ∙ sym (ap (then_out f) (out_visit task k s))
  out_bind (make d k) f s =
      let e : Ending ℕ = made d s in
      out_make d (λ i. k i >>= f) s
      ∙ after_equal e.answer e.state (λ i s'. carried_out m this (k i >>= f) s') (λ i s'. then_out f (carried_out m this (k i) s')) (λ i. out_bind (k i) f e.state)
      ∙ sym (after_after e.answer e.state (λ i s'. carried_out m this (k i) s') (λ a s'. carried_out m this (f a) s'))
      ∙ sym (ap (then_out f) (out_make d k s))
  out_bind (read i k) f s =
      out_read i (λ d. k d >>= f) s ∙ out_bind (k (slice_get s.cells i)) f s ∙ sym (ap (then_out f) (out_read i k s))

  -- visits never rise
  pub out_falls : {A : Type 0} (p : Plan A) (s : State) → (carried_out m this p s).state.left ≤ s.left
  unfolding carried_out
  out_falls p s = (run_same s.left (work m this s.left) (work m this s.left) p s (λ task t low. work_same s.left s.left task t (omega arith) (omega arith)) (omega arith)).falls
