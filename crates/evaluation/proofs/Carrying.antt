-- Plans that were carried out, put together.
use Rattle.std.proofs.Common.{◌≡◌, ℕ, ◌+◌, ◌-◌, ◌<◌, ◌≤◌, Bool, true, false, cond, ◌⊎◌, List, [], ◌∷◌, ◌++◌, length, get_or, drop, Some, None, Ok, Err, Option, Result, refl, sym, ap, subst, ◌∙◌, inl, inr, arith, length-append}
use Rattle.std.proofs.lemmas.Bool.{cases_lt, eq-eqb, ne_eqb}
use Rattle.std.proofs.lemmas.List.{drop_more}
use Rattle.std.proofs.lemmas.Option.{none-some}
use Rattle.std.proofs.Math.Seq.{take-append_seam, drop-append_seam}
use Rattle.std.specs.List.{slice_get, zip}
use Rattle.mapping.specs.declared.mapping.Binding.{Binding}
use Rattle.mapping.specs.Bindings.{since, oldest}
use Rattle.tables.specs.declared.rows.BranchRow.{BranchRow}
use Rattle.tables.specs.Layout.{Content}
use Rattle.evaluation.specs.declared.refusal.EvaluationRefusal.{EvaluationRefusal}
use Rattle.evaluation.specs.declared.refusal.EvaluationRefusal.TheVariants.{VisitsSpent}
use Rattle.evaluation.specs.declared.value.Value.{Value}
use Rattle.evaluation.specs.declared.value.Value.TheVariants as value
use Rattle.evaluation.specs.Carried.{Work, Pays, Ran, Adds, Tried, environment}
use Rattle.evaluation.specs.Evaluation.{State, Ending, ending, after, made, carried_out}
use Rattle.evaluation.specs.Plans.{Environment, Task, Plan, done, refuse, visit, make, read, ◌>>=◌, ask, compare, cell_at, give}
use Rattle.evaluation.specs.Rules.{rule, taken, chosen, next_branch, body_of, bound_from, built, cell_value, beside, right, operands, same_pairs, same_data, same_cells, pair_as, pair_rule}
use Rattle.evaluation.specs.Stores.{next_cell, with_cell}
use Rattle.evaluation.specs.Values.{Data, truth_of, cell_of, same_value}
use Rattle.evaluation.proofs.Depths.{worth, worth_spent, worth_visited, out_done, out_refuse, out_visit, out_make, out_read, out_bind}

pub ok-err : {A E : Type 0} {a : A} {e : E} → ◌≡◌ {A = Result A E} (Ok a) (Err e) → ⊥
ok-err same = let z : ◌≡◌ {A = ℕ} 0 1 = cc in absurd (omega arith)

-- an ending that nothing follows
after_all : {A : Type 0} (r : Result A EvaluationRefusal) (t : State) (f : A → State → Ending A) → ((a : A) (s : State) → f a s ≡ ending (Ok a) s) → after r t f ≡ ending r t
after_all (Ok a) t f each = each a t
after_all (Err e) t f each = refl

-- what is bound to arguments stands before the older bindings
bound_apart : (k : ℕ) (vs : List Value) (s t : Environment) → bound_from k vs (s ++ t) ≡ bound_from k vs s ++ t
bound_apart k [] s t = refl
bound_apart k (v ∷ vs) s t = bound_apart (k + 1) vs (record { slot = k; entry = v } ∷ s) t

newer_of : (s t : Environment) → since (length t) (s ++ t) ≡ s
newer_of s t = let e : length (s ++ t) - length t ≡ length s = simp length-append (omega arith) in rw e (take-append_seam s t)

older_of : (s t : Environment) → oldest (length t) (s ++ t) ≡ t
older_of s t = let e : length (s ++ t) - length t ≡ length s = simp length-append (omega arith) in rw e (drop-append_seam s t)

own_bindings : (k : ℕ) (vs : List Value) (t : Environment) → since (length t) (bound_from k vs t) ≡ bound_from k vs []
own_bindings k vs t = ap (since (length t)) (bound_apart k vs [] t) ∙ newer_of (bound_from k vs []) t

older_bindings : (k : ℕ) (vs : List Value) (t : Environment) → oldest (length t) (bound_from k vs t) ≡ t
older_bindings k vs t = ap (oldest (length t)) (bound_apart k vs [] t) ∙ older_of (bound_from k vs []) t

pub bound_longer : (k : ℕ) (vs : List Value) (t : Environment) → length t ≤ length (bound_from k vs t)
bound_longer k [] t = omega arith
bound_longer k (v ∷ vs) t = let l = bound_longer (k + 1) vs (record { slot = k; entry = v } ∷ t) in omega arith

-- two values that are not both cells
pair_plain : (v w : Value) (i j : Option ℕ) → (i ≡ None) ⊎ (j ≡ None) → pair_as v w i j ≡ done (value.Bool (same_value v w))
pair_plain v w None j h = refl
pair_plain v w (Some i) None h = refl
pair_plain v w (Some i) (Some j) (inl e) = absurd (none-some i (sym e))
pair_plain v w (Some i) (Some j) (inr e) = absurd (none-some j (sym e))

module _ (m : Content) (this : ℕ) where
  pub ran_done : {A : Type 0} (a : A) (w : Work) → Ran m this (done a) w (Ok a) w
  ran_done a w = record { ends = out_done m this a w.state; same = refl; room = refl; falls = omega arith }

  pub ran_refuse : {A : Type 0} (e : EvaluationRefusal) (w : Work) → Ran m this {A = A} (refuse e) w (Err e) w
  ran_refuse e w = record { ends = out_refuse m this e w.state; same = refl; room = refl; falls = omega arith }

  -- one plan and then another, or a refusal
  pub ran_then : {A B : Type 0} {p : Plan A} (f : A → Plan B) {a : A} {r : Result B EvaluationRefusal} {w w' w'' : Work} →
      Ran m this p w (Ok a) w' → Ran m this (f a) w' r w'' → Ran m this (p >>= f) w r w''
  ran_then {p} f {a} {w} h k =
      let low = h.falls in
      let lower = k.falls in
      record {
        ends = out_bind m this p f w.state ∙ ap (λ (e : Ending _). after e.answer e.state (λ a s. carried_out m this (f a) s)) h.ends ∙ k.ends;
        same = k.same ∙ h.same;
        room = k.room ∙ h.room;
        falls = omega arith;
      }

  pub ran_stop : {A B : Type 0} {p : Plan A} (f : A → Plan B) {e : EvaluationRefusal} {w w' : Work} →
      Ran m this p w (Err e) w' → Ran m this (p >>= f) w (Err e) w'
  ran_stop {p} f {w} h = record {
    ends = out_bind m this p f w.state ∙ ap (λ (e : Ending _). after e.answer e.state (λ a s. carried_out m this (f a) s)) h.ends;
    same = h.same;
    room = h.room;
    falls = h.falls;
  }

  -- a visit by itself
  visited : (task : Task) (s : State) → carried_out m this (visit task (λ v. done v)) s ≡ worth m this task s
  visited task s =
      out_visit m this task (λ v. done v) s
      ∙ after_all (worth m this task s).answer (worth m this task s).state (λ v s'. carried_out m this (done v) s') (λ v s'. out_done m this v s')

  -- a visit that is not paid for, and one that is
  pub ran_unpaid : (task : Task) {r : Result (Unit {0}) EvaluationRefusal} {e : EvaluationRefusal} {w w' : Work} → Pays w r w' → r ≡ Err e →
      Ran m this (visit task (λ v. done v)) w (Err e) w'
  ran_unpaid task {r} {e} {w} {w'} pays refused = elim (cases_lt 0 w.state.left) [
    | inl some ↦ (
        let no : ◌≡◌ {A = Result (Unit {0}) EvaluationRefusal} (Ok tt) (Err e) = sym (rw (ne_eqb w.state.left 0 (λ z. omega arith)) at pays.answers) ∙ refused in
        absurd (ok-err no)
        )
    | inr none ↦ (
        let spent : w.state.left ≡ 0 = omega arith in
        let same : ◌≡◌ {A = Result (Unit {0}) EvaluationRefusal} (Err VisitsSpent) (Err e) = sym (rw (eq-eqb w.state.left 0 spent) at pays.answers) ∙ refused in
        let kind : VisitsSpent ≡ e = cc in
        let left : w.state.left - 1 ≡ w.state.left = omega arith in
        let state : w'.state ≡ w.state = pays.state ∙ ap (λ n. record { left = n; cells = w.state.cells }) left in
        record {
          ends = visited task w.state ∙ worth_spent m this task w.state spent ∙ rw (kind, state) refl;
          same = pays.same;
          room = pays.room;
          falls = rw state (omega arith);
        }
        )
  ]

  pub ran_paid : (task : Task) {r : Result (Unit {0}) EvaluationRefusal} {q : Result Value EvaluationRefusal} {w w' w'' : Work} → Pays w r w' → r ≡ Ok tt →
      Ran m this (rule m this task) w' q w'' → Ran m this (visit task (λ v. done v)) w q w''
  ran_paid task {r} {q} {w} {w'} {w''} pays accepted h = elim (cases_lt 0 w.state.left) [
    | inl some ↦ (
        let low = h.falls in
        let left : w'.state.left ≡ w.state.left - 1 = ap (λ (s : State). s.left) pays.state in
        record {
          ends = visited task w.state ∙ worth_visited m this task w.state some ∙ ap (carried_out m this (rule m this task)) (sym pays.state) ∙ h.ends;
          same = h.same ∙ pays.same;
          room = h.room ∙ pays.room;
          falls = omega arith;
        }
        )
    | inr none ↦ (
        let no : ◌≡◌ {A = Result (Unit {0}) EvaluationRefusal} (Ok tt) (Err VisitsSpent) = sym accepted ∙ rw (eq-eqb w.state.left 0 (omega arith)) at pays.answers in
        absurd (ok-err no)
        )
  ]

  -- what a cell holds, and a new cell
  pub ran_read : {A : Type 0} (i : ℕ) (k : Option Data → Plan A) {r : Result A EvaluationRefusal} {w w' : Work} →
      Ran m this (k (slice_get w.state.cells i)) w r w' → Ran m this (read i k) w r w'
  ran_read i k {r} {w} h = record { ends = out_read m this i k w.state ∙ h.ends; same = h.same; room = h.room; falls = h.falls }

  -- two values, of which the first parts are the same, or are not
  pub ran_pair_same : {p : Value × Value} (ps : List (Value × Value)) {r : Result Value EvaluationRefusal} {w w' w'' : Work} →
      Ran m this (compare p.0 p.1) w (Ok (value.Bool true)) w' → Ran m this (same_pairs ps) w' r w'' → Ran m this (same_pairs (p ∷ ps)) w r w''
  ran_pair_same ps h k = ran_then (λ b. cond (truth_of b) (same_pairs ps) (done (value.Bool false))) h k

  pub ran_pair_differs : {p : Value × Value} (ps : List (Value × Value)) {w w' : Work} →
      Ran m this (compare p.0 p.1) w (Ok (value.Bool false)) w' → Ran m this (same_pairs (p ∷ ps)) w (Ok (value.Bool false)) w'
  ran_pair_differs ps {w} {w'} h = ran_then (λ b. cond (truth_of b) (same_pairs ps) (done (value.Bool false))) h (ran_done (value.Bool false) w')

  pub ran_pair_refused : {p : Value × Value} (ps : List (Value × Value)) {e : EvaluationRefusal} {w w' : Work} →
      Ran m this (compare p.0 p.1) w (Err e) w' → Ran m this (same_pairs (p ∷ ps)) w (Err e) w'
  ran_pair_refused ps h = ran_stop (λ b. cond (truth_of b) (same_pairs ps) (done (value.Bool false))) h

  -- two cells, by what they hold
  pub cells_read : {i j : ℕ} {a b : Option Data} {r : Result Value EvaluationRefusal} {w w' : Work} → a ≡ slice_get w.state.cells i → b ≡ slice_get w.state.cells j →
      Ran m this (same_data a b) w r w' → Ran m this (same_cells i j) w r w'
  cells_read {i} {j} {a} {b} first second h =
      ran_read i (λ d. cell_at j >>= (λ e. same_data d e)) (ran_read j (λ e. same_data _ e) (rw (first, second) at h))

  pub ran_no_pair : (xs ys : List Value) → length xs ≡ 0 → (w : Work) → Ran m this (same_pairs (zip xs ys)) w (Ok (value.Bool true)) w
  ran_no_pair [] ys none w = ran_done (value.Bool true) w
  ran_no_pair (x ∷ xs) ys none w = absurd (omega arith)

  pub ran_plain : (v u : Value) {b : Bool} → (cell_of v ≡ None) ⊎ (cell_of u ≡ None) → b ≡ same_value v u → (w : Work) → Ran m this (pair_rule v u) w (Ok (value.Bool b)) w
  ran_plain v u h e w = rw (pair_plain v u (cell_of v) (cell_of u) h, e) (ran_done (value.Bool (same_value v u)) w)

  pub ran_give : {A : Type 0} (r : Result A EvaluationRefusal) (w : Work) → Ran m this (give r) w r w
  ran_give (Ok a) w = ran_done a w
  ran_give (Err e) w = ran_refuse e w

  -- an environment is the same where the bindings are
  pub ran_here : {A : Type 0} (base : ℕ) (plan : Environment → Plan A) {r : Result A EvaluationRefusal} (v : Work) {w w' : Work} → w.bindings ≡ v.bindings →
      Ran m this (plan (environment base w)) w r w' → Ran m this (plan (environment base v)) w r w'
  ran_here base plan {r} v {w} {w'} same h =
      let P : List (Binding Value) → Type 0 = λ bs. Ran m this (plan (since base bs)) w r w' in
      subst P same h

  pub ran_beside : {x y : Value} {a b : ℕ} (base : ℕ) {w w' w'' : Work} → Ran m this (ask a (environment base w)) w (Ok x) w' →
      Ran m this (ask b (environment base w')) w' (Ok y) w'' → Ran m this (operands a b (environment base w)) w (Ok (x, y)) w''
  ran_beside {x} {y} {a} {b} base {w} {w'} {w''} h k =
      ran_then (right b (environment base w)) h (ran_then (beside x) (ran_here base (ask b) w h.same k) (ran_done (x, y) w''))

  pub ran_beside_refused : {x : Value} {e : EvaluationRefusal} {a b : ℕ} (base : ℕ) {w w' w'' : Work} → Ran m this (ask a (environment base w)) w (Ok x) w' →
      Ran m this (ask b (environment base w')) w' (Err e) w'' → Ran m this (operands a b (environment base w)) w (Err e) w''
  ran_beside_refused {x} {e} {a} {b} base {w} {w'} h k = ran_then (right b (environment base w)) h (ran_stop (beside x) (ran_here base (ask b) w h.same k))

  -- a function's body, in its own bindings
  pub ran_called : (row : ℕ) (vs : List Value) {r : Result Value EvaluationRefusal} {w b w' w'' : Work} → b.bindings ≡ bound_from 0 vs w.bindings →
      b.state ≡ w.state → b.capacity ≡ w.capacity → Ran m this (ask row (environment (length w.bindings) b)) b r w' →
      w''.bindings ≡ oldest (length w.bindings) w'.bindings → w''.state ≡ w'.state → w''.capacity ≡ w'.capacity → Ran m this (ask row (bound_from 0 vs [])) w r w''
  ran_called row vs {r} {w} {b} {w'} {w''} bound state room h cut state' room' =
      let own : environment (length w.bindings) b ≡ bound_from 0 vs [] = ap (since (length w.bindings)) bound ∙ own_bindings 0 vs w.bindings in
      let falls = h.falls in
      let left : b.state.left ≡ w.state.left = ap (λ (s : State). s.left) state in
      let left' : w''.state.left ≡ w'.state.left = ap (λ (s : State). s.left) state' in
      record {
        ends = ap (λ (s : Environment). carried_out m this (ask row s) w.state) (sym own) ∙ ap (carried_out m this (ask row (environment (length w.bindings) b))) (sym state)
            ∙ h.ends ∙ ap (ending r) (sym state');
        same = cut ∙ ap (oldest (length w.bindings)) (h.same ∙ bound) ∙ older_bindings 0 vs w.bindings;
        room = room' ∙ h.room ∙ room;
        falls = omega arith;
      }

  -- a new cell, and data
  pub ran_made : (d : Data) {r : Result ℕ EvaluationRefusal} {w w' : Work} → r ≡ next_cell w.state.cells → w'.state.cells ≡ with_cell w.state.cells d →
      w'.state.left ≡ w.state.left → w'.bindings ≡ w.bindings → w'.capacity ≡ w.capacity → Ran m this (make d (λ i. done i)) w r w'
  ran_made d {r} {w} {w'} number cells left same room =
      let state : w'.state ≡ (made d w.state).state = rw (← left, ← cells) refl in
      record {
        ends = out_make m this d (λ i. done i) w.state
            ∙ after_all (made d w.state).answer (made d w.state).state (λ i s. carried_out m this (done i) s) (λ i s. out_done m this i s)
            ∙ rw (number, state) refl;
        same = same;
        room = room;
        falls = omega arith;
      }

  pub ran_constant : (c : ℕ) (vs : List Value) (w : Work) → length vs ≡ 0 → Ran m this (built c vs) w (Ok (value.Constant c)) w
  ran_constant c [] w none = ran_done (value.Constant c) w
  ran_constant c (v ∷ vs) w none = absurd (omega arith)

  pub ran_cell : (c : ℕ) (vs : List Value) {i : ℕ} {w w' : Work} → (length vs ≡ 0 → ⊥) → Ran m this (make (record { constructor = c; parts = vs }) (λ i. done i)) w (Ok i) w' →
      Ran m this (built c vs) w (Ok (value.Cell i)) w'
  ran_cell c [] some h = absurd (some refl)
  ran_cell c (v ∷ vs) {i} {w} {w'} some h = ran_then cell_value h (ran_done (value.Cell i) w')

  pub ran_no_cell : (c : ℕ) (vs : List Value) {e : EvaluationRefusal} {w w' : Work} → (length vs ≡ 0 → ⊥) → Ran m this (make (record { constructor = c; parts = vs }) (λ i. done i)) w (Err e) w' →
      Ran m this (built c vs) w (Err e) w'
  ran_no_cell c [] some h = absurd (some refl)
  ran_no_cell c (v ∷ vs) some h = ran_stop cell_value h

  -- a branch's pattern that was tried, and its body
  pub adds_refused : {p : Plan (Option Environment)} (b : BranchRow) (base : ℕ) {e : EvaluationRefusal} {w w' : Work} → Tried m this p base w (Err e) w' →
      Adds m this (p >>= body_of m this b) w (Err e) w'
  adds_refused {p} b base {e} {w} h = record {
    ends = out_bind m this p (body_of m this b) w.state ∙ ap (λ (x : Ending _). after x.answer x.state (λ a s. carried_out m this (body_of m this b a) s)) h.ends;
    grows = h.grows;
    room = h.room;
    falls = h.falls;
  }

  pub adds_none : {p : Plan (Option Environment)} (b : BranchRow) (base : ℕ) {w w' : Work} → Tried m this p base w (Ok false) w' →
      Adds m this (p >>= body_of m this b) w (Ok None) w'
  adds_none {p} b base {w} {w'} h = record {
    ends = out_bind m this p (body_of m this b) w.state ∙ ap (λ (x : Ending _). after x.answer x.state (λ a s. carried_out m this (body_of m this b a) s)) h.ends
        ∙ out_done m this None w'.state;
    grows = h.grows;
    room = h.room;
    falls = h.falls;
  }

  pub adds_body : {p : Plan (Option Environment)} (b : BranchRow) (base : ℕ) {r : Result (Option Value) EvaluationRefusal} {w w' w'' : Work} →
      Tried m this p base w (Ok true) w' → Ran m this (body_of m this b (Some (environment base w'))) w' r w'' → Adds m this (p >>= body_of m this b) w r w''
  adds_body {p} b base {r} {w} {w'} {w''} h k =
      let low = h.falls in
      let lower = k.falls in
      record {
        ends = out_bind m this p (body_of m this b) w.state ∙ ap (λ (x : Ending _). after x.answer x.state (λ a s. carried_out m this (body_of m this b a) s)) h.ends
            ∙ k.ends;
        grows = (h.grows.0, k.same ∙ h.grows.1);
        room = k.room ∙ h.room;
        falls = omega arith;
      }

  -- the branch at a place, in the bindings that stand where the case began, and those behind it
  module _ (base : ℕ) (v : Work) (bs : List BranchRow) (i : ℕ) (d : BranchRow) (x : Value) (w w' : Work) (lt : i < length bs) (same : w.bindings ≡ v.bindings) where
    -- what the branch comes to
    abbrev Came : Result (Option Value) EvaluationRefusal → Type 0
    Came r = Ran m this (taken m this (environment base w) x (get_or bs i d)) w r w'

    moved : {r : Result (Option Value) EvaluationRefusal} → Came r → Ran m this (taken m this (environment base v) x (get_or bs i d)) w r w'
    moved h = ran_here base (λ s. taken m this s x (get_or bs i d)) v same h

    pub ran_branch_refused : {e : EvaluationRefusal} → Came (Err e) → Ran m this (chosen m this (environment base v) x (drop i bs)) w (Err e) w'
    ran_branch_refused h =
        rw (drop_more bs i d lt) (ran_stop (next_branch m this (chosen m this (environment base v) x (drop (i + 1) bs))) (moved h))

    pub ran_branch_taken : {y : Value} → Came (Ok (Some y)) → Ran m this (chosen m this (environment base v) x (drop i bs)) w (Ok y) w'
    ran_branch_taken {y} h =
        rw (drop_more bs i d lt) (ran_then (next_branch m this (chosen m this (environment base v) x (drop (i + 1) bs))) (moved h) (ran_done y w'))

    pub ran_branch_passed : {r : Result Value EvaluationRefusal} {w'' : Work} → Came (Ok None) →
        Ran m this (chosen m this (environment base v) x (drop (i + 1) bs)) w' r w'' → Ran m this (chosen m this (environment base v) x (drop i bs)) w r w''
    ran_branch_passed h k = rw (drop_more bs i d lt) (ran_then (next_branch m this (chosen m this (environment base v) x (drop (i + 1) bs))) (moved h) k)
