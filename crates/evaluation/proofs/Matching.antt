-- Patterns that were tried, put together.
use Rattle.std.proofs.Common.{◌≡◌, ℕ, suc, ◌+◌, ◌-◌, ◌*◌, ◌<◌, ◌≤◌, Bool, true, false, List, [], ◌∷◌, ◌++◌, length, Some, None, Ok, Err, Option, Result, refl, sym, ap, ◌∙◌, append_assoc, arith}
use Rattle.std.proofs.Math.Seq.{take-append-add, drop-append_seam}
use Rattle.std.proofs.lemmas.Bool.{lt-ltb, le-ltb}
use Rattle.std.proofs.lemmas.List.{length-append}
use Rattle.std.specs.List.{slice_get, zip}
use Rattle.mapping.specs.declared.mapping.Binding.{Binding}
use Rattle.mapping.specs.Bindings.{lookup, since, oldest}
use Rattle.syntax.specs.declared.nodes.Parts.{Parts}
use Rattle.syntax.specs.Descent.{below}
use Rattle.syntax.specs.Rows.{when}
use Rattle.syntax.proofs.Descents.{descend_step}
use Rattle.tables.specs.Layout.{Content}
use Rattle.typing.specs.Room.{free}
use Rattle.typing.proofs.Room.{local_bound}
use Rattle.evaluation.specs.declared.refusal.EvaluationRefusal.{EvaluationRefusal}
use Rattle.evaluation.specs.declared.value.Value.{Value}
use Rattle.evaluation.specs.declared.value.Value.TheVariants as value
use Rattle.evaluation.specs.Refusals.{answered}
use Rattle.evaluation.specs.Carried.{Work, Ran, Tried, environment, fitted}
use Rattle.evaluation.specs.Evaluation.{Ending, after, carried_out}
use Rattle.evaluation.specs.Matching.{Fit, no_fit, never_fits, fit_of, fit_step, pairs_fit, data_fit, constructor_fit, variable_fit, bound_fit}
use Rattle.evaluation.specs.Plans.{Environment, done, read, compare}
use Rattle.evaluation.specs.Values.{Data, truth_of}
use Rattle.evaluation.specs.Views.{data_in}
use Rattle.evaluation.proofs.Carrying.{ran_done, ran_then, ran_stop}
use Rattle.evaluation.proofs.Depths.{out_done, out_read, out_bind}

-- what a pattern answers, by the rule of its kind over the patterns below it
pub fit_step_lem : (m : Content) (row : ℕ) (s : Environment) (v : Value) → fit_of m row s v ≡ fit_step m row (below never_fits row (fit_of m)) s v
unfolding fit_of
fit_step_lem m row s v = ap (λ (fit : Environment → Value → Fit). fit s v) (descend_step never_fits (fit_step m) row)

-- newer bindings: they are an activation's own, and what was there before is the oldest
pub since_more : {E : Type 0} (base : ℕ) (newer old : List (Binding E)) → base ≤ length old → since base (newer ++ old) ≡ newer ++ since base old
since_more base newer old own =
    let n : length (newer ++ old) - base ≡ length newer + (length old - base) = simp length-append (omega arith) in
    rw n (take-append-add newer old (length old - base))

pub oldest_more : {E : Type 0} (newer old : List (Binding E)) → oldest (length old) (newer ++ old) ≡ old
oldest_more newer old =
    let n : length (newer ++ old) - length old ≡ length newer = simp length-append (omega arith) in
    rw n (drop-append_seam newer old)

-- a slot that nothing is bound to is one of the free slots, until it is bound
pub slot_taken : (slot : ℕ) (v : Value) (s : Environment) {o : Option Value} → o ≡ lookup slot s → o ≡ None → slot < 8 →
    free 8 s ≡ suc (free 8 (record { slot = slot; entry = v } ∷ s))
slot_taken slot v s found none low = local_bound (record { slot = slot; entry = v }) s low (rw (← found, none) refl)

module _ (m : Content) (this base : ℕ) where
  -- a plan that leaves the bindings as they are
  pub tried_ran : {p : Fit} {r : Result Bool EvaluationRefusal} {w w' : Work} → Ran m this p w (fitted (environment base w) r) w' → Tried m this p base w r w'
  tried_ran h = record {
    ends = rw h.same h.ends;
    grows = ([], h.same);
    slots = rw h.same (omega arith);
    room = h.room;
    falls = h.falls;
  }

  -- the environment as it is, under a condition
  pub tried_when : (b : Bool) (w : Work) → Tried m this (done (when b (Some (environment base w)))) base w (Ok b) w
  tried_when true w = tried_ran (ran_done m this (Some (environment base w)) w)
  tried_when false w = tried_ran (ran_done m this None w)

  pub tried_none : (w : Work) → Tried m this no_fit base w (Ok false) w
  tried_none w = tried_when false w

  -- a variable that is bound, and one that is not
  pub tried_bound : (u v : Value) (r : Result Bool EvaluationRefusal) {w w' : Work} → Ran m this (compare u v) w (answered value.Bool r) w' →
      Tried m this (bound_fit (environment base w) u v) base w r w'
  tried_bound u v (Ok true) {w} {w'} h =
      tried_ran (ran_then m this (λ (x : Value). done (when (truth_of x) (Some (environment base w)))) h (ran_done m this (Some (environment base w)) w'))
  tried_bound u v (Ok false) {w} {w'} h =
      tried_ran (ran_then m this (λ (x : Value). done (when (truth_of x) (Some (environment base w)))) h (ran_done m this None w'))
  tried_bound u v (Err e) {w} h = tried_ran (ran_stop m this (λ (x : Value). done (when (truth_of x) (Some (environment base w)))) h)

  module _ (slot : ℕ) (v : Value) (w : Work) {o : Option Value} (found : o ≡ lookup slot (environment base w)) where
    pub variable_bound : {u : Value} {r : Result Bool EvaluationRefusal} {w' : Work} → o ≡ Some u → Ran m this (compare u v) w (answered value.Bool r) w' →
        Tried m this (variable_fit (environment base w) slot v (lookup slot (environment base w))) base w r w'
    variable_bound {u} {r} is h = rw (← found, is) (tried_bound u v r h)

    pub variable_closed : o ≡ None → 8 ≤ slot → Tried m this (variable_fit (environment base w) slot v (lookup slot (environment base w))) base w (Ok false) w
    variable_closed none high = rw (← found, none, le-ltb slot 8 high) (tried_none w)

    pub variable_open : {w' : Work} → o ≡ None → slot < 8 → base ≤ length w.bindings → w'.bindings ≡ record { slot = slot; entry = v } ∷ w.bindings →
        w'.state ≡ w.state → w'.capacity ≡ w.capacity → Tried m this (variable_fit (environment base w) slot v (lookup slot (environment base w))) base w (Ok true) w'
    variable_open {w'} none low own bound state room =
        let b : Binding Value = record { slot = slot; entry = v } in
        let more : environment base w' ≡ b ∷ environment base w = rw bound (since_more base (b ∷ []) w.bindings own) in
        let taken = slot_taken slot v (environment base w) found none low in
        record {
          ends = rw (← found, none, lt-ltb slot 8 low, state, more) (out_done m this (Some (b ∷ environment base w)) w.state);
          grows = (b ∷ [], bound);
          slots = rw (more, bound) (omega arith);
          room = room;
          falls = rw state (omega arith);
        }

  -- a cell is read
  tried_read : (i : ℕ) (k : Option Data → Fit) {r : Result Bool EvaluationRefusal} {w w' : Work} →
      Tried m this (k (slice_get w.state.cells i)) base w r w' → Tried m this (read i k) base w r w'
  tried_read i k {r} {w} h = record { ends = out_read m this i k w.state ∙ h.ends; grows = h.grows; slots = h.slots; room = h.room; falls = h.falls }

  module _ (child : ℕ → Environment → Value → Fit) where
    -- a constructor, by the data that the value is
    pub tried_data : (c : ℕ) (ps : Parts) (v : Value) {d : Option Data} {r : Result Bool EvaluationRefusal} {w w' : Work} → d ≡ data_in w.state.cells v →
        Tried m this (data_fit child (environment base w) c ps d) base w r w' → Tried m this (constructor_fit child (environment base w) c ps v) base w r w'
    tried_data c ps value.Unit e h = rw e at h
    tried_data c ps (value.Bool b) e h = rw e at h
    tried_data c ps (value.Int n) e h = rw e at h
    tried_data c ps value.Null e h = rw e at h
    tried_data c ps (value.Object o) e h = rw e at h
    tried_data c ps (value.Future f) e h = rw e at h
    tried_data c ps (value.Constant k) e h = rw e at h
    tried_data c ps (value.Cell i) {w} e h = tried_read i (data_fit child (environment base w) c ps) (rw e at h)

    -- a child that fits, with those behind it; one that does not
    next : List (ℕ × Value) → Option Environment → Fit
    next ps o = elim o as (λ o. Fit) [ None ↦ no_fit | Some s' ↦ pairs_fit child ps s' ]

    pub tried_more : (n : ℕ) (v : Value) (ns : List ℕ) (vs : List Value) {r : Result Bool EvaluationRefusal} {w w' w'' : Work} →
        Tried m this (child n (environment base w) v) base w (Ok true) w' → Tried m this (pairs_fit child (zip ns vs) (environment base w')) base w' r w'' →
        Tried m this (pairs_fit child (zip (n ∷ ns) (v ∷ vs)) (environment base w)) base w r w''
    unfolding next
    tried_more n v ns vs {w} {w'} {w''} h k =
        let low = h.falls in
        let lower = k.falls in
        let fewer = h.slots in
        let fewest = k.slots in
        record {
          ends = out_bind m this (child n (environment base w) v) (next (zip ns vs)) w.state
              ∙ ap (λ (e : Ending (Option Environment)). after e.answer e.state (λ o s. carried_out m this (next (zip ns vs) o) s)) h.ends
              ∙ k.ends;
          grows = (k.grows.0 ++ h.grows.0, k.grows.1 ∙ ap (λ (z : Environment). k.grows.0 ++ z) h.grows.1 ∙ sym (append_assoc k.grows.0 h.grows.0 w.bindings));
          slots = omega arith;
          room = k.room ∙ h.room;
          falls = omega arith;
        }

    pub tried_miss : (n : ℕ) (v : Value) (ns : List ℕ) (vs : List Value) {w w' : Work} → Tried m this (child n (environment base w) v) base w (Ok false) w' →
        Tried m this (pairs_fit child (zip (n ∷ ns) (v ∷ vs)) (environment base w)) base w (Ok false) w'
    unfolding next
    tried_miss n v ns vs {w} {w'} h = record {
      ends = out_bind m this (child n (environment base w) v) (next (zip ns vs)) w.state
          ∙ ap (λ (e : Ending (Option Environment)). after e.answer e.state (λ o s. carried_out m this (next (zip ns vs) o) s)) h.ends
          ∙ out_done m this None w'.state;
      grows = h.grows;
      slots = h.slots;
      room = h.room;
      falls = h.falls;
    }

    pub tried_refused : (n : ℕ) (v : Value) (ns : List ℕ) (vs : List Value) {e : EvaluationRefusal} {w w' : Work} → Tried m this (child n (environment base w) v) base w (Err e) w' →
        Tried m this (pairs_fit child (zip (n ∷ ns) (v ∷ vs)) (environment base w)) base w (Err e) w'
    unfolding next
    tried_refused n v ns vs {w} {w'} h = record {
      ends = out_bind m this (child n (environment base w) v) (next (zip ns vs)) w.state
          ∙ ap (λ (e : Ending (Option Environment)). after e.answer e.state (λ o s. carried_out m this (next (zip ns vs) o) s)) h.ends;
      grows = h.grows;
      slots = h.slots;
      room = h.room;
      falls = h.falls;
    }

    pub tried_all : (ns : List ℕ) (vs : List Value) → length ns ≡ 0 → (w : Work) → Tried m this (pairs_fit child (zip ns vs) (environment base w)) base w (Ok true) w
    tried_all [] vs none w = tried_when true w
    tried_all (n ∷ ns) vs none w = absurd (omega arith)

  -- what an activation's bindings and their memory need, behind a pattern
  pub still_own : {p : Fit} {r : Result Bool EvaluationRefusal} {w w' : Work} → Tried m this p base w r w' → base ≤ length w.bindings → base ≤ length w'.bindings
  still_own {w} h own = rw (h.grows.1, length-append h.grows.0 w.bindings) (omega arith)

  pub still_room : {p : Fit} {r : Result Bool EvaluationRefusal} {w w' : Work} → Tried m this p base w r w' →
      length w.bindings + free 8 (environment base w) + 4 * w.state.left ≤ w.capacity →
      length w'.bindings + free 8 (environment base w') + 4 * w'.state.left ≤ w'.capacity
  still_room h enough =
      let slots = h.slots in
      let room = h.room in
      let falls = h.falls in
      omega arith

  -- a cut takes away what the pattern bound
  pub tried_cut : {p : Fit} {r : Result Bool EvaluationRefusal} {w w' : Work} → Tried m this p base w r w' → oldest (length w.bindings) w'.bindings ≡ w.bindings
  tried_cut {w} h = rw h.grows.1 (oldest_more h.grows.0 w.bindings)
