-- A refusal as a caller sees it.
use Rattle.std.proofs.Common.{◌≡◌, ℕ, ◌-◌, true, is_err, length, take, Ok, Err, Result, sym, ap, ◌∙◌, arith}
use Rattle.std.proofs.lemmas.Bool.{false≢true}
use Rattle.std.proofs.lemmas.List.{take_all}
use Rattle.tables.specs.Layout.{Content}
use Rattle.mapping.specs.Bindings.{since}
use Rattle.evaluation.specs.declared.refusal.EvaluationRefusal.{EvaluationRefusal}
use Rattle.evaluation.specs.Carried.{Work, Ran, Evaluates, environment}
use Rattle.evaluation.specs.Evaluation.{Ending, ending, carried_out}
use Rattle.evaluation.specs.Plans.{Environment, Plan}
use Rattle.evaluation.specs.Stores.{Longer}
use Rattle.evaluation.proofs.Growing.{longer_same, out_longer, cut_back}

-- all bindings
pub since_all : (s : Environment) → since 0 s ≡ s
since_all s = take_all (length s - 0) s (omega arith)

-- in an activation's environment that has all bindings
all_bindings : (m : Content) (this : ℕ) {A : Type 0} (p : Environment → Plan A) {r : Result A EvaluationRefusal} {w w' : Work} → Ran m this (p (environment 0 w)) w r w' →
    carried_out m this (p w.bindings) w.state ≡ ending r w'.state
all_bindings m this p {w = w} h = ap (λ (s : Environment). carried_out m this (p s) w.state) (sym (since_all w.bindings)) ∙ h.ends

-- what a plan came to makes cells alone
longer_ran : (m : Content) (this : ℕ) {A : Type 0} (p : Environment → Plan A) {r : Result A EvaluationRefusal} {w w' : Work} → Ran m this (p (environment 0 w)) w r w' →
    Longer w.state.cells w'.state.cells
longer_ran m this {A = A} p {w = w} h = rw (ap (λ (x : Ending A). x.state.cells) (all_bindings m this p h)) at (out_longer m this (p w.bindings) w.state)

-- a worth
pub returned : (m : Content) (this : ℕ) {A : Type 0} (p : Environment → Plan A) {v : A} {w w' : Work} → Ran m this (p (environment 0 w)) w (Ok v) w' → Evaluates m this (p w.bindings) w (Ok v) w'
returned m this {A = A} p h =
    let plan = all_bindings m this p h in
    record {
      value = sym (ap (λ (x : Ending A). x.answer) plan);
      left = sym (ap (λ (x : Ending A). x.state.left) plan);
      cells = sym (ap (λ (x : Ending A). x.state.cells) plan);
      grows = longer_ran m this p h;
      same = h.same;
      room = h.room;
    }

-- the cells that an evaluation made are cut off
pub refused : (m : Content) (this : ℕ) {A : Type 0} (p : Environment → Plan A) (r : Result A EvaluationRefusal) {w w' w'' : Work} → is_err r ≡ true → Ran m this (p (environment 0 w)) w r w' →
    w''.state.cells ≡ take (length w.state.cells) w'.state.cells → w''.state.left ≡ w'.state.left → w''.bindings ≡ w'.bindings → w''.capacity ≡ w'.capacity →
    Evaluates m this (p w.bindings) w r w''
refused m this p (Ok a) told h cells left same room = absurd (false≢true told)
refused m this {A = A} p (Err e) {w} {w'} {w''} told h cells left same room =
    let plan = all_bindings m this p h in
    let back = cells ∙ cut_back w.state.cells w'.state.cells (longer_ran m this p h) in
    record {
      value = sym (ap (λ (x : Ending A). x.answer) plan);
      left = left ∙ sym (ap (λ (x : Ending A). x.state.left) plan);
      cells = back;
      grows = rw back (longer_same w.state.cells);
      same = same ∙ h.same;
      room = room ∙ h.room;
    }
