-- Evaluations one after another.
use Rattle.std.proofs.Common.{◌≡◌, ℕ, ◌++◌, List, length, take, cond, Some, None, Ok, Err, Result, is_ok, refl, sym, ap, ◌∙◌, subst, append_assoc}
use Rattle.std.proofs.Math.Seq.{take-append_seam}
use Rattle.tables.specs.Layout.{Content}
use Rattle.evaluation.specs.declared.refusal.EvaluationRefusal.{EvaluationRefusal}
use Rattle.evaluation.specs.declared.value.Value.{Value}
use Rattle.evaluation.specs.declared.value.Value.TheVariants as value
use Rattle.evaluation.specs.Carried.{Work, Evaluates}
use Rattle.evaluation.specs.Evaluation.{State, Ending, ending, after, carried_out}
use Rattle.evaluation.specs.Plans.{Environment, Plan, done, ◌>>=◌}
use Rattle.evaluation.specs.Refusals.{answered}
use Rattle.evaluation.specs.Stores.{Longer}
use Rattle.evaluation.specs.Values.{Data}
use Rattle.evaluation.proofs.Depths.{out_bind, out_done}
use Rattle.steps.specs.Calling.{message_on, message_to}
use Rattle.run.specs.Messages.{object_in}
use Rattle.rules.proofs.Rows.{known}
use Rattle.std.proofs.lemmas.Option.{none-some}
use Rattle.run.proofs.Putting.{longer_same}

pub longer_then : (cs ds es : List Data) → Longer cs ds → Longer ds es → Longer cs es
longer_then cs ds es h k = (h.0 ++ k.0, k.1 ∙ ap (λ (xs : List Data). xs ++ k.0) h.1 ∙ append_assoc cs h.0 k.0)

pub ok_answered : {A B : Type 0} (f : A → B) (r : Result A EvaluationRefusal) → is_ok (answered f r) ≡ is_ok r
ok_answered f (Ok a) = refl
ok_answered f (Err e) = refl

module _ (m : Content) (this : ℕ) where
  ends_done : {A B : Type 0} (f : A → B) (r : Result A EvaluationRefusal) (s : State) → after r s (λ a s'. carried_out m this (done (f a)) s') ≡ ending (answered f r) s
  ends_done f (Ok a) s = out_done m this (f a) s
  ends_done f (Err e) s = refl

  pub mapped : {A B : Type 0} (p : Plan A) (f : A → B) (w w' : Work) (r : Result A EvaluationRefusal) → Evaluates m this p w r w' → Evaluates m this (p >>= λ a. done (f a)) w (answered f r) w'
  mapped {A} {B} p f w w' r h =
      let e : Ending A = carried_out m this p w.state in
      let bind : carried_out m this (p >>= λ a. done (f a)) w.state ≡ ending (answered f e.answer) e.state = out_bind m this p (λ a. done (f a)) w.state ∙ ends_done f e.answer e.state in
      record {
        value = ap (answered f) h.value ∙ sym (ap (λ (x : Ending B). x.answer) bind);
        left = h.left ∙ sym (ap (λ (x : Ending B). x.state.left) bind);
        cells = h.cells ∙ (λ i. cond ((sym (ok_answered f r)) i) ((sym (ap (λ (x : Ending B). x.state.cells) bind)) i) w.state.cells);
        grows = h.grows;
        same = h.same;
        room = h.room;
      }

  module _ {A B : Type 0} (p : Plan A) (k : A → Plan B) (w w1 : Work) where
    pub seq_err : (e : EvaluationRefusal) → Evaluates m this p w (Err e) w1 → Evaluates m this (p >>= k) w (Err e) w1
    seq_err e h =
        let x : Ending A = carried_out m this p w.state in
        let bind : carried_out m this (p >>= k) w.state ≡ ending (Err e) x.state =
        out_bind m this p k w.state ∙ ap (λ (r : Result A EvaluationRefusal). after r x.state (λ a s'. carried_out m this (k a) s')) (sym h.value) in
        record {
          value = sym (ap (λ (x : Ending B). x.answer) bind);
          left = h.left ∙ sym (ap (λ (x : Ending B). x.state.left) bind);
          cells = h.cells;
          grows = h.grows;
          same = h.same;
          room = h.room;
        }

    -- the first came to an answer
    first : (a : A) → Evaluates m this p w (Ok a) w1 → carried_out m this (p >>= k) w.state ≡ carried_out m this (k a) w1.state
    first a h =
        out_bind m this p k w.state
        ∙ (λ i. after ((sym h.value) i) (record { left = (sym h.left) i; cells = (sym h.cells) i }) (λ a s'. carried_out m this (k a) s'))

    pub seq_done : (a : A) (b : B) → Evaluates m this p w (Ok a) w1 → k a ≡ done b → Evaluates m this (p >>= k) w (Ok b) w1
    seq_done a b h e =
        let bind : carried_out m this (p >>= k) w.state ≡ ending (Ok b) w1.state = first a h ∙ ap (λ (q : Plan B). carried_out m this q w1.state) e ∙ out_done m this b w1.state in
        record {
          value = sym (ap (λ (x : Ending B). x.answer) bind);
          left = sym (ap (λ (x : Ending B). x.state.left) bind);
          cells = sym (ap (λ (x : Ending B). x.state.cells) bind);
          grows = h.grows;
          same = h.same;
          room = h.room;
        }

    pub seq_ok : (a : A) (b : B) (w2 : Work) → Evaluates m this p w (Ok a) w1 → Evaluates m this (k a) w1 (Ok b) w2 → Evaluates m this (p >>= k) w (Ok b) w2
    seq_ok a b w2 h g =
        let bind = first a h in
        record {
          value = g.value ∙ sym (ap (λ (x : Ending B). x.answer) bind);
          left = g.left ∙ sym (ap (λ (x : Ending B). x.state.left) bind);
          cells = g.cells ∙ sym (ap (λ (x : Ending B). x.state.cells) bind);
          grows = longer_then w.state.cells w1.state.cells w2.state.cells h.grows g.grows;
          same = g.same ∙ h.same;
          room = g.room ∙ h.room;
        }

    pub seq_cut : (a : A) (e : EvaluationRefusal) (w2 w3 : Work) → Evaluates m this p w (Ok a) w1 → Evaluates m this (k a) w1 (Err e) w2 →
        w3.state.cells ≡ take (length w.state.cells) w2.state.cells → w3.state.left ≡ w2.state.left → w3.bindings ≡ w2.bindings → w3.capacity ≡ w2.capacity → Evaluates m this (p >>= k) w (Err e) w3
    seq_cut a e w2 w3 h g cut left bindings capacity =
        let bind = first a h in
        let grows = longer_then w.state.cells w1.state.cells w2.state.cells h.grows g.grows in
        let back : w3.state.cells ≡ w.state.cells = cut ∙ ap (λ (xs : List Data). take (length w.state.cells) xs) grows.1 ∙ take-append_seam w.state.cells grows.0 in
        record {
          value = g.value ∙ sym (ap (λ (x : Ending B). x.answer) bind);
          left = left ∙ g.left ∙ sym (ap (λ (x : Ending B). x.state.left) bind);
          cells = back;
          grows = subst (λ (xs : List Data). Longer w.state.cells xs) (sym back) (longer_same w.state.cells);
          same = bindings ∙ g.same ∙ h.same;
          room = capacity ∙ g.room ∙ h.room;
        }

-- a value that is an object, and one that is none
pub not_object : (ns : List ℕ) (s : Environment) (v : Value) → object_in v ≡ None → message_on ns s v ≡ done None
not_object ns s value.Unit e = refl
not_object ns s (value.Bool b) e = refl
not_object ns s (value.Int z) e = refl
not_object ns s value.Null e = refl
not_object ns s (value.Object o) e = absurd (none-some o (sym e))
not_object ns s (value.Future f) e = refl
not_object ns s (value.Constant k) e = refl
not_object ns s (value.Cell i) e = refl

pub an_object : (ns : List ℕ) (s : Environment) (v : Value) (o : ℕ) → object_in v ≡ Some o → message_on ns s v ≡ message_to o ns s
an_object ns s value.Unit o e = absurd (none-some o e)
an_object ns s (value.Bool b) o e = absurd (none-some o e)
an_object ns s (value.Int z) o e = absurd (none-some o e)
an_object ns s value.Null o e = absurd (none-some o e)
an_object ns s (value.Object p) o e = ap (λ (o : ℕ). message_to o ns s) (known e)
an_object ns s (value.Future f) o e = absurd (none-some o e)
an_object ns s (value.Constant k) o e = absurd (none-some o e)
an_object ns s (value.Cell i) o e = absurd (none-some o e)
