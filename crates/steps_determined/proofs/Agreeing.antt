-- Runs by the same choices agree, event by event.
use Rattle.std.proofs.Common.{◌≡◌, ℕ, ◌+◌, true, false, List, [], ◌∷◌, ◌++◌, length, get_or, drop, is_some, Ok, Err, refl, sym, ap, subst, ◌∙◌, inl, inr, arith}
use Rattle.std.proofs.lemmas.Bool.{cases_Bool}
use Rattle.std.proofs.lemmas.List.{length_push}
use Rattle.tables.specs.Layout.{Content}
use Rattle.outside.specs.declared.outside.Outside.{Ghosts}
use Rattle.steps.specs.Histories.{Answer, Chosen, Event, History, Linked, Moment, Moves, answers_in, choices_in, first, mover, now}
use Rattle.steps.specs.Observing.{Fulfils, observation}
use Rattle.steps.specs.Outcomes.{Outcome, Request}
use Rattle.steps.specs.Steps.{step}
use Rattle.steps_determined.specs.Determined.{HasOneOutcome, RunsAgree}

-- two lists with one item more each are equal only part by part
push_parts : {A : Type 0} (xs ys : List A) (x y : A) → xs ++ x ∷ [] ≡ ys ++ y ∷ [] → (xs ≡ ys) × (x ≡ y)
push_parts [] [] x y e = (refl, ap (λ l. get_or l 0 x) e)
push_parts [] (z ∷ ys) x y e = let h : 0 ≡ length (ys ++ y ∷ []) = ap (λ l. length (drop 1 l)) e in absurd (omega (arith, h, length_push ys y))
push_parts (z ∷ xs) [] x y e = let h : length (xs ++ x ∷ []) ≡ 0 = ap (λ l. length (drop 1 l)) e in absurd (omega (arith, h, length_push xs x))
push_parts (z ∷ xs) (w ∷ ys) x y e =
    let r = push_parts xs ys x y (ap (drop 1) e) in
    let head : z ≡ w = ap (λ l. get_or l 0 z) e in
    (λ i. head i ∷ r.0 i, r.1)

module _ {O : Type 0} (g : Ghosts O) (one : HasOneOutcome g) where
  -- What is asked of an outside leaves one outside.
  fulfils_once : (o p q : O) (r : Request) → Fulfils g o r p → Fulfils g o r q → p ≡ q
  fulfils_once o p q Request.nothing h k = h ∙ sym k
  fulfils_once o p q (Request.take c) h k = one.takes o p q c (h.becomes refl) (k.becomes refl)
  fulfils_once o p q (Request.deliver n) h k = elim (cases_Bool (is_some (g.waits o n))) [
    | inl waits ↦ one.delivers o p q n (h.becomes waits) (k.becomes waits)
    | inr not ↦ h.same not ∙ sym (k.same not)
  ]

  -- An outcome leaves one moment, and is answered in one way.
  moves_once : (n : ℕ) (out : Outcome) (s t u : Moment O) (a b : Answer) → Moves g n out s a t → Moves g n out s b u → (t ≡ u) × (a ≡ b)
  moves_once n (Ok d) s t u a b h k =
      let configuration = h.1 ∙ sym k.1 in
      let outside = fulfils_once s.outside t.outside u.outside d.request h.2 k.2 in
      (λ i. record { configuration = configuration i; outside = outside i }, h.0 ∙ sym k.0)
  moves_once n (Err e) s t u a b h k =
      let configuration = h.1 ∙ sym k.1 in
      let outside = h.2 ∙ sym k.2 in
      (λ i. record { configuration = configuration i; outside = outside i }, h.0 ∙ sym k.0)

  module _ (m : Content) where
    chosen_once : (s t u v : Moment O) (n k : ℕ) (a b : Answer) → s ≡ u → n ≡ k → Chosen g m s n a t → Chosen g m u k b v → (t ≡ v) × (a ≡ b)
    chosen_once s t u v n k a b same number h l =
        let there : Chosen g m s k b v = subst (λ (x : Moment O). Chosen g m x k b v) (sym same) l in
        let here : Chosen g m s n b v = subst (λ (x : ℕ). Chosen g m s x b v) (sym number) there in
        moves_once n (step m s.configuration (observation g s.outside) n) s t v a b h here

    agree : (h k : History O) → Linked g m h → Linked g m k → (first h).outside ≡ (first k).outside → choices_in h ≡ choices_in k →
        (now h ≡ now k) × (answers_in h ≡ answers_in k)
    agree (History.start s) (History.start t) l r same choices =
        let configuration = l.0 ∙ sym r.0 in
        (λ i. record { configuration = configuration i; outside = same i }, refl)
    agree (History.start s) (History.after k (Event.choice n a) t) l r same choices =
        let e : 0 ≡ length (choices_in k ++ n ∷ []) = ap length choices in absurd (omega (arith, e, length_push (choices_in k) n))
    agree (History.after h (Event.choice n a) t) (History.start s) l r same choices =
        let e : length (choices_in h ++ n ∷ []) ≡ 0 = ap length choices in absurd (omega (arith, e, length_push (choices_in h) n))
    agree (History.after h (Event.choice n a) t) (History.after k (Event.choice j b) u) l r same choices =
        let parts = push_parts (choices_in h) (choices_in k) n j choices in
        let before = agree h k l.0 r.0 same parts.0 in
        let after = chosen_once (now h) t (now k) u n j a b before.0 parts.1 l.1 r.1 in
        let answers = before.1 in
        let answer = after.1 in
        (after.0, λ i. answers i ++ answer i ∷ [])

pub runs_agree : {O : Type 0} (g : Ghosts O) (m : Content) → RunsAgree g m
runs_agree g m one h k l r same choices = agree g one m h k l r same choices
