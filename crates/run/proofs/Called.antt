-- The outcomes of calls.
use Rattle.std.proofs.Common.{◌≡◌, ℕ, zero, suc, ◌+◌, ◌≤◌, Bool, true, false, cond, List, length, Some, None, Ok, Err, Option, Result, is_some, refl, sym, ap, ◌∙◌, subst, arith}
use Rattle.std.proofs.lemmas.Bool.{false≢true, true≢false}
use Rattle.std.proofs.lemmas.Option.{slice_get_within}
use Rattle.tables.specs.Layout.{Content}
use Rattle.syntax.specs.declared.statements.Call.{Call}
use Rattle.syntax.specs.declared.statements.Manner.{Manner}
use Rattle.syntax.specs.declared.statements.Manner.TheVariants as manner
use Rattle.syntax.specs.declared.statements.Statement.{Statement}
use Rattle.outside.specs.declared.outside.Outside.{Ghosts}
use Rattle.evaluation.specs.Stores.{Longer}
use Rattle.steps.specs.declared.records.CallRecord.{CallRecord}
use Rattle.steps.specs.declared.refusal.Refusal.{Refusal}
use Rattle.steps.specs.declared.refusal.Refusal.TheVariants as refusal
use Rattle.steps.specs.declared.state.CallState.{CallState}
use Rattle.steps.specs.Calling.{Dispatch, Message, Receiver, call_by, call_dispatch, call_to, new_call, outgoing, takes_call}
use Rattle.steps.specs.Changes.{with_cells, with_new_call}
use Rattle.steps.specs.Configurations.{Configuration, call_at, item_at, statement_at}
use Rattle.steps.specs.Observing.{Fulfils}
use Rattle.steps.specs.Outcomes.{Observation, Outcome, Request, silent, transition}
use Rattle.steps.specs.Steps.{move_step, state_step, statement_step}
use Rattle.steps.proofs.Items.{push_old}
use Rattle.run.specs.Dispatches.{is_outside}
use Rattle.run.specs.Changes.{after_call, call_made, maker_after_call}
use Rattle.run.specs.Choices.{AdvancesAs, StandsAs, at_call, is_delivery}
use Rattle.evaluation.specs.declared.value.Value.TheVariants as value
use Rattle.evaluation.specs.Values.{Data}
use Rattle.outside.specs.Outsides.{OutgoingCall}
use Rattle.steps.specs.Changes.{at_statement}
use Rattle.run.proofs.Putting.{longer_same, stands_silent, target_cells}
use Rattle.run.proofs.Sequences.{longer_then}

pub within : {A : Type 0} (xs : List A) (n : ℕ) (x : A) → item_at xs n ≡ Some x → n ≤ length xs
within xs zero x e = omega arith
within xs (suc n) x e = let lt = slice_get_within xs n x e in omega (arith, lt)

-- a rule of a call is the new call, and its maker after that
call_by_is : (m : Content) (n : ℕ) (x y : CallRecord) (how : Manner) (r : Receiver) (target : Option ℕ) (next : ℕ) (d : Configuration) →
    call_by m n x how r d y target next ≡ after_call n how r target next (length d.calls + 1) (with_new_call d y) x
call_by_is m n x y manner.Asynchronous r target next d = refl
call_by_is m n x y manner.Synchronous Receiver.own_group target next d = refl
call_by_is m n x y manner.Synchronous Receiver.outside target next d = refl
call_by_is m n x y manner.Synchronous Receiver.other_group target next d = refl

-- a new call, and its maker
pub made_is : (m : Content) (c p r : Configuration) (n : ℕ) (target : Option ℕ) (how : Manner) (next new : ℕ) (a : Message) (f : Dispatch) (y : CallRecord) (q : Option CallRecord) → call_at c n ≡ q →
    ((x : CallRecord) → y ≡ new_call m n x a f.row f.method how f.receiver) → p ≡ with_new_call c y → new ≡ length c.calls + 1 →
    r ≡ maker_after_call n how f.receiver target next new p (call_at p n) → is_some q ≡ true → r ≡ call_made m n target how next a f c q
made_is m c p r n target how next new a f y None e hy hp hn hr some = absurd (false≢true some)
made_is m c p r n target how next new a f y (Some x) e hy hp hn hr some =
    let z = new_call m n x a f.row f.method how f.receiver in
    let pushed : p ≡ with_new_call c z = hp ∙ ap (λ (v : CallRecord). with_new_call c v) (hy x) in
    hr ∙ (λ i. maker_after_call n how f.receiver target next (hn i) (pushed i) (call_at (pushed i) n))
    ∙ ap (maker_after_call n how f.receiver target next (length c.calls + 1) (with_new_call c z)) (push_old c.calls z n x e)
    ∙ sym (call_by_is m n x z how f.receiver target next c)

-- the outcome of a call, by where the object stands and what the outside says
module _ (m : Content) (n : ℕ) (x : CallRecord) (seen : Observation) (target : Option ℕ) (call : Call) (next : ℕ) (a : Message) (d : Configuration) (q : Option Dispatch) (f : Dispatch) (found : q ≡ Some f) where
  to : call_dispatch m n x seen target call next a d q ≡
      call_to seen f.receiver (outgoing m (length d.calls + 1) a f) (call_made m n target call.manner next a f d (Some x))
  to = ap (call_dispatch m n x seen target call next a d) found

  inside_to : (r : Receiver) (c : Configuration) → is_outside r ≡ false → call_to seen r (outgoing m (length d.calls + 1) a f) c ≡ silent c
  inside_to Receiver.outside c e = absurd (true≢false e)
  inside_to Receiver.own_group c e = refl
  inside_to Receiver.other_group c e = refl

  outside_to : (r : Receiver) (c : Configuration) (b : Bool) → is_outside r ≡ true → takes_call seen (outgoing m (length d.calls + 1) a f) ≡ b → call_to seen r (outgoing m (length d.calls + 1) a f) c ≡
      cond b (transition c (Request.take (outgoing m (length d.calls + 1) a f))) (Err refusal.NotTaken)
  outside_to Receiver.outside c b e t = ap (λ (b : Bool). cond b (transition c (Request.take (outgoing m (length d.calls + 1) a f))) (Err refusal.NotTaken)) t
  outside_to Receiver.own_group c b e t = absurd (false≢true e)
  outside_to Receiver.other_group c b e t = absurd (false≢true e)

  pub is_inside : is_outside f.receiver ≡ false → call_dispatch m n x seen target call next a d q ≡ silent (call_made m n target call.manner next a f d (Some x))
  is_inside e = to ∙ inside_to f.receiver (call_made m n target call.manner next a f d (Some x)) e

  pub not_taken : is_outside f.receiver ≡ true → takes_call seen (outgoing m (length d.calls + 1) a f) ≡ false → call_dispatch m n x seen target call next a d q ≡ Err refusal.NotTaken
  not_taken o e = to ∙ outside_to f.receiver (call_made m n target call.manner next a f d (Some x)) false o e

  pub is_taken : is_outside f.receiver ≡ true → takes_call seen (outgoing m (length d.calls + 1) a f) ≡ true → call_dispatch m n x seen target call next a d q ≡
      transition (call_made m n target call.manner next a f d (Some x)) (Request.take (outgoing m (length d.calls + 1) a f))
  is_taken o e = to ∙ outside_to f.receiver (call_made m n target call.manner next a f d (Some x)) true o e

pub stands_advances : {O : Type 0} (g : Ghosts O) (out : Outcome) (c c' : Configuration) (o : O) (r : Result (Unit {0}) Refusal) → StandsAs out c r c' → AdvancesAs g out c o r c' o
stands_advances g (Err e) c c' o r h = (h.0, h.1, h.2, refl)
stands_advances {O} g (Ok d) c c' o r h =
    (h.0, h.1, h.2, subst (λ (q : Request). Fulfils g o q o) (sym h.3) refl, ap is_delivery h.3)

-- what was tried after cells were made
pub advances_from : {O : Type 0} (g : Ghosts O) (out : Outcome) (c d c' : Configuration) (o o' : O) (r : Result (Unit {0}) Refusal) → AdvancesAs g out d o r c' o' → d ≡ with_cells c d.cells → Longer c.cells d.cells → AdvancesAs g out c o r c' o'
advances_from g (Err e) c d c' o o' r h same grows =
    (h.0, ap (λ (f : Configuration). with_cells f c.cells) h.1 ∙ ap (λ (f : Configuration). with_cells f c.cells) same, longer_then c.cells d.cells c'.cells grows h.2, h.3)
advances_from g (Ok k) c d c' o o' r h same grows = (h.0, h.1, longer_then c.cells d.cells c'.cells grows h.2, h.3, h.4)

-- a statement that is performed
pub performs : (m : Content) (s : Observation) (c : Configuration) (n : ℕ) (x : CallRecord) (z : Statement) (rule : CallRecord → Outcome) → call_at c n ≡ Some x → statement_at m x.statement ≡ Some z → statement_step m c s n x (Some z) ≡ rule x →
    at_call rule (call_at c n) ≡ at_call (λ (x : CallRecord). statement_step m c s n x (statement_at m x.statement)) (call_at c n)
performs m s c n x z rule e f h =
    ap (at_call rule) e ∙ sym h ∙ sym (ap (statement_step m c s n x) f) ∙ sym (ap (at_call (λ (x : CallRecord). statement_step m c s n x (statement_at m x.statement))) e)

-- a call that moves
pub moves_as : (m : Content) (s : Observation) (c : Configuration) (n : ℕ) (x : CallRecord) (t : CallState) (rule : CallRecord → Outcome) → call_at c n ≡ Some x → x.state ≡ t → state_step m c s n x t ≡ rule x →
    at_call rule (call_at c n) ≡ move_step m c s n (call_at c n)
moves_as m s c n x t rule e f h = ap (at_call rule) e ∙ sym h ∙ sym (ap (state_step m c s n x) f) ∙ sym (ap (move_step m c s n) e)

pub advances_as : {O : Type 0} (g : Ghosts O) (out out' : Outcome) (c c' : Configuration) (o o' : O) (r : Result (Unit {0}) Refusal) → out ≡ out' → AdvancesAs g out c o r c' o' → AdvancesAs g out' c o r c' o'
advances_as g out out' c c' o o' r e h = subst (λ (q : Outcome). AdvancesAs g q c o r c' o') e h

-- a call leaves the cells
pub made_cells : (m : Content) (n : ℕ) (target : Option ℕ) (how : Manner) (next : ℕ) (a : Message) (f : Dispatch) (d : Configuration) (x : CallRecord) → (call_made m n target how next a f d (Some x)).cells ≡ d.cells
made_cells m n target how next a f d x = ap (λ (c : Configuration). c.cells) (call_by_is m n x z how f.receiver target next d) ∙ after_cells how f.receiver
  where
    z : CallRecord
    z = new_call m n x a f.row f.method how f.receiver

    after_cells : (how : Manner) (r : Receiver) → (after_call n how r target next (length d.calls + 1) (with_new_call d z) x).cells ≡ d.cells
    after_cells manner.Asynchronous r = target_cells (with_new_call d z) n (at_statement x next) target (value.Future (length d.calls + 1))
    after_cells manner.Synchronous Receiver.own_group = refl
    after_cells manner.Synchronous Receiver.outside = refl
    after_cells manner.Synchronous Receiver.other_group = refl

pub goes_inside : {O : Type 0} (g : Ghosts O) {out : Outcome} {d : Configuration} (c c' : Configuration) (o : O) → out ≡ silent d → c' ≡ d → d.cells ≡ c.cells → AdvancesAs g out c o (Ok tt) c' o
goes_inside {O} g {out} c c' o h made cells =
    stands_advances g out c c' o (Ok tt) (stands_silent c c' h made (subst (λ (xs : List Data). Longer c.cells xs) (sym (ap (λ (f : Configuration). f.cells) made ∙ cells)) (longer_same c.cells)))

pub goes_outside : {O : Type 0} (g : Ghosts O) {out : Outcome} {d : Configuration} (q : OutgoingCall) (c c' : Configuration) (o o' : O) → out ≡ transition d (Request.take q) → c' ≡ d → d.cells ≡ c.cells →
    Fulfils g o (Request.take q) o' → AdvancesAs g out c o (Ok tt) c' o'
goes_outside {O} g {out} q c c' o o' h made cells takes =
    subst (λ (out : Outcome). AdvancesAs g out c o (Ok tt) c' o') (sym h)
    (refl, made, subst (λ (xs : List Data). Longer c.cells xs) (sym (ap (λ (f : Configuration). f.cells) made ∙ cells)) (longer_same c.cells), takes, refl)
