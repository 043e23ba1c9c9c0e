-- Statements in which no other call takes part keep configurations in order.
use Rattle.std.proofs.Common.{◌≡◌, ℕ, ◌+◌, Bool, true, false, cond, List, [], ◌∷◌, ◌++◌, length, Some, None, Ok, Err, Option, Result, refl, ap}
use Rattle.std.specs.Prelude.{nat_lt}
use Rattle.std.specs.List.{slice_get}
use Rattle.std.proofs.lemmas.Bool.{false≢true}
use Rattle.tables.specs.declared.rows.ClassRow.{ClassRow}
use Rattle.tables.specs.Layout.{Content}
use Rattle.rules.specs.Words.{part}
use Rattle.shape.specs.Shape.{is_outside_class}
use Rattle.syntax.specs.declared.nodes.Parts.{Parts}
use Rattle.syntax.specs.declared.statements.Creation.{Creation}
use Rattle.syntax.specs.declared.statements.Group.{Group}
use Rattle.syntax.specs.declared.statements.Group.TheVariants as group
use Rattle.syntax.specs.declared.statements.Statement.{Statement}
use Rattle.syntax.specs.declared.statements.Statement.TheVariants as statement
use Rattle.syntax.specs.Nodes.{parts}
use Rattle.evaluation.specs.declared.refusal.EvaluationRefusal.{EvaluationRefusal}
use Rattle.evaluation.specs.declared.value.Value.{Value}
use Rattle.evaluation.specs.declared.value.Value.TheVariants as value
use Rattle.evaluation.specs.Plans.{Plan, ask}
use Rattle.evaluation.specs.Rules.{all_of}
use Rattle.evaluation.specs.Values.{Data, truth_of}
use Rattle.steps.specs.declared.records.CallRecord.{CallRecord}
use Rattle.steps.specs.declared.refusal.Refusal.TheVariants as refusal
use Rattle.steps.specs.declared.records.ObjectRecord.{ObjectRecord}
use Rattle.steps.specs.declared.state.CallState.{CallState}
use Rattle.steps.specs.declared.state.CallState.TheVariants as state
use Rattle.steps.specs.Changes.{with_call, with_cells, with_target}
use Rattle.steps.specs.Configurations.{Configuration, call_at, call_environment, group_of, statement_at, value_at}
use Rattle.steps.specs.Creating.{new_by, new_of_class, new_step}
use Rattle.steps.specs.Defaults.{with_defaults}
use Rattle.steps.specs.Guards.{guard}
use Rattle.steps.specs.Local.{assign_step, await_step, branch_step, get_step, read_future, read_value}
use Rattle.steps.specs.Outcomes.{Observation, Outcome, on_answer, on_ending, plan_ending, silent}
use Rattle.steps.specs.Returning.{store_at, store_result, store_step}
use Rattle.steps.specs.Rules as rule
use Rattle.steps.specs.States.{is_active}
use Rattle.steps.specs.Steps.{activate_step, is_busy}
use Rattle.steps_ordered.specs.Ending.{Finish}
use Rattle.steps_ordered.proofs.Lasting.{objects_push, objects_then}
use Rattle.steps_ordered.proofs.Shifting.{IsBase, Before, IsFine, Shifts, alone_active, alone_idle, base_cells, moves, now_at, put_shift, shift_fine, target_shift}

-- what follows on an evaluation
module _ (m : Content) (w : Before) (f : Finish) (c : Configuration) (x : CallRecord) {A : Type 0} (k : A → Configuration → Outcome) where
  ending_fine : (r : Result A EvaluationRefusal) (cells : List Data) → ((a : A) → IsFine m w f (k a (with_cells c cells))) → IsFine m w f (on_ending c k r cells)
  ending_fine (Ok a) cells each = each a
  ending_fine (Err e) cells each = tt

  pub answer_fine : (p : Plan A) → ((a : A) (cells : List Data) → IsFine m w f (k a (with_cells c cells))) → IsFine m w f (on_answer m c x p k)
  answer_fine p each = ending_fine (plan_ending m c x p).answer (plan_ending m c x p).state.cells (λ a. each a (plan_ending m c x p).state.cells)

active_moves : (s : CallState) → is_active s ≡ true → moves s ≡ true
active_moves state.Sent e = absurd (false≢true e)
active_moves state.Queued e = absurd (false≢true e)
active_moves (state.Active k) e = refl
active_moves (state.Calling k) e = absurd (false≢true e)
active_moves state.Ended e = absurd (false≢true e)
active_moves state.Outside e = absurd (false≢true e)

module _ (m : Content) (w : Before) (c : Configuration) (base : IsBase m c w) (n : ℕ) (x : CallRecord) (there : call_at c n ≡ Some x) where
  -- a process that was active and is
  pub goes_on_fine : is_active x.state ≡ true → (s : CallState) → is_active s ≡ true → (d : Configuration) → Shifts c d n x s → IsFine m w Finish.nothing (silent d)
  goes_on_fine was s is d shift =
      shift_fine m c d w base n x there s shift (active_moves x.state was) (active_moves s is) (λ a. alone_active c base.order n x there was)

  put_fine : is_active x.state ≡ true → (row : ℕ) → IsFine m w Finish.nothing (silent (with_call c n (now_at x row x.state)))
  put_fine was row = goes_on_fine was x.state was (with_call c n (now_at x row x.state)) (put_shift c n x row x.state)

  pub target_fine : is_active x.state ≡ true → (row : ℕ) (s : CallState) → is_active s ≡ true → (target : Option ℕ) (v : Value) →
      IsFine m w Finish.nothing (silent (with_target c n (now_at x row s) target v))
  target_fine was row s is target v = goes_on_fine was s is (with_target c n (now_at x row s) target v) (target_shift c n x row s target v)

  -- one that is queued
  pub queue_fine : moves x.state ≡ true → (row : ℕ) → IsFine m w Finish.nothing (silent (with_call c n (now_at x row state.Queued)))
  queue_fine was row =
      shift_fine m c (with_call c n (now_at x row state.Queued)) w base n x there state.Queued (put_shift c n x row state.Queued) was refl (λ a. absurd (false≢true a))

  pub activate_fine : (seen : Observation) → x.state ≡ state.Queued → (busy held_up : Bool) → is_busy c (group_of c x.object) ≡ busy →
      IsFine m w Finish.nothing (activate_step m c seen n x busy held_up)
  activate_fine seen e true held_up idle = tt
  activate_fine seen e false true idle = tt
  activate_fine seen e false false idle =
      shift_fine m c (rule.activate c n x) w base n x there (state.Active None) (put_shift c n x x.statement (state.Active None)) (ap moves e) refl (λ a. alone_idle c n x idle)

  module _ (active : is_active x.state ≡ true) where
    pub skip_fine : (next : ℕ) → IsFine m w Finish.nothing (silent (rule.skip c n x next))
    skip_fine next = put_fine active next

    pub suspend_fine : (next : ℕ) → IsFine m w Finish.nothing (silent (rule.suspend c n x next))
    suspend_fine next = queue_fine (active_moves x.state active) next

    guard_fine : (next : ℕ) (b : Bool) → IsFine m w Finish.nothing (silent (cond b (rule.await_true c n x next) (rule.await_false c n x)))
    guard_fine next true = put_fine active next
    guard_fine next false = queue_fine (active_moves x.state active) x.statement

    pub await_fine : (slots : Parts) (next : ℕ) → IsFine m w Finish.nothing (await_step m c n x slots next)
    await_fine slots next = guard_fine next (guard c (call_environment c x) slots)

    test_fine : (next other : ℕ) (b : Bool) → IsFine m w Finish.nothing (silent (cond b (rule.cond_true c n x next) (rule.cond_false c n x other)))
    test_fine next other true = put_fine active next
    test_fine next other false = put_fine active other

    -- a new object
    new_in_fine : (group : Option ℕ) (groups class : ℕ) (fields : List Value) (target : Option ℕ) (next : ℕ) →
        IsFine m w Finish.nothing (silent (rule.new_in c n x group groups class fields target next))
    new_in_fine group groups class fields target next =
        let o : ObjectRecord = record { class = class; group = group; fields = fields } in
        let more : Configuration = record c { objects = c.objects ++ o ∷ []; groups = groups } in
        let v : Value = value.Object (length c.objects + 1) in
        let d : Configuration = rule.new_in c n x group groups class fields target next in
        let s : Shifts more d n x x.state = target_shift more n x next x.state target v in
        goes_on_fine active x.state active d (record {
          call = s.call;
          calls = s.calls;
          object = s.object;
          method = s.method;
          caller = s.caller;
          result = s.result;
          in_state = s.in_state;
          objects = objects_then c more d (objects_push c more o refl) s.objects;
          returned = s.returned;
          answered = s.answered;
        })

    new_by_fine : (g : Group) (outside : Bool) (class : ℕ) (fields : List Value) (target : Option ℕ) (next : ℕ) →
        IsFine m w Finish.nothing (silent (new_by m c n x g outside c class fields target next))
    new_by_fine g true = new_in_fine None c.groups
    new_by_fine group.Own false = new_in_fine (group_of c x.object) c.groups
    new_by_fine group.New false = new_in_fine (Some (c.groups + 1)) (c.groups + 1)

module _ (m : Content) (w : Before) (c : Configuration) (base : IsBase m c w) (n : ℕ) (x : CallRecord) (there : call_at c n ≡ Some x) (active : is_active x.state ≡ true) where
  base_after : (cells : List Data) → IsBase m (with_cells c cells) w
  base_after cells = base_cells m c w cells base

  -- a value in a target, over more cells
  value_fine : (target : Option ℕ) (next : ℕ) (v : Value) (cells : List Data) → IsFine m w Finish.nothing (silent (rule.assign (with_cells c cells) n x target v next))
  value_fine target next v cells = target_fine m w (with_cells c cells) (base_after cells) n x there active next x.state active target v

  pub assign_fine : (target : Option ℕ) (value next : ℕ) → IsFine m w Finish.nothing (assign_step m c n x target value next)
  assign_fine target value next =
      answer_fine m w Finish.nothing c x (λ v d. silent (rule.assign d n x target v next)) (ask value (call_environment c x)) (value_fine target next)

  pub branch_fine : (test next other : ℕ) → IsFine m w Finish.nothing (branch_step m c n x test next other)
  branch_fine test next other =
      answer_fine m w Finish.nothing c x (λ v d. silent (cond (truth_of v) (rule.cond_true d n x next) (rule.cond_false d n x other))) (ask test (call_environment c x))
      (λ v cells. test_fine m w (with_cells c cells) (base_after cells) n x there active next other (truth_of v))

  read_value_fine : (target : Option ℕ) (next : ℕ) (cells : List Data) (o : Option Value) →
      IsFine m w Finish.nothing (read_value m c n x target next (with_cells c cells) o)
  read_value_fine target next cells None = tt
  read_value_fine target next cells (Some v) = value_fine target next v cells

  read_future_fine : (target : Option ℕ) (next : ℕ) (v : Value) (cells : List Data) → IsFine m w Finish.nothing (read_future m c n x target next v (with_cells c cells))
  read_future_fine target next value.Unit cells = tt
  read_future_fine target next (value.Bool b) cells = tt
  read_future_fine target next (value.Int z) cells = tt
  read_future_fine target next value.Null cells = tt
  read_future_fine target next (value.Object o) cells = tt
  read_future_fine target next (value.Future f) cells = read_value_fine target next cells (value_at (with_cells c cells) f)
  read_future_fine target next (value.Constant k) cells = tt
  read_future_fine target next (value.Cell i) cells = tt

  pub get_fine : (target : Option ℕ) (future next : ℕ) → IsFine m w Finish.nothing (get_step m c n x target future next)
  get_fine target future next =
      answer_fine m w Finish.nothing c x (read_future m c n x target next) (ask future (call_environment c x)) (read_future_fine target next)

  room_fine : (target : Option ℕ) (e : Creation) (next : ℕ) (k : ClassRow) (fields : List Value) (cells : List Data) (room : Bool) →
      IsFine m w Finish.nothing (cond room (silent (new_by m c n x e.group (is_outside_class k) (with_cells c cells) e.class fields target next)) (Err refusal.NoObjectLeft))
  room_fine target e next k fields cells true =
      new_by_fine m w (with_cells c cells) (base_after cells) n x there active e.group (is_outside_class k) e.class fields target next
  room_fine target e next k fields cells false = tt

  class_fine : (target : Option ℕ) (e : Creation) (next : ℕ) (vs : List Value) (cells : List Data) (o : Option ClassRow) →
      IsFine m w Finish.nothing (new_of_class m c n x target e next vs (with_cells c cells) o)
  class_fine target e next vs cells None = tt
  class_fine target e next vs cells (Some k) =
      room_fine target e next k (with_defaults m vs (part k.fields_first k.fields m.lists)) cells (nat_lt (length c.objects) 64)

  pub new_fine : (target : Option ℕ) (e : Creation) (next : ℕ) → IsFine m w Finish.nothing (new_step m c n x target e next)
  new_fine target e next =
      answer_fine m w Finish.nothing c x (λ vs d. new_of_class m c n x target e next vs d (slice_get m.classes e.class)) (all_of (parts e.arguments) (call_environment c x))
      (λ vs cells. class_fine target e next vs cells (slice_get m.classes e.class))

  -- the result of a synchronous call
  store_at_fine : (v : Value) (z : Option Statement) → IsFine m w Finish.nothing (store_at m c n x v z)
  store_at_fine v None = tt
  store_at_fine v (Some (statement.Skip next)) = tt
  store_at_fine v (Some (statement.Assign target value next)) = tt
  store_at_fine v (Some (statement.Branch test next other)) = tt
  store_at_fine v (Some (statement.Suspend next)) = tt
  store_at_fine v (Some (statement.Await slots next)) = tt
  store_at_fine v (Some (statement.Get target future next)) = tt
  store_at_fine v (Some (statement.New target creation next)) = tt
  store_at_fine v (Some (statement.Call target call next)) = target_fine m w c base n x there active next (state.Active None) refl target v
  store_at_fine v (Some (statement.Return value)) = tt

  result_fine : (o : Option Value) → IsFine m w Finish.nothing (store_result m c n x o)
  result_fine None = tt
  result_fine (Some v) = store_at_fine v (statement_at m x.statement)

  pub store_fine : (callee : ℕ) → IsFine m w Finish.nothing (store_step m c n x callee)
  store_fine callee = result_fine (value_at c callee)
