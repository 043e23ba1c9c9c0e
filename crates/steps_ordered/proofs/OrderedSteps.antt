-- Each accepted choice keeps a configuration in order.
use Rattle.std.proofs.Common.{◌≡◌, ℕ, zero, suc, Bool, cond, Some, None, Option, IfOk, refl, sym, ap, subst, ◌∙◌, arith}
use Rattle.std.specs.Prelude.{◌&&◌}
use Rattle.std.proofs.lemmas.Bool.{ne_eqb}
use Rattle.std.proofs.lemmas.Result.{IfOk-weaker}
use Rattle.tables.specs.Layout.{Content}
use Rattle.rules.specs.Words.{passes}
use Rattle.syntax.specs.Rows.{given}
use Rattle.syntax.specs.declared.statements.Statement.{Statement}
use Rattle.syntax.specs.declared.statements.Statement.TheVariants as statement
use Rattle.syntax.proofs.Parts.{given_parts}
use Rattle.outside.specs.Outsides.{Waits}
use Rattle.steps.specs.declared.records.CallRecord.{CallRecord}
use Rattle.steps.specs.declared.state.CallState.{CallState}
use Rattle.steps.specs.declared.state.CallState.TheVariants as state
use Rattle.steps.specs.Configurations.{Configuration, call_at, group_of, statement_at}
use Rattle.steps.specs.Guards.{at_false_await}
use Rattle.steps.specs.Outcomes.{Observation, Transition}
use Rattle.steps.specs.Sound.{InOrder, WaitsBecome, calls_outside}
use Rattle.steps.specs.States.{is_active}
use Rattle.steps.specs.Steps.{is_busy, move_step, reply_step, state_step, statement_step, step}
use Rattle.steps_ordered.specs.Ending.{EndsBy, Finish, finish_of, is_return, is_running, stands_at_return}
use Rattle.steps_ordered.specs.Lasting.{HaveObjects, KeepsIdentities, KeepsValues}
use Rattle.steps_ordered.specs.Laws.{CallsEnd, IdentitiesLast, OrderLasts, ValuesLast}
use Rattle.steps_ordered.proofs.Lasting.{Lasts, lasts_same, objects_same}
use Rattle.steps_ordered.proofs.OrderedCalling.{call_fine}
use Rattle.steps_ordered.proofs.OrderedEnds.{reply_fine, return_fine}
use Rattle.steps_ordered.proofs.OrderedLocal.{activate_fine, assign_fine, await_fine, branch_fine, get_fine, new_fine, queue_fine, skip_fine, store_fine, suspend_fine}
use Rattle.steps_ordered.proofs.Shifting.{IsBase, Before, IsFine, Follows, moves}

module _ (m : Content) (c : Configuration) (seen : Observation) (waits : Waits) (order : InOrder c) (objects : HaveObjects c) (out : (k : ℕ) → waits k ≡ calls_outside m c k) where
  abbrev before : Before
  before = record { waits = waits; start = c }

  base : IsBase m c before
  base = record { order = order; homes = objects; out = out; lasts = lasts_same c c refl (objects_same c) refl refl }

  module _ (n : ℕ) where
    -- what call n ends, if it returns
    abbrev if_return : (returns : Bool) → Finish
    if_return returns = cond returns (Finish.return n) Finish.nothing

    module _ (x : CallRecord) (there : call_at c n ≡ Some x) where
      statement_fine : x.state ≡ state.Active None → (z : Option Statement) → IsFine m before (if_return (passes z is_return)) (statement_step m c seen n x z)
      statement_fine active None = tt
      statement_fine active (Some (statement.Skip next)) = skip_fine m before c base n x there (ap is_active active) next
      statement_fine active (Some (statement.Assign target value next)) = assign_fine m before c base n x there (ap is_active active) target value next
      statement_fine active (Some (statement.Branch test next other)) = branch_fine m before c base n x there (ap is_active active) test next other
      statement_fine active (Some (statement.Suspend next)) = suspend_fine m before c base n x there (ap is_active active) next
      statement_fine active (Some (statement.Await slots next)) = await_fine m before c base n x there (ap is_active active) slots next
      statement_fine active (Some (statement.Get target future next)) = get_fine m before c base n x there (ap is_active active) target future next
      statement_fine active (Some (statement.New target creation next)) = new_fine m before c base n x there (ap is_active active) target creation next
      statement_fine active (Some (statement.Call target call next)) = call_fine m before seen c base n x there active target call next
      statement_fine active (Some (statement.Return value)) = return_fine m waits c base n x there active value

      state_fine : (s : CallState) → x.state ≡ s → IsFine m before (if_return (is_running s && passes (statement_at m x.statement) is_return)) (state_step m c seen n x s)
      state_fine state.Sent e = queue_fine m before c base n x there (ap moves e) x.statement
      state_fine state.Queued e = activate_fine m before c base n x there seen e (is_busy c (group_of c x.object)) (at_false_await m c x) refl
      state_fine (state.Active None) e = statement_fine e (statement_at m x.statement)
      state_fine (state.Active (Some callee)) e = store_fine m before c base n x there (ap is_active e) callee
      state_fine (state.Calling callee) e = tt
      state_fine state.Ended e = tt
      state_fine state.Outside e = tt

    move_fine : (o : Option CallRecord) → call_at c n ≡ o → IsFine m before (if_return (passes o (stands_at_return m))) (move_step m c seen n o)
    move_fine None e = tt
    move_fine (Some x) e = state_fine x e x.state refl

  step_fine : (choice : ℕ) → IsFine m before (finish_of m c seen choice) (step m c seen choice)
  step_fine zero = reply_fine m waits c base seen.next
  step_fine (suc n) =
      let P : Bool → Type 0 = λ b. IsFine m before (finish_of m c seen (suc n)) (cond b (reply_step m c seen.next) (move_step m c seen (suc n) (call_at c (suc n)))) in
      subst P (sym (ne_eqb (suc n) 0 (λ e. omega arith))) (move_fine (suc n) (call_at c (suc n)) refl)

-- what an accepted choice leads to, where the calls wait that are out
last_by : (m : Content) (c : Configuration) (seen : Observation) → InOrder c → HaveObjects c → (choice : ℕ) (Q : Transition → Type 0) →
    ((d : Transition) → Lasts c (finish_of m c seen choice) d.configuration → Q d) → IfOk (step m c seen choice) Q
last_by m c seen order objects choice Q each =
    IfOk-weaker (step m c seen choice) (Follows m (record { waits = calls_outside m c; start = c }) (finish_of m c seen choice)) Q (λ d p. each d p.2)
    (step_fine m c seen (calls_outside m c) order objects (λ k. refl) choice)

pub order_lasts : OrderLasts
order_lasts m c seen waits order objects out choice =
    IfOk-weaker (step m c seen choice) (Follows m (record { waits = waits; start = c }) (finish_of m c seen choice))
    (λ d. InOrder d.configuration × ((after : Waits) → WaitsBecome waits d.request after → (k : ℕ) → after k ≡ calls_outside m d.configuration k)) (λ d p. (p.0, p.1))
    (step_fine m c seen waits order objects out choice)

pub values_last : ValuesLast
values_last m c seen order objects choice =
    last_by m c seen order objects choice (λ d. KeepsValues c d.configuration) (λ d last f v e. (
    let p = given_parts (call_at c f) (λ x. x.result) v e in
    let q = last.calls f p.0 p.1 in
    ap (λ (o : Option CallRecord). given o (λ x. x.result)) q.1 ∙ q.2.value v p.2
    ))

pub identities_last : IdentitiesLast
identities_last m c seen order objects choice =
    last_by m c seen order objects choice (λ d. KeepsIdentities c d.configuration) (λ d last. record {
      calls = λ n x there. (let q = last.calls n x there in (q.0, q.1, q.2.same));
      objects = last.objects;
    })

pub calls_end : CallsEnd
calls_end m c seen order objects choice =
    last_by m c seen order objects choice (λ d. EndsBy (finish_of m c seen choice) c d.configuration) (λ d last. record {
      calls = λ n x there. (let q = last.calls n x there in (q.0, q.1, q.2.unfinished, q.2.ended));
      new_calls = last.new_calls;
      returned = last.returned;
      answered = last.answered;
    })
