-- Each step keeps types.
use Rattle.std.proofs.Common.{◌≡◌, ℕ, Bool, true, false, cond, All, List, [], ◌∷◌, Some, None, Option, refl, ap}
use Rattle.std.specs.Prelude.{◌==◌}
use Rattle.std.proofs.lemmas.List.Elements.{All-head, All-tail}
use Rattle.tables.specs.Layout.{Content}
use Rattle.syntax.specs.declared.statements.Statement.{Statement}
use Rattle.syntax.specs.declared.statements.Statement.TheVariants as statement
use Rattle.typing.specs.Scopes.{method_scope}
use Rattle.typing.specs.StatementLaws.{InvertsStatement}
use Rattle.typing.specs.Statements.{goes_on}
use Rattle.steps.specs.declared.state.CallState.{CallState}
use Rattle.steps.specs.declared.state.CallState.TheVariants as state
use Rattle.steps.specs.declared.records.CallRecord.{CallRecord}
use Rattle.steps.specs.Configurations.{Configuration, call_at, group_of, statement_at}
use Rattle.steps.specs.Guards.{at_false_await}
use Rattle.steps.specs.Outcomes.{Observation}
use Rattle.steps.specs.Sound.{referents}
use Rattle.steps.specs.States.{callee_of, is_unfinished}
use Rattle.steps.specs.Steps.{activate_step, is_busy, move_step, reply_step, state_step, statement_step, step}
use Rattle.steps_typed.proofs.Endings.{OutcomeTyped}
use Rattle.steps_typed.proofs.TypedCalling.{call_typed}
use Rattle.steps_typed.proofs.TypedCreating.{new_typed}
use Rattle.steps_typed.proofs.TypedLocal.{Free, advance_typed, assign_typed, await_typed, branch_typed, free_active, free_queued, get_typed, skip_typed, suspend_typed}
use Rattle.steps_typed.proofs.TypedReplying.{reply_step_typed}
use Rattle.steps_typed.proofs.TypedReturning.{return_typed, statement_stands, store_typed}
use Rattle.steps_typed.proofs.Typings.{CallTyped, ConfigurationTyped}
use Rattle.steps_typed.specs.Laws.{CallersWait}
use Rattle.loading.specs.Accepted.{IsAccepted}

module _ (m : Content) (accepted : IsAccepted m) (seen : Observation) (c : Configuration) (h : ConfigurationTyped m c) (n : ℕ) where
  module _ (x : CallRecord) (there : call_at c n ≡ Some x)
      (caller : (k : ℕ) → is_unfinished x.state ≡ true → x.caller ≡ Some k → (y : CallRecord) × (call_at c k ≡ Some y) × (y.state ≡ state.Calling n)) where
    t : CallTyped m (referents m c) c.cells x
    t = h.calls n x there

    -- the first of the statements that follow stands, and the second
    first : (next : ℕ) (rest : List ℕ) → All (λ r. goes_on t.method r ≡ true) (next ∷ rest) → goes_on t.method next ≡ true
    first next rest = All-head (λ (r : ℕ). goes_on t.method r ≡ true) next rest

    second : (next other : ℕ) → All (λ r. goes_on t.method r ≡ true) (next ∷ other ∷ []) → goes_on t.method other ≡ true
    second next other all = first other [] (All-tail (λ (r : ℕ). goes_on t.method r ≡ true) next (other ∷ []) all)

    module _ (active : x.state ≡ state.Active None) where
      free : Free x.state
      free = rw active free_active

      unfinished : is_unfinished x.state ≡ true
      unfinished = ap is_unfinished active

      statement_step_typed : (z : Statement) → statement_at m x.statement ≡ Some z → InvertsStatement m t.class t.method (method_scope m t.class t.method) z →
          OutcomeTyped m (statement_step m c seen n x (Some z))
      statement_step_typed (statement.Skip next) at i = skip_typed m c h n x there accepted.typed.functions t free next (first next [] i.within)
      statement_step_typed (statement.Assign target value next) at i =
          assign_typed m c h n x there accepted.typed.functions t free target value next i.kind.0 i.kind.1 i.kind.2 (first next [] i.within)
      statement_step_typed (statement.Branch test next other) at i =
          branch_typed m c h n x there accepted.typed.functions t free test next other i.kind (first next (other ∷ []) i.within)
          (second next other i.within)
      statement_step_typed (statement.Suspend next) at i = suspend_typed m c h n x there accepted.typed.functions t free next (first next [] i.within)
      statement_step_typed (statement.Await slots next) at i =
          await_typed m c h n x there accepted.typed.functions t free slots next (t.stands unfinished) (first next [] i.within)
      statement_step_typed (statement.Get target future next) at i =
          get_typed m c h n x there accepted.typed.functions t free target future next i.kind.0 i.kind.1 i.kind.2 i.kind.3 i.kind.4
          (first next [] i.within)
      statement_step_typed (statement.New target creation next) at i =
          new_typed m accepted.lawful c h n x there accepted.typed.functions t free target creation next i.kind (first next [] i.within)
      statement_step_typed (statement.Call target call next) at i =
          call_typed m accepted seen c h n x there accepted.typed.functions t active target call next at i.kind (first next [] i.within)
      statement_step_typed (statement.Return value) at i =
          return_typed m c h n x there accepted.typed.functions t active (λ k e. caller k unfinished e) value i.kind.0 i.kind.1 i.kind.2

      active_step_typed : OutcomeTyped m (statement_step m c seen n x (statement_at m x.statement))
      active_step_typed = let z = statement_stands m c h n x there accepted.typed accepted.lawful t unfinished in rw z.1 (statement_step_typed z.0 z.1 z.2)

    activate_step_typed : is_unfinished x.state ≡ true → (busy held : Bool) → OutcomeTyped m (activate_step m c seen n x busy held)
    activate_step_typed u true held = tt
    activate_step_typed u false true = tt
    activate_step_typed u false false = advance_typed m c h n x there u t x.statement (state.Active None) free_active (t.stands u)

    state_step_typed : (s : CallState) → x.state ≡ s → OutcomeTyped m (state_step m c seen n x s)
    state_step_typed state.Sent e = advance_typed m c h n x there (ap is_unfinished e) t x.statement state.Queued free_queued (t.stands (ap is_unfinished e))
    state_step_typed state.Queued e = activate_step_typed (ap is_unfinished e) (is_busy c (group_of c x.object)) (at_false_await m c x)
    state_step_typed (state.Active None) e = active_step_typed e
    state_step_typed (state.Active (Some callee)) e = store_typed m c h n x there t accepted.typed accepted.lawful (ap is_unfinished e) callee (h.makers n callee x there (ap callee_of e))
    state_step_typed (state.Calling callee) e = tt
    state_step_typed state.Ended e = tt
    state_step_typed state.Outside e = tt

  move_step_typed : ((k : ℕ) (x : CallRecord) → call_at c n ≡ Some x → is_unfinished x.state ≡ true → x.caller ≡ Some k →
      (y : CallRecord) × (call_at c k ≡ Some y) × (y.state ≡ state.Calling n)) → (o : Option CallRecord) → call_at c n ≡ o → OutcomeTyped m (move_step m c seen n o)
  move_step_typed callers None e = tt
  move_step_typed callers (Some x) e = state_step_typed x e (λ k. callers k x e) x.state refl

module _ (m : Content) (accepted : IsAccepted m) (seen : Observation) (c : Configuration) (h : ConfigurationTyped m c) (callers : CallersWait c) where
  chosen_typed : (choice : ℕ) (answers : Bool) → OutcomeTyped m (cond answers (reply_step m c seen.next) (move_step m c seen choice (call_at c choice)))
  chosen_typed choice true = reply_step_typed m c h seen.next
  chosen_typed choice false = move_step_typed m accepted seen c h choice (λ k x. callers choice k x) (call_at c choice) refl

  pub step_typed : (choice : ℕ) → OutcomeTyped m (step m c seen choice)
  step_typed choice = chosen_typed choice (choice == 0)
