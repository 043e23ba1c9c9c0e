-- What a choice makes of a configuration.
use Rattle.std.specs.Prelude.{ℕ, Bool, true, false, cond, ◌==◌, ◌&&◌, Some, None, Err, Option}
use Rattle.std.specs.List.{list_any}
use Rattle.tables.specs.Layout.{Content}
use Rattle.syntax.specs.declared.statements.Statement.{Statement}
use Rattle.syntax.specs.declared.statements.Statement.TheVariants as statement
use Rattle.outside.specs.declared.value.PlainValue.{PlainValue}
use Rattle.outside.specs.declared.value.Reply.{Reply}
use Rattle.outside.specs.Values.{sort_of}
use Rattle.steps.specs.declared.records.CallRecord.{CallRecord}
use Rattle.steps.specs.declared.refusal.Refusal.TheVariants as refusal
use Rattle.steps.specs.declared.state.CallState.{CallState}
use Rattle.steps.specs.declared.state.CallState.TheVariants as state
use Rattle.steps.specs.Calling.{call_step}
use Rattle.steps.specs.Configurations.{Configuration, call_at, group_of, same_group, statement_at}
use Rattle.steps.specs.Creating.{new_step}
use Rattle.steps.specs.Crossing.{result_sort, same_sort, value_of_plain}
use Rattle.steps.specs.Guards.{at_false_await}
use Rattle.steps.specs.Local.{assign_step, await_step, branch_step, get_step}
use Rattle.steps.specs.Outcomes.{Observation, Outcome, Request, not_there, silent, transition}
use Rattle.steps.specs.Returning.{return_step, store_step}
use Rattle.steps.specs.Rules as rule
use Rattle.steps.specs.States.{is_active, is_outside}

-- a process that is active in a group
abbrev pub is_active_in : Configuration → (group : Option ℕ) → CallRecord → Bool
is_active_in c g y = is_active y.state && same_group (group_of c y.object) g

-- the group has an active process
abbrev pub is_busy : Configuration → (group : Option ℕ) → Bool
is_busy c g = list_any (is_active_in c g) c.calls

-- The call is out, and its result is of the value's sort.
abbrev pub expects : Content → CallRecord → PlainValue → Bool
expects m x v = is_outside x.state && same_sort (result_sort m x) (sort_of v)

module _ (m : Content) (c : Configuration) where
  -- a reply to a call, if that expects it
  abbrev pub reply_to : Reply → Option CallRecord → Outcome
  reply_to r None = Err refusal.StrangeReply
  reply_to r (Some x) =
      cond (expects m x r.value) (transition (rule.reply c r.call x (value_of_plain r.value)) (Request.deliver r.call)) (Err refusal.StrangeReply)

  -- Choice 0: the reply that comes next.
  abbrev pub reply_step : Option Reply → Outcome
  reply_step None = Err refusal.NothingWaits
  reply_step (Some r) = reply_to r (call_at c r.call)

  module _ (seen : Observation) (n : ℕ) where
    -- A queued process becomes active if its group is idle and it does not stand at a false await.
    abbrev pub activate_step : CallRecord → (busy held_up : Bool) → Outcome
    activate_step x true held_up = Err refusal.GroupBusy
    activate_step x false true = Err refusal.FalseGuard
    activate_step x false false = silent (rule.activate c n x)

    -- An active process performs its statement.
    abbrev pub statement_step : CallRecord → Option Statement → Outcome
    statement_step x None = not_there
    statement_step x (Some (statement.Skip next)) = silent (rule.skip c n x next)
    statement_step x (Some (statement.Assign target value next)) = assign_step m c n x target value next
    statement_step x (Some (statement.Branch test next other)) = branch_step m c n x test next other
    statement_step x (Some (statement.Suspend next)) = silent (rule.suspend c n x next)
    statement_step x (Some (statement.Await slots next)) = await_step m c n x slots next
    statement_step x (Some (statement.Get target future next)) = get_step m c n x target future next
    statement_step x (Some (statement.New target creation next)) = new_step m c n x target creation next
    statement_step x (Some (statement.Call target call next)) = call_step m n x seen c target call next
    statement_step x (Some (statement.Return value)) = return_step m c n x value

    -- What a call does in each of its states.
    abbrev pub state_step : CallRecord → CallState → Outcome
    state_step x state.Sent = silent (rule.bind c n x)
    state_step x state.Queued = activate_step x (is_busy c (group_of c x.object)) (at_false_await m c x)
    state_step x (state.Active None) = statement_step x (statement_at m x.statement)
    state_step x (state.Active (Some callee)) = store_step m c n x callee
    state_step x (state.Calling callee) = Err refusal.Calling
    state_step x state.Ended = Err refusal.Finished
    state_step x state.Outside = Err refusal.Finished

    -- Choice n: call n moves.
    abbrev pub move_step : Option CallRecord → Outcome
    move_step None = Err refusal.NoSuchCall
    move_step (Some x) = state_step x x.state

-- The step of a choice: 0 is a reply, any other number a move of the call that has it.
abbrev pub step : Content → Configuration → Observation → (choice : ℕ) → Outcome
step m c seen choice = cond (choice == 0) (reply_step m c seen.next) (move_step m c seen choice (call_at c choice))
