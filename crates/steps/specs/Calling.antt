-- Calls.
use Rattle.std.specs.Prelude.{ℕ, ◌+◌, Bool, true, false, cond, not, ◌&&◌, List, length, map, Some, None, Err, Option, nat_lt, nat_eq}
use Rattle.std.specs.List.{position, slice_get}
use Rattle.std.specs.Option.{option_map}
use Rattle.tables.specs.declared.rows.ClassRow.{ClassRow}
use Rattle.tables.specs.declared.rows.MethodRow.{MethodRow}
use Rattle.tables.specs.Layout.{Content}
use Rattle.rules.specs.Words.{part}
use Rattle.shape.specs.Shape.{is_outside_class}
use Rattle.syntax.specs.declared.statements.Call.{Call}
use Rattle.syntax.specs.declared.statements.Manner.{Manner}
use Rattle.syntax.specs.declared.statements.Manner.TheVariants as manner
use Rattle.syntax.specs.Nodes.{parts}
use Rattle.syntax.specs.Rows.{given}
use Rattle.syntax.specs.Types.{type_at}
use Rattle.outside.specs.Outsides.{OutgoingCall}
use Rattle.evaluation.specs.declared.value.Value.{Value}
use Rattle.evaluation.specs.declared.value.Value.TheVariants as value
use Rattle.evaluation.specs.Plans.{Environment, Plan, done, ◌>>=◌, ask}
use Rattle.evaluation.specs.Rules.{all_of}
use Rattle.steps.specs.declared.records.CallRecord.{CallRecord}
use Rattle.steps.specs.declared.refusal.Refusal.TheVariants as refusal
use Rattle.steps.specs.declared.state.CallState.{CallState}
use Rattle.steps.specs.declared.state.CallState.TheVariants as state
use Rattle.steps.specs.Configurations.{Configuration, call_environment, group_of, object_at, same_group}
use Rattle.steps.specs.Crossing.{known_sort, plain_of}
use Rattle.steps.specs.Defaults.{with_defaults}
use Rattle.steps.specs.Outcomes.{Observation, Outcome, Request, not_there, on_answer, silent, transition}
use Rattle.steps.specs.Rules as rule

-- A message: the object that it goes to, and the arguments.
pub record Message : Type 0 where
  pub object : ℕ
  pub arguments : List Value

-- a message to an object, with the values of these arguments
abbrev pub message_to : ℕ → List ℕ → Environment → Plan (Option Message)
message_to o ns s = all_of ns s >>= (λ vs. done (Some (record { object = o; arguments = vs })))

-- Where the object is null there is no message, and the arguments are not evaluated.
abbrev pub message_on : List ℕ → Environment → Value → Plan (Option Message)
message_on ns s (value.Object o) = message_to o ns s
message_on ns s _ = done None

-- The object is evaluated before the arguments; without one the message goes to the object itself.
abbrev pub message : (this : ℕ) → Option ℕ → List ℕ → Environment → Plan (Option Message)
message this None ns s = message_to this ns s
message this (Some object) ns s = ask object s >>= message_on ns s

-- Where an object stands that is called: outside, in its maker's group, or in another group.
pub data Receiver : Type 0 where
  outside : Receiver
  own_group : Receiver
  other_group : Receiver

-- by the called object's class, and whether it is in the maker's group
abbrev pub receiver : (is_outside in_own : Bool) → Receiver
receiver true own = Receiver.outside
receiver false true = Receiver.own_group
receiver false false = Receiver.other_group

-- the row of the class's method of this name
abbrev pub row_of_method : Content → ClassRow → ℕ → Option ℕ
row_of_method m k name = option_map (λ i. k.methods_first + i) (position (λ y. nat_eq y.name name) (part k.methods_first k.methods_count m.methods))

-- What a message reaches: the class of its object, where that stands, and the class's method of the name.
pub record Dispatch : Type 0 where
  pub class : ℕ
  pub receiver : Receiver
  pub row : ℕ
  pub method : MethodRow

module _ (seen : Observation) where
  -- An outside takes a call if there is room for its class and its number does not wait.
  abbrev pub takes_call : OutgoingCall → Bool
  takes_call g = seen.room g.class && not (seen.waiting g.call)

  -- the call is handed to the outside, or stays in the run
  abbrev pub call_to : Receiver → OutgoingCall → Configuration → Outcome
  call_to Receiver.outside g d = cond (takes_call g) (transition d (Request.take g)) (Err refusal.NotTaken)
  call_to _ g d = silent d

module _ (m : Content) where
  -- a call as it begins: at its method's first statement, with the arguments and then defaults in its slots
  abbrev pub first_moment : Message → (row : ℕ) → MethodRow → CallState → (caller : Option ℕ) → CallRecord
  first_moment a row y s caller = record {
    object = a.object;
    method = row;
    slots = with_defaults m a.arguments (part y.slots_first y.slots m.lists);
    statement = y.statements_first;
    state = s;
    caller = caller;
    result = None;
  }

  -- what is handed to an outside
  abbrev pub outgoing : (number : ℕ) → Message → Dispatch → OutgoingCall
  outgoing number a f = record {
    call = number;
    class = f.class;
    object = a.object;
    sort = known_sort (type_at m f.method.result);
    arguments = map plain_of a.arguments;
  }

  -- what a message reaches that call x makes
  abbrev pub dispatch : CallRecord → Configuration → (object name : ℕ) → Option Dispatch
  dispatch x d object name =
      given (object_at d object) (λ o. given (slice_get m.classes o.class) (λ k. given (row_of_method m k name) (λ row. given (slice_get m.methods row) (λ y.
      Some (record { class = o.class; receiver = receiver (is_outside_class k) (same_group o.group (group_of d x.object)); row = row; method = y })))))

  module _ (n : ℕ) (x : CallRecord) where
    -- An outside takes a call on an object of its own. A synchronous one inside the group runs in its maker's place. Any other is sent.
    abbrev pub new_call : Message → (row : ℕ) → MethodRow → Manner → Receiver → CallRecord
    new_call a row y how Receiver.outside = first_moment a row y state.Outside None
    new_call a row y manner.Synchronous Receiver.own_group = first_moment a row y (state.Active None) (Some n)
    new_call a row y how r = first_moment a row y state.Sent None

    -- the rule of a call
    abbrev pub call_by : Manner → Receiver → Configuration → CallRecord → (target : Option ℕ) (next : ℕ) → Configuration
    call_by manner.Asynchronous r d y target next = rule.async_call d n x y target next
    call_by manner.Synchronous Receiver.own_group d y target next = rule.cog_sync_call d n x y
    call_by manner.Synchronous r d y target next = rule.rem_sync_call d n x y

    module _ (seen : Observation) where
      -- a call of what the message reaches: its number is one more than the calls that there are
      abbrev pub call_dispatch : (target : Option ℕ) → Call → (next : ℕ) → Message → Configuration → Option Dispatch → Outcome
      call_dispatch target call next a d None = not_there
      call_dispatch target call next a d (Some f) =
          call_to seen f.receiver (outgoing (length d.calls + 1) a f)
          (call_by call.manner f.receiver d (new_call a f.row f.method call.manner f.receiver) target next)

      -- There are 128 calls at most.
      abbrev pub call_with : (target : Option ℕ) → Call → (next : ℕ) → Option Message → Configuration → Outcome
      call_with target call next None d = Err refusal.NullObject
      call_with target call next (Some a) d =
          cond (nat_lt (length d.calls) 128) (call_dispatch target call next a d (dispatch x d a.object call.name)) (Err refusal.NoCallLeft)

      -- a call, asynchronous or synchronous
      abbrev pub call_step : Configuration → (target : Option ℕ) → Call → (next : ℕ) → Outcome
      call_step c target call next =
          on_answer m c x (message x.object call.object (parts call.arguments) (call_environment c x)) (call_with target call next)
