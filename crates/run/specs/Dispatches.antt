-- What a message reaches, as the code holds it.
use Rattle.std.specs.Prelude.{Bool, true, false, Some, None, Option}
use Rattle.steps.specs.Calling.{Dispatch, Receiver}
use Rattle.run.specs.declared.dispatch.Dispatch.{Dispatch as CodeDispatch}
use Rattle.run.specs.declared.dispatch.Receiver.{Receiver as CodeReceiver}
use Rattle.run.specs.declared.dispatch.Receiver.TheVariants as code

abbrev pub is_outside : Receiver → Bool
is_outside Receiver.outside = true
is_outside _ = false

abbrev pub receiver_is : CodeReceiver → Receiver
receiver_is code.Outside = Receiver.outside
receiver_is code.OwnGroup = Receiver.own_group
receiver_is code.OtherGroup = Receiver.other_group

abbrev pub dispatch_is : CodeDispatch → Dispatch
dispatch_is f = record { class = f.class; receiver = receiver_is f.receiver; row = f.row; method = f.method }

abbrev pub dispatch_given : Option CodeDispatch → Option Dispatch
dispatch_given None = None
dispatch_given (Some f) = Some (dispatch_is f)
