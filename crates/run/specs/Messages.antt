-- Messages, as the code holds them.
use Rattle.std.specs.Prelude.{ℕ, Ok, Err, Some, None, Option, Result}
use Rattle.evaluation.specs.declared.value.Value.{Value}
use Rattle.evaluation.specs.declared.value.Value.TheVariants as value
use Rattle.evaluation.specs.Values.{values_of}
use Rattle.steps.specs.declared.refusal.Refusal.{Refusal}
use Rattle.steps.specs.Calling.{Message}
use Rattle.run.specs.declared.message.Message.{Message as CodeMessage}

abbrev pub message_is : CodeMessage → Message
message_is a = record { object = a.object; arguments = values_of a.arguments }

abbrev pub message_given : Option CodeMessage → Option Message
message_given None = None
message_given (Some a) = Some (message_is a)

abbrev pub message_answer : Result (Option CodeMessage) Refusal → Result (Option Message) Refusal
message_answer (Ok a) = Ok (message_given a)
message_answer (Err e) = Err e

-- the object that a value is, if it is one
abbrev pub object_in : Value → Option ℕ
object_in (value.Object o) = Some o
object_in _ = None
