-- What a call does when it moves, as rules that see the outside.
use Rattle.std.specs.Prelude.{ℕ, Option}
use Rattle.syntax.specs.declared.statements.Call.{Call}
use Rattle.steps.specs.Calling.{Message, call_dispatch, call_step, dispatch}
use Rattle.steps.specs.Configurations.{group_of, statement_at}
use Rattle.steps.specs.Guards.{at_false_await}
use Rattle.steps.specs.Outcomes.{Observation}
use Rattle.steps.specs.Steps.{activate_step, is_busy, statement_step}
use Rattle.run.specs.Choices.{Rule}

-- a queued call becomes active
abbrev pub activation : Observation → Rule
activation seen m c n x = activate_step m c seen n x (is_busy c (group_of c x.object)) (at_false_await m c x)

-- an active call performs the statement at which it stands
abbrev pub performance : Observation → Rule
performance seen m c n x = statement_step m c seen n x (statement_at m x.statement)

-- a call
abbrev pub call_rule : (target : Option ℕ) → Call → (next : ℕ) → Observation → Rule
call_rule target call next seen m c n x = call_step m n x seen c target call next

-- a call by a message that was evaluated
abbrev pub message_rule : (target : Option ℕ) → Call → (next : ℕ) → Message → Observation → Rule
message_rule target call next a seen m c n x = call_dispatch m n x seen target call next a c (dispatch m x c a.object call.name)
