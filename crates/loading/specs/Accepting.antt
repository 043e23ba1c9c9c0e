-- What the check of a read model's types answers.
use Rattle.std.specs.Prelude.{◌≡◌, Some, None, Ok, Err, Result}
use Rattle.tables.specs.Layout.{Content}
use Rattle.tables.specs.Least.{Judges}
use Rattle.typing.specs.Typing.{typing_number, typing_case, typing_verdict}
use Rattle.tables.specs.declared.check.CheckError.{CheckError}
use Rattle.tables.specs.declared.check.CheckError.TheVariants.{NoMemory, Refused}
use Rattle.typing.specs.declared.rule.TypingRule.{TypingRule}

-- Nothing where no typing rule is broken, else the least fault; want of memory says nothing of the model.
abbrev pub ChecksTypes : Content → Result (Unit {0}) (CheckError TypingRule) → Type 0
ChecksTypes m (Ok done) = typing_verdict m ≡ None
ChecksTypes m (Err (Refused f)) = typing_verdict m ≡ Some f
ChecksTypes m (Err NoMemory) = Unit {0}

-- A fault that is told is broken, and no typing rule is broken at a lower place; a model passes exactly if none is broken anywhere.
abbrev pub JudgesTypes : Content → Result (Unit {0}) (CheckError TypingRule) → Type 0
JudgesTypes m (Ok done) = Judges typing_number (typing_case m) None
JudgesTypes m (Err (Refused f)) = Judges typing_number (typing_case m) (Some f)
JudgesTypes m (Err NoMemory) = Unit {0}
