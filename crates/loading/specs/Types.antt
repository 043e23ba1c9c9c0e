-- Models that break no typing rule.
use Rattle.std.specs.Prelude.{Bool, not, is_some}
use Rattle.tables.specs.Layout.{Content}
use Rattle.typing.specs.Typing.{typing_verdict}

-- no typing rule is broken
unfoldable pub keeps_types : Content → Bool
keeps_types m = not (is_some (typing_verdict m))
