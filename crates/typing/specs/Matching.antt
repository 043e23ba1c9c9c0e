-- What trying a pattern answers, and leaves of the scope.
use Rattle.std.specs.Prelude.{◌≡◌, Bool, cond, ◌++◌, Some, None, Option}
use Rattle.typing.specs.Scopes.{Bindings}

-- Whether the pattern fits, and the scope behind it if it does. Newer bindings alone are added, whether it fits or not.
pub record Matched (behind : Option Bindings) (before : Bindings) (fits : Bool) (after : Bindings) : Type 0 where
  pub scope : behind ≡ cond fits (Some after) None
  pub grows : (newer : Bindings) × (after ≡ newer ++ before)
