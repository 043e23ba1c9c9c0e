-- What a question about an expression answers, and leaves of the scope.
use Rattle.std.specs.Prelude.{◌≡◌}
use Rattle.typing.specs.Scopes.{Bindings}

-- The answer is the defined one, and the scope is as it was.
pub record Gives {A : Type 0} (defined : A) (before : Bindings) (answer : A) (after : Bindings) : Type 0 where
  pub value : answer ≡ defined
  pub same : after ≡ before
