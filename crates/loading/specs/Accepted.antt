-- All that an accepted model has.
use Rattle.tables.specs.Layout.{Content}
use Rattle.loading.specs.Laws.{Lawful, WellTyped}
use Rattle.loading.specs.Shapes.{WellShaped}

-- Its functions and its placed statements are typed; types and fits are as one line a kind says, classes implement their interfaces and types
-- have defaults; and its rows are as the format asks.
pub record IsAccepted (m : Content) : Type 0 where
  pub typed : WellTyped m
  pub lawful : Lawful m
  pub shaped : WellShaped m
