-- Runs over a house, which the checker computes: a house is determined by what it is asked.
use Rattle.std.specs.Prelude.{ℕ, Ok, Err, is_some}
use Rattle.tables.specs.Layout.{Content}
use Rattle.outside.specs.Calls.{waits_in}
use Rattle.outside.specs.Houses.{HouseState, empty_house, house_next, house_room, house_with, house_without}
use Rattle.steps.specs.Account.{Account, account}
use Rattle.steps.specs.Configurations.{Configuration}
use Rattle.steps.specs.Opening.{first_configuration}
use Rattle.steps.specs.Outcomes.{Observation, Outcome, Request}
use Rattle.steps.specs.Steps.{step}

-- a configuration over a house
pub record HouseRun : Type 0 where
  pub configuration : Configuration
  pub house : HouseState

-- A run that was opened over a house in which nothing waits.
abbrev pub first_house_run : Content → HouseRun
first_house_run m = record { configuration = first_configuration m; house = empty_house }

-- what a house says
abbrev pub house_observation : HouseState → Observation
house_observation h = record { next = house_next h; room = λ class. house_room h; waiting = λ n. is_some (waits_in h.waiting n) }

-- what a choice comes to
abbrev pub house_step : Content → HouseRun → (choice : ℕ) → Outcome
house_step m r n = step m r.configuration (house_observation r.house) n

-- the house after what it was asked
abbrev pub house_after : HouseState → Request → HouseState
house_after h Request.nothing = h
house_after h (Request.take g) = house_with g h
house_after h (Request.deliver n) = house_without n h

-- the run after what a choice came to
abbrev pub run_after : HouseRun → Outcome → HouseRun
run_after r (Ok d) = record { configuration = d.configuration; house = house_after r.house d.request }
run_after r (Err e) = r

-- the account of a run over a house
abbrev pub house_account : HouseRun → Account
house_account r = account r.configuration (λ n. is_some (waits_in r.house.waiting n))
