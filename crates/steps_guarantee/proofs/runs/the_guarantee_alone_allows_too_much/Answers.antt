use Rattle.steps_guarantee.proofs.Excluded.{allows_early_refusals, allows_idle_choices}
use Rattle.steps_guarantee.proofs.runs.the_guarantee_alone_allows_too_much.Goals as goal

pub returns : goal.returns
returns g c = record {
  idle_choices = allows_idle_choices g.O.Outside;
  early_refusals = allows_early_refusals g.O.Outside;
}
