use Rattle.model.specs.Input.{behind_model}
use Rattle.entry.proofs.Schedules.{reads_part}
use Rattle.entry.proofs.choices.choices_behind.Goals as goal

pub returns : goal.returns
returns c = record { reads = λ begun keeps none. reads_part (behind_model begun) _ c.choices.result (c.behind.ensures.behind begun keeps none) c.choices.ensures.reads }
