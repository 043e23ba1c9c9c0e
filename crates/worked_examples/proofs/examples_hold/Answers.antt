use Rattle.worked_examples.proofs.Computed.{all_hold}
use Rattle.worked_examples.proofs.examples_hold.Goals as goal

pub returns : goal.returns
returns c = record { examples = all_hold }
