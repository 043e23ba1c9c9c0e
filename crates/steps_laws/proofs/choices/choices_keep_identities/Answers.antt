use Rattle.steps_laws.proofs.Soundness.{choices_keep_identities}
use Rattle.steps_laws.proofs.choices.choices_keep_identities.Goals as goal

pub returns : goal.returns
returns c = record { identities = choices_keep_identities }
