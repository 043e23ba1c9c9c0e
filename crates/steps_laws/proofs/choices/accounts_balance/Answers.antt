use Rattle.steps_laws.proofs.Balancing.{balances}
use Rattle.steps_laws.proofs.choices.accounts_balance.Goals as goal

pub returns : goal.returns
returns c = record { balances = balances }
