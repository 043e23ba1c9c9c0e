use Rattle.model.proofs.Decides.{tables_keep, tables_limited}
use Rattle.model.proofs.model.ReadModel.new.Goals as goal

pub invariant_of-result : goal.invariant_of-result
invariant_of-result c = record {
  spelled = ∣ c.requires.checked.1 ∣₁;
  keeps = tables_keep c.args.bytes.items c.args.tables c.requires.checked;
  limits = tables_limited c.args.bytes.items c.args.tables c.requires.checked;
}
