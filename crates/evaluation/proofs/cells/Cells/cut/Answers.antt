use Rattle.std.proofs.Common.{sym, ap, map, ◌∙◌, vec_items}
use Rattle.std.proofs.lemmas.List.{take-map}
use Rattle.evaluation.specs.Stores.{held}
use Rattle.evaluation.specs.Values.{data_of}
use Rattle.evaluation.proofs.cells.Cells.cut.Goals as goal

pub returns : goal.returns
unfolding held
returns c = record { earlier = ap (map data_of) c.truncate.ensures.items ∙ sym (take-map data_of c.args.earlier (vec_items c.args.self.now.cells)) }
