use Rattle.std.specs.List.{slice_range}
use Rattle.std.proofs.Common.{rules, eqb, tests}
use Rattle.std.proofs.lemmas.Iterator.Search.{find_from_yields_List}
use Rattle.std.proofs.lemmas.Iterator.Adapters.{YieldsList-from_rev_slice}
use Rattle.mapping.specs.Bindings.{bound}
use Rattle.mapping.proofs.Bindings.{since_kept}
use Rattle.mapping.proofs.mapping.Mapping.find.Goals as goal

pub returns : goal.returns
unfolding bound
returns g c =
    let m = c.args.self.now in
    let part = slice_range m.bindings.now c.min-first.result m.count in
    let found = find_from_yields_List (λ b. eqb b.slot c.args.slot) _ _ c.find.result c.find.ensures.ran (YieldsList-from_rev_slice part cc) (λ x b q k. search (rules, tests)) in
    let newer = since_kept m.count m.bindings.now c.args.earlier c.min-first.result (search rules) m.fits in
    rw newer (search (rules, found))
