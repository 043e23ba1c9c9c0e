use Rattle.std.proofs.Common.{rules, take, length, ◌/◌}
use Rattle.std.proofs.lemmas.Iterator.{items_from_collect, YieldsList-from_map, YieldsList-from_slice}
use Rattle.std.specs.Simd.{first_chunks}
use Rattle.tables.proofs.Steps.{as_many, rows_chunked}
use Rattle.tables.proofs.numbers.rows.Goals as goal

pub returns : goal.returns
returns g c =
    let w = g.row.N in
    let read = g.R.Row.spelled in
    let ns = c.args.numbers.now in
    let chunks = take c.args.count (first_chunks w (length ns / w) ns) in
    let enough = as_many w c.args.count (length ns) c.requires.width.0 c.requires.enough in
    record {
      spelled = simp (rows_chunked w read c.args.count (length ns / w) ns enough) at (items_from_collect c.collect.result c.collect.ensures.ran
          (YieldsList-from_map _ read (YieldsList-from_slice chunks cc) c.map.ensures.closure (λ x r q k. search rules)));
    }
