use Rattle.tables.specs.Least.{fault}
use Rattle.rules.proofs.Searches.{row_passes, row_breaks}
use Rattle.rules.proofs.faults.first_row.Goals as goal

pub returns-then-breaks : goal.returns-then-breaks
returns-then-breaks g c = record {
  first = row_breaks c.args.rows.now (g.T.RowTest.broken c.args.test.now) (fault c.args.rule c.args.table) c.loop-row.row
      c.index-rows-row.result c.loop-row-test.true c.index-rows-row.is c.loop-row.invariant c.if-breaks.ensures.broken;
}

pub loop-row-preserved : goal.loop-row-preserved
loop-row-preserved g c =
    row_passes c.args.rows.now (g.T.RowTest.broken c.args.test.now) (fault c.args.rule c.args.table) c.loop-row.row
    c.index-rows-row.result c.loop-row-test.true c.index-rows-row.is c.loop-row.invariant c.if-breaks.ensures.broken
