use Rattle.std.proofs.Common.{arith, rules}
use Rattle.tables.specs.Layout.{content}
use Rattle.shape.proofs.Earliest.{not_behind, earliest_here, earliest_later}
use Rattle.shape.proofs.shape.earliest_since.Goals as goal

pub returns-then-ends-earlier : goal.returns-then-ends-earlier
returns-then-ends-earlier c = search (rules, arith, earliest_here c.in-Some.ends.now (content c.args.t.now))

pub loop-earlier-preserved : goal.loop-earlier-preserved
loop-earlier-preserved c = search (rules, arith, earliest_later c.in-Some.ends.now (content c.args.t.now))

pub returns : goal.returns
returns c =
    let least = not_behind c.args.row c.args.row (content c.args.t.now).interfaces in
    record { earliest = omega (arith, c.loop-earlier.invariant, c.loop-earlier-test.false) }
