use Rattle.std.proofs.Common.{rules, arith}
use Rattle.outside.specs.Houses.{kept_in_house}
use Rattle.outside.specs.Outsides.{call_of}
use Rattle.outside.proofs.Calls.{waits_last}
use Rattle.outside.proofs.house.HouseOutside.take.Goals as goal

pub returns : goal.returns
returns c =
    let put = c.add.ensures in
    record {
      takes =
          record {
            answer = search rules;
            joins = λ e n. rw (rw e at put.state) (waits_last (kept_in_house (call_of c.args.outgoing)) n c.args.self.now.waiting (grind arith));
            becomes = λ e. rw e at put.state;
            same = λ e. rw e at put.state;
          };
    }
