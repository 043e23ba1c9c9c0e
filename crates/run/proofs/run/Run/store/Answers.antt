use Rattle.std.proofs.Common.{◌≡◌, true, Some, sym, arith}
use Rattle.std.specs.Prelude.{nat_lt}
use Rattle.steps.specs.Configurations.{call_at}
use Rattle.run.specs.Views.{run_seen}
use Rattle.run.proofs.Putting.{target_slot}
use Rattle.run.proofs.run.Run.store.Goals as goal

pub returns-then-slot-lt128-clause-target : goal.returns-then-slot-lt128-clause-target
returns-then-slot-lt128-clause-target c =
    let at = (run_seen c.self.inside).at in
    let n = c.args.number in
    let x = c.in-Some.call.now in
    let e : call_at at n ≡ Some x = sym c.in-Some.ensures.call in
    let p = rw (← c.self.view_is) at c.set_statement.ensures.statement in
    let lt : nat_lt c.in-Some-target.slot 128 ≡ true = grind (arith, c.if-slot-lt128.true) in
    rw (← c.self.view_is, c.in-Some-target.is)
    (target_slot at n x e c.in-Some-target.slot c.args.value c.args.next c.set_statement.new.self.at c.set_slot.new.self.at p c.set_slot.ensures.slot lt)
