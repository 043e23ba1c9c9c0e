use Rattle.std.proofs.Common.{arith}
use Rattle.evaluation.specs.Carried.{environment}
use Rattle.evaluation.proofs.Matching.{variable_bound, variable_closed, variable_open, slot_taken}
use Rattle.evaluation.proofs.evaluator.Evaluator.variable_fits.Goals as goal

pub returns-in-Some : goal.returns-in-Some
returns-in-Some c = record { tried = variable_bound _ _ _ c.args.slot c.args.value.now c.args.work.now c.find.ensures.found c.in-Some.is c.same.ensures.ran }

pub returns-then-slot-ge-SLOTS : goal.returns-then-slot-ge-SLOTS
returns-then-slot-ge-SLOTS c = record { tried = variable_closed _ _ _ c.args.slot c.args.value.now c.args.work.now c.find.ensures.found c.in_default.is c.if-slot-ge-SLOTS.true }

pub bind-requires : goal.bind-requires
bind-requires c =
    let taken = slot_taken c.args.slot c.args.value.now (environment c.args.base c.args.work.now) c.find.ensures.found c.in_default.is c.if-slot-ge-SLOTS.false in
    let room = c.requires.room in
    record { room = omega arith }

pub returns : goal.returns
returns c =
    record {
      tried = variable_open _ _ _ c.args.slot c.args.value.now c.args.work.now c.find.ensures.found c.in_default.is c.if-slot-ge-SLOTS.false c.requires.own
          c.bind.ensures.bound c.bind.ensures.state c.bind.ensures.capacity;
    }
