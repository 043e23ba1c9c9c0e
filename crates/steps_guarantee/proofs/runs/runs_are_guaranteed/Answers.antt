use Rattle.steps_laws.proofs.WholeRuns.{OutsideLaws}
use Rattle.steps_guarantee.proofs.Guaranteed.{always_guaranteed}
use Rattle.steps_guarantee.proofs.runs.runs_are_guaranteed.Goals as goal

-- the outside's laws are those of its trait
pub returns : goal.returns
returns g c =
    let laws : OutsideLaws g.O.Outside = record {
      room_if_empty = g.met.O.Outside.room_if_empty;
      empty_if_none = g.met.O.Outside.empty_if_none;
      upcoming_waits = g.met.O.Outside.upcoming_waits;
    } in
    record { always = λ m k. always_guaranteed g.O.Outside laws m k }
