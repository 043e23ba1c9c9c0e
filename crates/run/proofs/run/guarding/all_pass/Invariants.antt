use Rattle.std.proofs.Common.{◌≡◌, true, take}
use Rattle.std.specs.List.{list_all}
use Rattle.run.specs.Guarding.{slot_passes}
use Rattle.run.proofs.run.guarding.all_pass.Given as goal

-- the slots that were looked at let it pass
abbrev pub invariant-loop-slot : goal.invariant-loop-slot
invariant-loop-slot l = record { passed : list_all (λ slot. slot_passes l.work l.state slot) (take l.slot-index l.slots) ≡ true }
