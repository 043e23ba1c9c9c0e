-- The numbers under which refusals of choices and of openings are reported.
use Rattle.std.specs.Prelude.{ℕ, Bool, ◌&&◌, nat_le}
use Rattle.evaluation.specs.Refusals.{evaluation_number}
use Rattle.steps.specs.declared.refusal.OpeningRefusal.{OpeningRefusal}
use Rattle.steps.specs.declared.refusal.OpeningRefusal.TheVariants as opening
use Rattle.steps.specs.declared.refusal.Refusal.{Refusal}
use Rattle.steps.specs.declared.refusal.Refusal.TheVariants as refusal

-- the number of each refusal of a choice
abbrev pub refusal_number : Refusal → ℕ
refusal_number refusal.NoSuchCall = 10
refusal_number refusal.Finished = 11
refusal_number refusal.GroupBusy = 12
refusal_number refusal.FalseGuard = 13
refusal_number refusal.Unresolved = 14
refusal_number refusal.Calling = 15
refusal_number refusal.NothingWaits = 16
refusal_number refusal.StrangeReply = 17
refusal_number refusal.NullObject = 20
refusal_number refusal.NullFuture = 21
refusal_number (refusal.Evaluation e) = evaluation_number e
refusal_number refusal.NoCallLeft = 25
refusal_number refusal.NoObjectLeft = 25
refusal_number refusal.NotTaken = 26

-- and of an opening
abbrev pub opening_number : OpeningRefusal → ℕ
opening_number opening.CallsWait = 31

-- Refusals that are the model's own, as it runs.
abbrev pub is_of_model : Refusal → Bool
is_of_model e = nat_le 20 (refusal_number e) && nat_le (refusal_number e) 25
