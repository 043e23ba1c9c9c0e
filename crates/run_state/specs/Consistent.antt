-- What holds of each configuration that a run keeps in memory.
use Rattle.std.specs.Prelude.{◌≡◌, ℕ, ◌+◌, ◌≤◌, Bool, false, List, length, get_or, Some, None, Option}
use Rattle.std.specs.List.{count_by}
use Rattle.steps.specs.declared.records.CallRecord.{CallRecord}
use Rattle.steps.specs.declared.records.ObjectRecord.{ObjectRecord}
use Rattle.steps.specs.Configurations.{Configuration, item_at}
use Rattle.steps.specs.States.{is_ended}
use Rattle.steps.specs.Steps.{is_active_in}

abbrev pub is_ended_call : CallRecord → Bool
is_ended_call x = is_ended x.state

-- a call that is there ended
abbrev pub is_ended_at : Option CallRecord → Bool
is_ended_at None = false
is_ended_at (Some x) = is_ended_call x

-- a group is one of the first k, if it is one
abbrev pub InGroups : ℕ → Option ℕ → Type 0
InGroups k None = Unit {0}
InGroups k (Some g) = g ≤ k

-- There are 128 calls and 64 objects at most, and no more groups than objects. Each choice that is counted ended a call. Groups and
-- objects that are named are there. Of each group it is known how many calls are active in it.
pub record IsConsistent (c : Configuration) (table : List ℕ) : Type 0 where
  pub size : length table ≡ 65
  pub calls : length c.calls ≤ 128
  pub objects : length c.objects ≤ 64
  pub groups : c.groups ≤ length c.objects
  pub counted : c.returned + c.answered ≡ count_by is_ended_call c.calls
  pub groups_there : (n : ℕ) (o : ObjectRecord) → item_at c.objects n ≡ Some o → InGroups c.groups o.group
  pub objects_there : (n : ℕ) (x : CallRecord) → item_at c.calls n ≡ Some x → x.object ≤ length c.objects
  pub active : (g : ℕ) → get_or table g 0 ≡ count_by (is_active_in c (Some g)) c.calls
