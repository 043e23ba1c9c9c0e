-- The rules, under the names by which they are known: what each of them changes when call n, which is x, moves. When a rule applies, and
-- what is refused, is told where the rules are used.
use Rattle.std.specs.Prelude.{ℕ, ◌+◌, List, [], ◌∷◌, ◌++◌, length, Some, None, Option}
use Rattle.evaluation.specs.declared.value.Value.{Value}
use Rattle.evaluation.specs.declared.value.Value.TheVariants as value
use Rattle.steps.specs.declared.records.CallRecord.{CallRecord}
use Rattle.steps.specs.Changes.{as_active, as_calling, as_ended, as_queued, as_waiting, at_statement, with_call, with_new_call, with_target}
use Rattle.steps.specs.Configurations.{Configuration, group_of}

module _ (c : Configuration) (n : ℕ) (x : CallRecord) where
  -- Bind: a sent call reaches its object's queue.
  abbrev pub bind : Configuration
  bind = with_call c n (as_queued x)

  -- Activate: a queued process becomes its group's active one.
  abbrev pub activate : Configuration
  activate = with_call c n (as_active x)

  -- Skip: the process goes on.
  abbrev pub skip : (next : ℕ) → Configuration
  skip next = with_call c n (at_statement x next)

  -- Assign: the target takes the value.
  abbrev pub assign : (target : Option ℕ) → Value → (next : ℕ) → Configuration
  assign target v next = with_target c n (at_statement x next) target v

  -- Cond, where the test is True and where it is False.
  abbrev pub cond_true : (next : ℕ) → Configuration
  cond_true next = with_call c n (at_statement x next)

  abbrev pub cond_false : (other : ℕ) → Configuration
  cond_false other = with_call c n (at_statement x other)

  -- Suspend: the process is queued at the next statement, and its group is idle.
  abbrev pub suspend : (next : ℕ) → Configuration
  suspend next = with_call c n (as_queued (at_statement x next))

  -- Await-True: the process goes on.
  abbrev pub await_true : (next : ℕ) → Configuration
  await_true next = with_call c n (at_statement x next)

  -- Await-False: the process is queued where it stands, and its group is idle.
  abbrev pub await_false : Configuration
  await_false = with_call c n (as_queued x)

  -- Read-Fut: the target takes the future's value.
  abbrev pub read_fut : (target : Option ℕ) → Value → (next : ℕ) → Configuration
  read_fut target v next = with_target c n (at_statement x next) target v

  -- an object more, in a group; the target takes it
  abbrev pub new_in : (group : Option ℕ) (groups class : ℕ) (fields : List Value) (target : Option ℕ) (next : ℕ) → Configuration
  new_in group groups class fields target next =
      with_target (record c { objects = c.objects ++ record { class = class; group = group; fields = fields } ∷ []; groups = groups })
      n (at_statement x next) target (value.Object (length c.objects + 1))

  -- New-Object: the new object is in the group of its maker.
  abbrev pub new_object : (class : ℕ) (fields : List Value) (target : Option ℕ) (next : ℕ) → Configuration
  new_object = new_in (group_of c x.object) c.groups

  -- New-Cog-Object: the new object is in a group of its own.
  abbrev pub new_cog_object : (class : ℕ) (fields : List Value) (target : Option ℕ) (next : ℕ) → Configuration
  new_cog_object = new_in (Some (c.groups + 1)) (c.groups + 1)

  -- An object of an outside class has no group.
  abbrev pub new_outside_object : (class : ℕ) (fields : List Value) (target : Option ℕ) (next : ℕ) → Configuration
  new_outside_object = new_in None c.groups

  -- Async-Call: a call more; the target takes its future, and the maker goes on.
  abbrev pub async_call : CallRecord → (target : Option ℕ) (next : ℕ) → Configuration
  async_call y target next = with_target (with_new_call c y) n (at_statement x next) target (value.Future (length c.calls + 1))

  -- Cog-Sync-Call: a call more, which runs in its maker's place.
  abbrev pub cog_sync_call : CallRecord → Configuration
  cog_sync_call y = with_call (with_new_call c y) n (as_calling x (length c.calls + 1))

  -- Rem-Sync-Call: a call more; its maker stays active and waits for its result.
  abbrev pub rem_sync_call : CallRecord → Configuration
  rem_sync_call y = with_call (with_new_call c y) n (as_waiting x (length c.calls + 1))

  -- Return: the future has its value, the call ends, and its group is idle.
  abbrev pub return : Value → Configuration
  return v = record (with_call c n (as_ended x v)) { returned = c.returned + 1 }

  -- Store: the target of a synchronous call takes its result, and the maker goes on behind the call.
  abbrev pub store : (target : Option ℕ) → Value → (next : ℕ) → Configuration
  store target v next = with_target c n (as_active (at_statement x next)) target v

  -- Reply: the future of a call that was outside has its value, and the call ends.
  abbrev pub reply : Value → Configuration
  reply v = record (with_call c n (as_ended x v)) { answered = c.answered + 1 }

-- Cog-Sync-Return: call k, which is y, made call n inside its group; it is active again and waits for the result that is there.
abbrev pub cog_sync_return : Configuration → (n k : ℕ) → CallRecord → Configuration
cog_sync_return c n k y = with_call c k (as_waiting y n)
