-- What changes a configuration, by the number of the call that changes; and how many calls of each group are active after that.
use Rattle.std.specs.Prelude.{ℕ, ◌+◌, ◌-◌, Bool, true, false, cond, ◌&&◌, List, [], ◌∷◌, ◌++◌, get_or, nat_lt, Some, None, Option, slice_set}
use Rattle.syntax.specs.declared.statements.Group.{Group}
use Rattle.syntax.specs.declared.statements.Group.TheVariants as group
use Rattle.evaluation.specs.declared.value.Value.{Value}
use Rattle.steps.specs.declared.records.CallRecord.{CallRecord}
use Rattle.steps.specs.declared.records.ObjectRecord.{ObjectRecord}
use Rattle.steps.specs.declared.state.CallState.{CallState}
use Rattle.steps.specs.Changes.{as_ended, at_statement, with_call, with_target}
use Rattle.steps.specs.Configurations.{Configuration}

-- a configuration in which there is nothing
abbrev pub empty_configuration : Configuration
empty_configuration = record { objects = []; calls = []; cells = []; groups = 0; returned = 0; answered = 0 }

-- the call at another statement
abbrev pub call_at_statement : Configuration → ℕ → (next : ℕ) → Option CallRecord → Configuration
call_at_statement c n next None = c
call_at_statement c n next (Some x) = with_call c n (at_statement x next)

-- the call in another state
abbrev pub call_in_state : Configuration → ℕ → CallState → Option CallRecord → Configuration
call_in_state c n s None = c
call_in_state c n s (Some x) = with_call c n (record x { state = s })

-- the call with another value in a slot
abbrev pub call_with_slot : Configuration → ℕ → (slot : ℕ) → Value → Option CallRecord → Configuration
call_with_slot c n slot v None = c
call_with_slot c n slot v (Some x) = with_call c n (record x { slots = slice_set x.slots slot v })

-- the call at another statement, with a value in its target, if it has one
abbrev pub call_with_target : Configuration → ℕ → Option ℕ → Value → (next : ℕ) → Option CallRecord → Configuration
call_with_target c n target v next None = c
call_with_target c n target v next (Some x) = with_target c n (at_statement x next) target v

-- the call ended, with the value of its future, by a reply or by a return
abbrev pub call_with_result_by : Configuration → ℕ → Value → CallRecord → (reply : Bool) → Configuration
call_with_result_by c n v x true = record (with_call c n (as_ended x v)) { answered = c.answered + 1 }
call_with_result_by c n v x false = record (with_call c n (as_ended x v)) { returned = c.returned + 1 }

abbrev pub call_with_result : Configuration → ℕ → Value → (reply : Bool) → Option CallRecord → Configuration
call_with_result c n v reply None = c
call_with_result c n v reply (Some x) = call_with_result_by c n v x reply

-- one call more that is active in a group, and one fewer; there are 65 entries, and no group has entry 0
abbrev pub one_more : List ℕ → Option ℕ → List ℕ
one_more t None = t
one_more t (Some g) = cond (nat_lt g 65 && nat_lt (get_or t g 0) 1000) (slice_set t g (get_or t g 0 + 1)) t

abbrev pub one_fewer : List ℕ → Option ℕ → List ℕ
one_fewer t None = t
one_fewer t (Some g) = cond (nat_lt g 65 && nat_lt 0 (get_or t g 0)) (slice_set t g (get_or t g 0 - 1)) t

-- a call of the group that was active or not, and is now or not
abbrev pub recount : List ℕ → Option ℕ → (was is : Bool) → List ℕ
recount t g true true = t
recount t g true false = one_fewer t g
recount t g false true = one_more t g
recount t g false false = t

-- the group of a new object: none for one of an outside class, else that of its maker, or a new one
abbrev pub group_for : Configuration → (maker : Option ℕ) → Group → (outside : Bool) → Option ℕ
group_for c maker g true = None
group_for c maker group.Own false = maker
group_for c maker group.New false = Some (c.groups + 1)

-- how many groups there are with the new object
abbrev pub groups_with : Configuration → Group → (outside : Bool) → ℕ
groups_with c g true = c.groups
groups_with c group.Own false = c.groups
groups_with c group.New false = c.groups + 1

-- an object more, and this many groups
abbrev pub with_new_object : Configuration → ObjectRecord → (groups : ℕ) → Configuration
with_new_object c o groups = record c { objects = c.objects ++ o ∷ []; groups = groups }

-- an object of a class more, with these fields, made by an object of this group
abbrev pub with_object_made : Configuration → (class : ℕ) (maker : Option ℕ) → Group → (outside : Bool) (fields : List Value) → Configuration
with_object_made c class maker g outside fields =
    with_new_object c (record { class = class; group = group_for c maker g outside; fields = fields }) (groups_with c g outside)
