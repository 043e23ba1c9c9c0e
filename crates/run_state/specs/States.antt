-- What configuration a run keeps in memory, by the fields of its state.
use Rattle.std.specs.Prelude.{[], ◌≤◌, vec_items, vec_capacity}
use Rattle.steps.specs.Configurations.{Configuration}
use Rattle.run_state.specs.declared.state.RunState.TheInside.{Inside}
use Rattle.run_state.specs.Consistent.{IsConsistent}

-- The cells are elsewhere.
abbrev pub state_seen : Inside → Configuration
state_seen r = record { objects = vec_items r.objects; calls = vec_items r.calls; cells = []; groups = r.groups; returned = r.returned; answered = r.answered }

-- There is memory for all calls and objects.
pub record IsReserved (r : Inside) : Type 0 where
  pub calls : 128 ≤ vec_capacity r.calls
  pub objects : 64 ≤ vec_capacity r.objects
  pub consistent : IsConsistent (state_seen r) r.active
