-- The configuration of a run that was opened.
use Rattle.std.specs.Prelude.{ℕ, List, [], ◌∷◌, Some, None, Option}
use Rattle.std.specs.List.{slice_get}
use Rattle.std.specs.Option.{option_map}
use Rattle.tables.specs.declared.rows.MethodRow.{MethodRow}
use Rattle.tables.specs.Layout.{Content}
use Rattle.steps.specs.declared.records.CallRecord.{CallRecord}
use Rattle.steps.specs.declared.records.ObjectRecord.{ObjectRecord}
use Rattle.steps.specs.declared.state.CallState.TheVariants as state
use Rattle.steps.specs.Calling.{first_moment}
use Rattle.steps.specs.Configurations.{Configuration}

-- Object 1 is of class 0 and in group 1.
abbrev pub first_object : ObjectRecord
first_object = record { class = 0; group = Some 1; fields = [] }

module _ (m : Content) where
  -- Call 1 is active at the first method of class 0.
  abbrev pub first_call : (row : ℕ) → Option MethodRow → List CallRecord
  first_call row None = []
  first_call row (Some y) = first_moment m (record { object = 1; arguments = [] }) row y (state.Active None) None ∷ []

  -- the calls of a run that was opened: one
  abbrev pub first_calls : Option ℕ → List CallRecord
  first_calls None = []
  first_calls (Some row) = first_call row (slice_get m.methods row)

  -- a run that was opened
  abbrev pub first_configuration : Configuration
  first_configuration = record {
    objects = first_object ∷ [];
    calls = first_calls (option_map (λ k. k.methods_first) (slice_get m.classes 0));
    cells = [];
    groups = 1;
    returned = 0;
    answered = 0;
  }
