-- What a run is, by its fields.
use Rattle.tables.specs.Layout.{content}
use Rattle.steps.specs.Changes.{with_cells}
use Rattle.run.specs.declared.run.Run.TheInside.{Inside}
use Rattle.run.specs.Runs.{RunView}

-- The cells are those of the workspace.
abbrev pub run_seen : Inside → RunView
run_seen r = record { model = content r.model.now.model.tables; at = with_cells r.state r.work.state.cells }
