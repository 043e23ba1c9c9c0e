-- What the evaluator and its values stand for.
use Rattle.std.specs.Prelude.{ℕ, List, [], Some, None, Option}
use Rattle.std.specs.List.{slice_get}
use Rattle.tables.specs.Layout.{content}
use Rattle.syntax.specs.Descent.{below}
use Rattle.evaluation.specs.declared.evaluator.Evaluator.{Evaluator}
use Rattle.evaluation.specs.declared.value.Value.{Value}
use Rattle.evaluation.specs.declared.value.Value.TheVariants as value
use Rattle.evaluation.specs.Matching.{Fit, never_fits, fit_of}
use Rattle.evaluation.specs.Plans.{Environment}
use Rattle.evaluation.specs.Values.{Data}

-- what the patterns answer that stand below a row
abbrev pub lower_fits : Evaluator → (row : ℕ) → ℕ → Environment → Value → Fit
lower_fits e row = below never_fits row (fit_of (content e.t.now))

-- the data that a value is, with its parts
abbrev pub data_in : List Data → Value → Option Data
data_in cs value.Unit = None
data_in cs (value.Bool b) = None
data_in cs (value.Int n) = None
data_in cs value.Null = None
data_in cs (value.Object o) = None
data_in cs (value.Future f) = None
data_in cs (value.Constant k) = Some (record { constructor = k; parts = [] })
data_in cs (value.Cell i) = slice_get cs i
