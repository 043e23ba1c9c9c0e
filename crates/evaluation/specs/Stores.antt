-- The cells of a run, as a list.
use Rattle.std.specs.Prelude.{◌≡◌, ℕ, cond, List, [], ◌∷◌, ◌++◌, length, map, vec_items, nat_lt, Ok, Err, Result}
use Rattle.evaluation.specs.declared.cells.Cells.{Cells}
use Rattle.evaluation.specs.declared.refusal.EvaluationRefusal.{EvaluationRefusal}
use Rattle.evaluation.specs.declared.refusal.EvaluationRefusal.TheVariants.{NoCell}
use Rattle.evaluation.specs.Values.{Data, data_of}

-- the cells in use, in the order in which they were made
unfoldable pub held : Cells → List Data
held s = map data_of (vec_items s.cells)

-- There are 256 cells. A new one has the number of those before it; where all are in use there is none.
abbrev pub next_cell : List Data → Result ℕ EvaluationRefusal
next_cell cs = cond (nat_lt (length cs) 256) (Ok (length cs)) (Err NoCell)

abbrev pub with_cell : List Data → Data → List Data
with_cell cs d = cond (nat_lt (length cs) 256) (cs ++ d ∷ []) cs

-- the later cells are the earlier ones and newer ones behind them
abbrev pub Longer : List Data → List Data → Type 0
Longer cs ds = (newer : List Data) × (ds ≡ cs ++ newer)
