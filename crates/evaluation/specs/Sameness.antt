-- When two values are the same.
use Rattle.std.specs.Prelude.{◌≡◌, ◌↔◌, ◌⊎◌, ℕ, Bool, true, List, [], ◌∷◌, Some, None, Result, IfOk}
use Rattle.std.specs.List.{slice_get}
use Rattle.evaluation.specs.declared.refusal.EvaluationRefusal.{EvaluationRefusal}
use Rattle.evaluation.specs.declared.value.Value.{Value}
use Rattle.evaluation.specs.declared.value.Value.TheVariants as value
use Rattle.evaluation.specs.Values.{Data, cell_of, same_value}

-- The values of two lists are the same, one for one. Two cells are the same if their constructors are and their parts are; other values
-- are if they are of one kind and hold the same.
pub data Same (cells : List Data) : List Value → List Value → Type 0 where
  empty : Same cells [] []
  plain : {v w : Value} {vs ws : List Value} → (cell_of v ≡ None) ⊎ (cell_of w ≡ None) → same_value v w ≡ true → Same cells vs ws → Same cells (v ∷ vs) (w ∷ ws)
  cell : {i j : ℕ} {a b : Data} {vs ws : List Value} → slice_get cells i ≡ Some a → slice_get cells j ≡ Some b → a.constructor ≡ b.constructor →
      Same cells a.parts b.parts → Same cells vs ws → Same cells (value.Cell i ∷ vs) (value.Cell j ∷ ws)

-- A comparison answers whether the two values are the same.
abbrev pub TellsSame : List Data → Value → Value → Result Bool EvaluationRefusal → Type 0
TellsSame cells v w answer = IfOk answer (λ b. (b ≡ true) ↔ Same cells (v ∷ []) (w ∷ []))
