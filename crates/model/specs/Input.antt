-- A program's input, of which the model is a part, and what is kept of it.
use Rattle.std.specs.Prelude.{◌≡◌, ℕ, ◌+◌, ◌-◌, ◌^◌, min, List, ◌++◌, length, take, drop, Some, None, Ok, Err, vec_items, Result, Vec}
use Rattle.std.specs.declared.alloc.AllocError.{AllocError}
use Rattle.std.specs.declared.alloc.Global.{Global}
use Rattle.tables.specs.declared.place.Fault.{Fault}
use Rattle.tables.specs.declared.place.TableRule.{TableRule}
use Rattle.tables.specs.Layout.{stated_length}
use Rattle.model.specs.declared.input.Input.{Input}
use Rattle.model.specs.Rules.{verdict_in}

-- The model that an input begins with: as many bytes as its first four state, and those four. What follows is not the model's.
abbrev pub model_in : List ℕ → List ℕ
model_in input = take (stated_length input + 4) input

-- what follows the model
abbrev pub behind_model : List ℕ → List ℕ
behind_model input = drop (stated_length input + 4) input

-- What is kept: the bytes of the largest model and of the longest schedule behind it, with one more, and how long the input is, as far as
-- a number tells it.
pub record Keeps (i : Input) (input : List ℕ) : Type 0 where
  pub kept : vec_items i.kept ≡ take 51675 input
  pub total : i.total ≡ min (length input) (2 ^ 64 - 1)

-- The bytes of the model that an input begins with, or its fault.
abbrev pub GivesModel : List ℕ → Result (Vec ℕ Global) (Fault TableRule) → Type 0
GivesModel bs (Ok bytes) = vec_items bytes ≡ bs
GivesModel bs (Err f) = verdict_in bs ≡ Some f

-- Where the model breaks no rule of the tables: of what follows it, the bytes of the longest schedule, and one more.
abbrev pub GivesBehind : List ℕ → List ℕ → Type 0
GivesBehind input bytes = verdict_in (model_in input) ≡ None → bytes ≡ take 8198 (behind_model input)

-- One piece more, or nothing where memory lacks.
abbrev pub Absorbs : Input → List ℕ → Result (Unit {0}) AllocError → Input → Type 0
Absorbs i piece (Ok done) i' = (input : List ℕ) → Keeps i input → Keeps i' (input ++ piece)
Absorbs i piece (Err e) i' = (vec_items i'.kept ≡ vec_items i.kept) × (i'.total ≡ i.total)
