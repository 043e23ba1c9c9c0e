-- Computations of which there are examples, and what each comes to by the definitions.
use Rattle.std.specs.Prelude.{◌≡◌, ℕ, ◌-◌, List, [], ◌∷◌, ℤ, Some, None, Ok, Err, Option, Result, ⊤}
use Rattle.tables.specs.declared.place.Fault.{Fault}
use Rattle.tables.specs.declared.place.TableRule.{TableRule}
use Rattle.tables.specs.Layout.{Content, content_of}
use Rattle.tables.specs.Places.{table_number}
use Rattle.model.specs.Rules.{verdict_in}
use Rattle.typing.specs.declared.rule.TypingRule.{TypingRule}
use Rattle.typing.specs.Typing.{typing_verdict}
use Rattle.loading.specs.declared.load.LoadFault.{LoadFault}
use Rattle.loading.specs.declared.load.LoadFault.TheVariants.{Reading, Typing}
use Rattle.loading.specs.Loading.{fault_number, whole_fault}
use Rattle.evaluation.specs.declared.refusal.EvaluationRefusal.{EvaluationRefusal}
use Rattle.evaluation.specs.declared.value.Value.{Value}
use Rattle.evaluation.specs.declared.value.Value.TheVariants as value
use Rattle.evaluation.specs.Arithmetic.{sum, quotient}
use Rattle.evaluation.specs.Evaluation.{Ending, State, carried_out}
use Rattle.evaluation.specs.Matching.{fit_of}
use Rattle.evaluation.specs.Plans.{Environment, ask}
use Rattle.evaluation.specs.Refusals.{evaluation_number}
use Rattle.evaluation.specs.Values.{Data}
use Rattle.steps.specs.Houses.{first_house_run}
use Rattle.steps_trials.specs.Listings.{Listing, listing_from}

-- A sum, a quotient, a pattern in a row of a model tried on data, an expression in a row, the same with what it costs, the bytes of a model
-- loaded, and a run of choices over a house.
pub data Computation : Type 0 where
  addition : (x y : ℤ) → Computation
  division : (x y : ℤ) → Computation
  matching : Content → (row : ℕ) → Data → Computation
  evaluation : Content → (row : ℕ) → Computation
  costing : Content → (row : ℕ) → Computation
  loading : (bytes : List ℕ) → Computation
  run : Content → (choices : List ℕ) → Computation

-- What it comes to: a value; a value with the visits made and the cells in use; the slots that a pattern binds, the newest first, or no fit; a refusal by its number; the model accepted, or
-- its fault by the numbers of rule, table and row; a listing.
pub data Output : Type 0 where
  worth : Value → Output
  cost : Value → (visits : ℕ) → List Data → Output
  fit : Environment → Output
  no_fit : Output
  refusal : (number : ℕ) → Output
  acceptance : Output
  fault : (rule table row : ℕ) → Output
  listing : Listing → Output

-- an answer, or the number of its refusal
abbrev pub answer_output : {A : Type 0} → (A → Output) → Result A EvaluationRefusal → Output
answer_output f (Ok a) = f a
answer_output f (Err e) = refusal (evaluation_number e)

-- what a pattern answers
abbrev pub fit_output : Option Environment → Output
fit_output (Some s) = fit s
fit_output None = no_fit

abbrev pub fault_output : LoadFault → Output
fault_output f = fault (fault_number f) (table_number (whole_fault f).table) (whole_fault f).row

-- The first fault of the tables, else the first of typing, else the model is accepted.
abbrev pub loading_output : Option (Fault TableRule) → Option (Fault TypingRule) → Output
loading_output (Some f) typing = fault_output (Reading f)
loading_output None (Some f) = fault_output (Typing f)
loading_output None None = acceptance

-- an expression, evaluated where nothing is bound, all visits are left and no cell is in use
abbrev pub row_ending : Content → (row : ℕ) → Ending Value
row_ending m row = carried_out m 1 (ask row []) (record { left = 10000; cells = [] })

abbrev pub cost_output : State → Value → Output
cost_output s v = cost v (10000 - s.left) s.cells

-- Each is computed from the definitions. Data that a pattern is tried on is in cell 0, and nothing is bound; evaluations have all visits.
abbrev pub output_of : Computation → Output
output_of (addition x y) = worth (value.Int (sum x y))
output_of (division x y) = answer_output (λ n. worth (value.Int n)) (quotient x y)
output_of (matching m row d) = answer_output fit_output (carried_out m 1 (fit_of m row [] (value.Cell 0)) (record { left = 10000; cells = d ∷ [] })).answer
output_of (evaluation m row) = answer_output worth (row_ending m row).answer
output_of (costing m row) = answer_output (cost_output (row_ending m row).state) (row_ending m row).answer
output_of (loading bytes) = loading_output (verdict_in bytes) (typing_verdict (content_of bytes))
output_of (run m choices) = listing (listing_from m choices (first_house_run m))

-- an example: a computation, and what it gives
infix 5 ◌gives◌
pub data Example : Type 0 where
  ◌gives◌ : Computation → Output → Example

abbrev pub Holds : Example → Type 0
Holds (computation gives output) = output_of computation ≡ output

abbrev pub AllHold : List Example → Type 0
AllHold [] = ⊤
AllHold (example ∷ examples) = Holds example × AllHold examples
