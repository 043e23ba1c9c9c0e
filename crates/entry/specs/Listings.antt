-- The text of a listing.
use Rattle.std.specs.Prelude.{ℕ, List, [], ◌∷◌, ◌++◌, codes, Ok, Err, Result, vec_items}
use Rattle.std.specs.Fmt.{decimal}
use Rattle.tables.specs.Texts.{fault_text}
use Rattle.loading.specs.declared.load.LoadFault.{LoadFault}
use Rattle.loading.specs.Loading.{model_number, whole_fault}
use Rattle.schedule.specs.declared.schedule.ScheduleRefusal.{ScheduleRefusal}
use Rattle.schedule.specs.Schedules.{schedule_number}
use Rattle.steps.specs.declared.refusal.Refusal.{Refusal}
use Rattle.steps.specs.Refusals.{refusal_number}
use Rattle.steps.specs.Account.{Account}
use Rattle.run.specs.Openings.{numbers}
use Rattle.entry.specs.declared.listing.Listing.{Listing}
use Rattle.entry.specs.declared.listing.Listing.TheVariants.{RefusedModel, RefusedSchedule, Run}
use Rattle.entry.specs.declared.listing.RunListing.{RunListing}

-- a text and the end of its line
abbrev pub line : List ℕ → List ℕ
line text = text ++ codes "\n"

-- An accepted choice has `ok` behind it, a refused one the number of its refusal.
abbrev pub choice_line : {A : Type 0} → (choice : ℕ) → Result A Refusal → List ℕ
choice_line choice (Ok done) = line (decimal choice ++ codes " ok")
choice_line choice (Err e) = line (decimal choice ++ codes " " ++ decimal (refusal_number e))

-- a line for each choice and its answer
abbrev pub choice_lines : {A : Type 0} → (choices : List ℕ) → List (Result A Refusal) → List ℕ
choice_lines [] answers = []
choice_lines (choice ∷ choices) [] = []
choice_lines (choice ∷ choices) (answer ∷ answers) = choice_line choice answer ++ choice_lines choices answers

-- the numbers of an account, each with its name
abbrev pub account_text : Account → List ℕ
account_text a =
    codes "calls " ++ decimal a.calls
    ++ (codes " returned " ++ decimal a.returned)
    ++ (codes " answered " ++ decimal a.answered)
    ++ (codes " unfinished " ++ decimal a.unfinished)
    ++ (codes " waiting " ++ decimal a.waiting)

-- the choices and their answers, and the account
abbrev pub run_text : RunListing → List ℕ
run_text r = choice_lines (vec_items r.choices) (vec_items r.run.answers) ++ line (account_text (numbers r.run.account))

-- A refused model is told with its rule, table and row.
abbrev pub model_refusal : LoadFault → List ℕ
model_refusal f = line (codes "refused " ++ fault_text model_number (whole_fault f))

-- A refused schedule is told with its number.
abbrev pub schedule_refusal : ScheduleRefusal → List ℕ
schedule_refusal e = line (codes "refused " ++ decimal (schedule_number e))

-- Of a refused model and of a refused schedule nothing else is listed.
abbrev pub listing_text : Listing → List ℕ
listing_text (RefusedModel f) = model_refusal f
listing_text (RefusedSchedule e) = schedule_refusal e
listing_text (Run r) = run_text r
