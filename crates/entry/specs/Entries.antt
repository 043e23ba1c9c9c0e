-- What is listed of an entry over a house, as a function of its bytes.
use Rattle.std.specs.Prelude.{ℕ, List, [], ◌∷◌, ◌++◌, Some, None, Ok, Err, Option, Result}
use Rattle.tables.specs.declared.place.Fault.{Fault}
use Rattle.tables.specs.declared.place.TableRule.{TableRule}
use Rattle.tables.specs.Layout.{Content, content_of}
use Rattle.model.specs.Input.{behind_model, model_in}
use Rattle.model.specs.Rules.{verdict_in}
use Rattle.typing.specs.declared.rule.TypingRule.{TypingRule}
use Rattle.typing.specs.Typing.{typing_verdict}
use Rattle.loading.specs.declared.load.LoadFault.TheVariants.{Reading, Typing}
use Rattle.schedule.specs.declared.schedule.ScheduleRefusal.{ScheduleRefusal}
use Rattle.schedule.specs.Schedules.{schedule_of}
use Rattle.steps.specs.Houses.{HouseRun, house_account, first_house_run, house_step, run_after}
use Rattle.entry.specs.Listings.{account_text, choice_line, line, model_refusal, schedule_refusal}

-- Choices that a run over a house goes on with: a line for each, and then the account.
abbrev pub choices_text : Content → (choices : List ℕ) → HouseRun → List ℕ
choices_text m [] r = line (account_text (house_account r))
choices_text m (n ∷ ns) r = choice_line n (house_step m r n) ++ choices_text m ns (run_after r (house_step m r n))

-- An accepted model with its schedule.
abbrev pub schedule_text : Content → Result (List ℕ) ScheduleRefusal → List ℕ
schedule_text m (Ok choices) = choices_text m choices (first_house_run m)
schedule_text m (Err e) = schedule_refusal e

-- A model that keeps the rules of the tables, with its first breach of a typing rule, and what follows it.
abbrev pub typing_text : Content → Option (Fault TypingRule) → (behind : List ℕ) → List ℕ
typing_text m None behind = schedule_text m (schedule_of behind)
typing_text m (Some f) behind = model_refusal (Typing f)

-- A model's bytes, with their first breach of a rule of the tables, and what follows them.
abbrev pub model_text : (model : List ℕ) → Option (Fault TableRule) → (behind : List ℕ) → List ℕ
model_text bs None behind = typing_text (content_of bs) (typing_verdict (content_of bs)) behind
model_text bs (Some f) behind = model_refusal (Reading f)

-- The listing of an input: a model, and a schedule directly behind it.
abbrev pub entry_text : (input : List ℕ) → List ℕ
entry_text input = model_text (model_in input) (verdict_in (model_in input)) (behind_model input)
