-- The text of an entry whose model is accepted.
use Rattle.std.proofs.Common.{◌≡◌, List, ℕ, Ok, Option, sym, ap, ◌∙◌}
use Rattle.tables.specs.declared.place.Fault.{Fault}
use Rattle.tables.specs.declared.place.TableRule.{TableRule}
use Rattle.tables.specs.Layout.{Content, content, content_of}
use Rattle.typing.specs.declared.rule.TypingRule.{TypingRule}
use Rattle.model.specs.Input.{behind_model, model_in}
use Rattle.loading.specs.declared.accepted.AcceptedModel.{AcceptedModel}
use Rattle.loading.specs.Loading.{Loads}
use Rattle.schedule.specs.Schedules.{schedule_of}
use Rattle.entry.specs.Entries.{entry_text, model_text, schedule_text, typing_text}

pub accepted_text : (input : List ℕ) (model : AcceptedModel) → Loads (model_in input) (Ok model) →
    schedule_text (content model.model.tables) (schedule_of (behind_model input)) ≡ entry_text input
accepted_text input model loads =
    let behind = behind_model input in
    let bs = model_in input in
    ap (λ (m : Content). schedule_text m (schedule_of behind)) loads.3
    ∙ ap (λ (v : Option (Fault TypingRule)). typing_text (content_of bs) v behind) (sym loads.1)
    ∙ ap (λ (v : Option (Fault TableRule)). model_text bs v behind) (sym loads.0)
