use Rattle.std.proofs.Common.{ap, ◌∙◌}
use Rattle.tables.specs.Layout.{content}
use Rattle.tables.specs.declared.tables.Tables.{Tables}
use Rattle.loading.specs.Types.{keeps_types}
use Rattle.loading.proofs.Laws.{accepted}
use Rattle.loading.proofs.accepted.AcceptedModel.tables.Goals as goal

pub returns-clause-accepted : goal.returns-clause-accepted
returns-clause-accepted c =
    accepted (content c.tables.result.now) c.tables.ensures.kept c.tables.ensures.limits
    (ap (λ (t : Tables). keeps_types (content t)) c.tables.ensures.tables ∙ c.args.self.now.typed)
