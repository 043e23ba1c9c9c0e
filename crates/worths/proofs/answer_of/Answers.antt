use Rattle.std.proofs.Common.{rules}
use Rattle.tables.specs.Layout.{content}
use Rattle.worths.proofs.TypedAnswers.{has_its_type}
use Rattle.worths.proofs.answer_of.Goals as goal

pub returns-in_ok-evaluation-in-Some-clause-has_its_type : goal.returns-in_ok-evaluation-in-Some-clause-has_its_type
returns-in_ok-evaluation-in-Some-clause-has_its_type c =
    let typed = c.tables-t.ensures.typed in
    let keeps = c.in_ok-evaluation-in-Some.ensures.keeps_type in
    has_its_type (content c.args.model.now.model.tables) c.in-Some.function c.in_ok-evaluation-in-Some.evaluation.worth (rw c.tables-t.ensures.tables at typed).functions (search rules)
    (rw c.tables-t.ensures.tables at keeps)
