use Rattle.std.proofs.Common.{◌≡◌, List, [], ap, ◌∙◌}
use Rattle.tables.specs.Layout.{content}
use Rattle.evaluation.specs.Carried.{Work}
use Rattle.evaluation.specs.Values.{Data}
use Rattle.worths.specs.Worths.{all_visits}
use Rattle.worths.proofs.TypedAnswers.{keeps_type}
use Rattle.worths.proofs.evaluation_of.Goals as goal

pub returns-clause-keeps_type : goal.returns-clause-keeps_type
returns-clause-keeps_type c =
    let none : c.enter.new.self.bindings ≡ [] = c.enter.ensures.bound in
    let cells : c.in-Ok.work.state.cells ≡ [] = ap (λ (w : Work). w.state.cells) c.in-Ok.ensures.work ∙ c.in_ok-cells.ensures.empty in
    let all : c.enter.new.self.state ≡ all_visits = c.enter.ensures.state ∙ ap (λ (cs : List Data). record { left = 10000; cells = cs }) cells in
    keeps_type (content c.args.t.now) c.args.row none all c.evaluate-worth.ensures.evaluates c.evaluate-worth.ensures.keeps_types
