-- The worked examples compute.
use Rattle.std.specs.Prelude.{◌≡◌, List, [], ◌∷◌, drop, get_or, map}
use Rattle.std.proofs.Common.{ap, refl}
use Rattle.placement.specs.Holders.{node_users, branch_cases, method_classes, statement_methods}
use Rattle.syntax.specs.Descent.{descend, descend_to}
use Rattle.typing.specs.Expressions.{type_in}
use Rattle.typing.specs.Patterns.{pattern_scope}
use Rattle.typing.specs.Typing.{typing_verdict}
use Rattle.model.specs.Rules.{verdict_in}
use Rattle.evaluation.specs.Evaluation.{run, step, work, carried_out}
use Rattle.evaluation.specs.Matching.{fit_of}
use Rattle.worked_examples.specs.Computations.{AllHold, Example, Output, ◌gives◌, acceptance, output_of}
use Rattle.worked_examples.specs.Table.{worked_examples}

-- what an example comes to, and what the table says
abbrev computation_output : Example → Output
computation_output (computation gives output) = output_of computation

abbrev table_output : Example → Output
table_output (computation gives output) = output

-- Examples all hold if what they come to, one after another, is what the table says.
all_hold_by : (examples : List Example) → map computation_output examples ≡ map table_output examples → AllHold examples
all_hold_by [] e = tt
all_hold_by ((computation gives output) ∷ examples) e =
    (ap (λ outputs. get_or outputs 0 acceptance) e, all_hold_by examples (ap (drop 1) e))

pub all_hold : AllHold worked_examples
unfolding node_users branch_cases method_classes statement_methods descend descend_to type_in pattern_scope typing_verdict verdict_in run step work carried_out fit_of
all_hold = all_hold_by worked_examples refl
