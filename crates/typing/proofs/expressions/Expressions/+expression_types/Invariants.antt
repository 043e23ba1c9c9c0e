use Rattle.std.proofs.Common.{◌≡◌, ◌+◌, ◌*◌, length, drop}
use Rattle.tables.specs.Layout.{content}
use Rattle.typing.specs.Expressions.{all_have, arguments_fit}
use Rattle.typing.specs.Views.{lower_types}
use Rattle.typing.proofs.expressions.Expressions.+expression_types.Given as goal

-- the row falls from an expression to its children; within a row the calls go in this order
abbrev pub decreases-type_of : goal.decreases-type_of
decreases-type_of l = 16 * l.row + 15

abbrev pub decreases-node_type : goal.decreases-node_type
decreases-node_type l = 16 * l.row + 14

abbrev pub decreases-case_type : goal.decreases-case_type
decreases-case_type l = 16 * l.row + 13

abbrev pub decreases-common_type : goal.decreases-common_type
decreases-common_type l = 16 * l.row + 12

abbrev pub decreases-all_have : goal.decreases-all_have
decreases-all_have l = 16 * l.row + 11

abbrev pub decreases-branch_type : goal.decreases-branch_type
decreases-branch_type l = 16 * l.row + 10

abbrev pub decreases-constructor_type : goal.decreases-constructor_type
decreases-constructor_type l = 16 * l.row + 13

abbrev pub decreases-function_type : goal.decreases-function_type
decreases-function_type l = 16 * l.row + 13

abbrev pub decreases-arguments_fit : goal.decreases-arguments_fit
decreases-arguments_fit l = 16 * l.row + 12

abbrev pub decreases-both : goal.decreases-both
decreases-both l = 16 * l.row + 13

abbrev pub decreases-alike : goal.decreases-alike
decreases-alike l = 16 * l.row + 13

abbrev pub decreases-has : goal.decreases-has
decreases-has l = 16 * l.row + 2

abbrev pub decreases-lower_type : goal.decreases-lower_type
decreases-lower_type l = 16 * l.row + 1

-- the branches that are left have the type exactly if all have it, and the scope is as it was
abbrev pub invariant-all_have-loop-branch : goal.invariant-all_have-loop-branch
invariant-all_have-loop-branch l =
    (all_have (content l.self.t.now) l.self.within (lower_types l.self l.row) l.case.function l.initial.scope l.case.to l.common (drop l.branch-index l.branches)
    ≡ all_have (content l.self.t.now) l.self.within (lower_types l.self l.row) l.case.function l.initial.scope l.case.to l.common l.branches)
    × (l.scope ≡ l.initial.scope)

-- the arguments that are left fit exactly if all do, and the scope is as it was
abbrev pub invariant-arguments_fit-loop-argument : goal.invariant-arguments_fit-loop-argument
invariant-arguments_fit-loop-argument l =
    (arguments_fit (content l.self.t.now) l.self.within (lower_types l.self l.row) l.initial.scope (drop (length l.yielded) l.arguments) (drop (length l.yielded) l.parameters)
    ≡ arguments_fit (content l.self.t.now) l.self.within (lower_types l.self l.row) l.initial.scope l.arguments l.parameters)
    × (l.scope ≡ l.initial.scope)
