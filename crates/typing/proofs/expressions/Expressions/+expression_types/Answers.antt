use Rattle.std.proofs.Common.{refl, rules}
use Rattle.tables.specs.Layout.{content}
use Rattle.typing.specs.Views.{lower_types}
use Rattle.typing.proofs.Typings.{type_step_lem, arguments_unequal, common}
use Rattle.typing.proofs.expressions.Expressions.+expression_types.Goals as goal

pub arguments_fit-returns-then-arguments-parameters : goal.arguments_fit-returns-then-arguments-parameters
arguments_fit-returns-then-arguments-parameters t c =
    let e = c.args.self.now in
    record { gives = arguments_unequal (content e.t.now) e.within (lower_types e c.args.row) c.args.scope.now c.args.arguments.now c.args.parameters.now c.if-arguments-parameters.true }

pub common_type-returns : goal.common_type-returns
common_type-returns t c =
    let e = c.args.self.now in
    record {
      gives = rw c.then_some.ensures (common (content e.t.now) e.within (lower_types e c.args.row) c.args.case.function c.args.case.to c.in_ok-common.common
          c.args.scope.now _ _ c.in_ok-first.first.now c.in_ok-first.rest.now c.args.branches.now _
          (search rules) c.in_ok-common.ensures.gives c.all_have.ensures.gives);
    }

pub type_of-returns-in_err-node : goal.type_of-returns-in_err-node
type_of-returns-in_err-node t c =
    let e = c.args.self.now in
    record {
      gives = rw (type_step_lem (content e.t.now) e.within c.args.row c.args.scope.now, ← c.in_err-node.ensures.node) (record { value = c.from_residual.ensures; same = refl });
    }

pub type_of-returns : goal.type_of-returns
type_of-returns t c =
    let e = c.args.self.now in
    record {
      gives = rw (type_step_lem (content e.t.now) e.within c.args.row c.args.scope.now, ← c.in_ok-node.ensures.node) c.node_type.ensures.gives;
    }
