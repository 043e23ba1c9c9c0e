use Rattle.std.proofs.Common.{◌∙◌, arith}
use Rattle.tables.specs.Layout.{content}
use Rattle.typing.specs.Expressions.{type_in}
use Rattle.typing.proofs.Typings.{arguments_above}
use Rattle.typing.proofs.expressions.Expressions.all_fit.Goals as goal

pub returns : goal.returns
returns c =
    let e = c.args.self.now in
    let gave = c.arguments_fit.ensures.gives in
    record {
      gives = record {
        value = gave.value ∙ arguments_above (content e.t.now) e.within (type_in (content e.t.now) e.within) c.args.scope.now c.args.arguments.now c.args.parameters.now
            (λ i. omega (arith, c.type_inv.arguments i));
        same = gave.same;
      };
    }
