use Rattle.tables.specs.Layout.{content}
use Rattle.typing.proofs.Matches.{variable_fits}
use Rattle.typing.proofs.patterns.Patterns.variable_fits.Goals as goal

pub returns : goal.returns
returns c =
    let p = c.args.self.now in
    record {
      matched = variable_fits (content p.t.now) p.function c.args.scope.now c.bind.new.self c.args.slot c.args.to
          (rw c.declared-of.ensures.declared at c.if-not-agree.ensures.agree) c.bind.ensures.bound;
    }
