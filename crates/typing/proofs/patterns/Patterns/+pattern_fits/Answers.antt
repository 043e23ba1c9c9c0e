use Rattle.std.proofs.Common.{arith}
use Rattle.tables.specs.Layout.{content}
use Rattle.typing.specs.Views.{lower_scopes}
use Rattle.typing.proofs.Matches.{pattern_step_lem, matched_none, matched_unequal, child_more, child_stops}
use Rattle.typing.proofs.patterns.Patterns.+pattern_fits.Goals as goal

pub children_fit-returns-then-children-parameters : goal.children_fit-returns-then-children-parameters
children_fit-returns-then-children-parameters t c =
    let p = c.args.self.now in
    record {
      matched = matched_unequal (content p.t.now) p.function (lower_scopes p c.args.row) c.args.scope.now c.args.children.now c.args.parameters.now
          c.if-children-parameters.true;
    }

pub children_fit-returns-then-not-child_fits : goal.children_fit-returns-then-not-child_fits
children_fit-returns-then-not-child_fits t c =
    let p = c.args.self.now in
    let i = c.loop-child.invariant in
    let next = c.in-Some.ensures.steps in
    let behind = rw (next.0, next.1) at i.scope in
    record {
      matched = child_stops (content p.t.now) p.function (lower_scopes p c.args.row) c.args.scope.now c.loop-child.scope c.child_fits.new.scope
          c.in-Some.child.now c.in-Some.parameter.now c.next.new.self.a.rest.now c.next.new.self.b.rest.now _ c.child_fits.result behind i.grows c.child_fits.ensures.matched c.if-not-child_fits.true;
    }

pub children_fit-loop-child-preserved : goal.children_fit-loop-child-preserved
children_fit-loop-child-preserved t c =
    let p = c.args.self.now in
    let i = c.loop-child.invariant in
    let next = c.in-Some.ensures.steps in
    let behind = rw (next.0, next.1) at i.scope in
    let more = child_more (content p.t.now) p.function (lower_scopes p c.args.row) c.args.scope.now c.loop-child.scope c.child_fits.new.scope
    c.in-Some.child.now c.in-Some.parameter.now c.next.new.self.a.rest.now c.next.new.self.b.rest.now _ c.child_fits.result behind i.grows c.child_fits.ensures.matched c.if-not-child_fits.false in
    record { scope = more.0; grows = more.1; alike = omega (arith, rw (next.0, next.1) at i.alike) }

pub fits-returns-in_default : goal.fits-returns-in_default
fits-returns-in_default t c = record {
  matched = rw (pattern_step_lem (content c.args.self.now.t.now) c.args.self.now.function c.args.row c.args.scope.now c.args.to, ← c.in_default.ensures.node)
      (matched_none c.args.scope.now);
}

pub fits-returns : goal.fits-returns
fits-returns t c = record {
  matched = rw (pattern_step_lem (content c.args.self.now.t.now) c.args.self.now.function c.args.row c.args.scope.now c.args.to, ← c.in-Some.ensures.node)
      c.node_fits.ensures.matched;
}
