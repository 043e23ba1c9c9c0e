use Rattle.std.proofs.Common.{◌≡◌, ◌+◌, ◌*◌, ◌++◌, length}
use Rattle.tables.specs.Layout.{content}
use Rattle.typing.specs.Patterns.{children_scope}
use Rattle.typing.specs.Scopes.{Bindings}
use Rattle.typing.specs.Views.{lower_scopes}
use Rattle.typing.proofs.patterns.Patterns.+pattern_fits.Given as goal

-- the row falls from a pattern to its children; within a row the calls go in this order
abbrev pub decreases-fits : goal.decreases-fits
decreases-fits l = 5 * l.row + 4

abbrev pub decreases-node_fits : goal.decreases-node_fits
decreases-node_fits l = 5 * l.row + 3

abbrev pub decreases-constructor_fits : goal.decreases-constructor_fits
decreases-constructor_fits l = 5 * l.row + 2

abbrev pub decreases-children_fit : goal.decreases-children_fit
decreases-children_fit l = 5 * l.row + 1

abbrev pub decreases-child_fits : goal.decreases-child_fits
decreases-child_fits l = 5 * l.row

-- what is behind the children that are left is behind them all, and bindings were only added; as many parameters are left
abbrev pub invariant-children_fit-loop-child : goal.invariant-children_fit-loop-child
invariant-children_fit-loop-child l = record {
  scope :
      children_scope (content l.self.t.now) l.self.function (lower_scopes l.self l.row) l.scope l.child-iterator.a.rest.now l.child-iterator.b.rest.now
      ≡ children_scope (content l.self.t.now) l.self.function (lower_scopes l.self l.row) l.initial.scope l.children l.parameters;
  grows : (newer : Bindings) × (l.scope ≡ newer ++ l.initial.scope);
  alike : length l.child-iterator.a.rest.now ≡ length l.child-iterator.b.rest.now;
}
