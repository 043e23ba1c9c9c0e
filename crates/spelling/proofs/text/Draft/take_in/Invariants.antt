use Rattle.std.proofs.Common.{◌≡◌}
use Rattle.spelling.specs.Text.{told_by, with_item}
use Rattle.spelling.specs.declared.text.Item.TheVariants.{Numbers}
use Rattle.spelling.proofs.text.Draft.take_in.Given as goal

-- the number was written as often as the loop has run
abbrev pub invariant-loop : goal.invariant-loop
invariant-loop l = told_by l.self ≡ with_item (Numbers l.counter l.number) (told_by l.initial.self)
