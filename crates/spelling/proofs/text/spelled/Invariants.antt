use Rattle.std.proofs.Common.{◌≡◌, List}
use Rattle.spelling.specs.Text.{told_by, with_items, nothing_told, AreItems}
use Rattle.spelling.specs.declared.text.Item.{Item}
use Rattle.spelling.proofs.text.spelled.Given as goal

-- the words so far are items, which tell what the draft holds
abbrev pub invariant-loop-word : goal.invariant-loop-word
invariant-loop-word l = (items : List Item) × AreItems l.yielded items × (told_by l.draft ≡ with_items items nothing_told)
