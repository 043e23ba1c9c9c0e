use Rattle.std.proofs.Common.{◌≡◌, length, take}
use Rattle.std.specs.Prelude.{vec_items, vec_len, vec_capacity}
use Rattle.tables.specs.Layout.{content}
use Rattle.steps.specs.Histories.{PlaysTo}
use Rattle.run.specs.Runs.{moment}
use Rattle.run.proofs.playing.play_over_empty.Given as goal

-- The choices made so far have their answers.
abbrev pub invariant-loop-choice : goal.invariant-loop-choice
invariant-loop-choice g l = record {
  plays : PlaysTo g.O.Outside (content l.fn.model.model.tables) l.fn.outside (take l.choice-index l.choices) (vec_items l.answers) (moment l.run l.outside);
  model : l.run.model ≡ content l.fn.model.model.tables;
  count : vec_len l.answers ≡ l.choice-index;
  memory : vec_capacity l.answers ≡ length l.choices;
}
