use Rattle.std.proofs.Common.{refl, vec_items}
use Rattle.tables.specs.Layout.{content}
use Rattle.run.specs.Openings.{numbers}
use Rattle.entry.proofs.Houses.{text_of_run}
use Rattle.entry.proofs.entry.run_listing.Goals as goal

pub returns-in-Ok : goal.returns-in-Ok
returns-in-Ok c = record {
  text = text_of_run (content c.args.model.now.model.tables) (vec_items c.args.choices) (vec_items c.in-Ok.run'.answers) (numbers c.in-Ok.run'.account)
      c.in_ok-house.ensures.empty (rw c.as_slice.ensures.value at c.in-Ok.ensures.plays)
      (record { upcoming = λ h. refl; roomy = λ h. refl; waits = λ h. refl; after_take = λ h call later e. e; after_delivery = λ h n later e. e });
}
