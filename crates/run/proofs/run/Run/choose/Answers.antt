use Rattle.std.proofs.Common.{sym, subst}
use Rattle.tables.specs.Layout.{Content}
use Rattle.loading.specs.Accepted.{IsAccepted}
use Rattle.steps.specs.Sound.{Sound}
use Rattle.steps_guarantee.proofs.Guaranteed.{chosen_sound}
use Rattle.run.specs.Runs.{moment}
use Rattle.run.proofs.run.Run.choose.Goals as goal

pub returns-clause-sound : goal.returns-clause-sound
returns-clause-sound g c = λ before.
    let m : Content = c.args.self.now.model in
    let same = sym c.make_choice.ensures.model in
    let P : Content → Type 0 = λ n. Sound n c.make_choice.new.self.at (g.O.Outside.waits c.make_choice.new.outside) in (
      subst IsAccepted same before.0,
      subst P same (chosen_sound g.O.Outside m before.0 (moment c.args.self.now c.args.outside.now) (moment c.make_choice.new.self c.make_choice.new.outside)
          c.args.choice c.make_choice.result before.1 c.make_choice.ensures.chosen),
    )
