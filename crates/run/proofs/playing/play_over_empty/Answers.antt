use Rattle.std.proofs.Common.{ap, refl, subst, take, get_or, ◌∙◌, arith}
use Rattle.std.proofs.lemmas.List.{take_all, take_more}
use Rattle.std.proofs.lemmas.Result.{err_from_is_err_and}
use Rattle.tables.specs.Layout.{Content, content}
use Rattle.model.proofs.Kept.{kept}
use Rattle.loading.proofs.Laws.{accepted}
use Rattle.steps.specs.Histories.{Chosen, Moment}
use Rattle.steps.proofs.Playing.{plays_first, plays_on}
use Rattle.steps_laws.proofs.WholeRuns.{OutsideLaws}
use Rattle.steps_guarantee.proofs.Playing.{plays_last}
use Rattle.run.specs.Openings.{numbers}
use Rattle.run.specs.Runs.{RunView, moment}
use Rattle.run.proofs.Histories.{not_opened}
use Rattle.run.proofs.playing.play_over_empty.Goals as goal

pub returns-in_err-run : goal.returns-in_err-run
returns-in_err-run g c =
    let r = c.from_residual-in_err-run in
    let p = err_from_is_err_and r.result r.ensures.1 in
    rw (p.1, p.2) (record { plays = not_opened g.O.Outside (content c.args.model.now.model.tables) c.args.outside.now c.args.choices.now _ c.in_err-run.ensures.opens })

pub loop-choice-init : goal.loop-choice-init
loop-choice-init g c =
    let m = content c.args.model.now.model.tables in
    let o = c.args.outside.now in
    let opens = c.in_ok-run.ensures.opens in
    record {
      plays = rw (c.in_ok-answers.ensures.items, opens.1) (plays_first g.O.Outside m o (g.met.O.Outside.empty_if_none o opens.0));
      model = ap (λ (r : RunView). r.model) opens.1;
      count = c.in_ok-answers.ensures.len;
      memory = c.in_ok-answers.ensures.exact;
    }

pub loop-choice-preserved : goal.loop-choice-preserved
loop-choice-preserved g c =
    let m = content c.args.model.now.model.tables in
    let i = c.loop-choice.choice-index in
    let inv = c.loop-choice.invariant in
    let xs = c.args.choices.now in
    let s : Moment g.row.O.Denot = moment c.loop-choice.run c.loop-choice.outside in
    let t : Moment g.row.O.Denot = moment c.choose.new.self c.choose.new.outside in
    let P : Content → Type 0 = λ m. Chosen g.O.Outside m s (get_or xs i 0) c.choose.result t in
    let k = plays_on g.O.Outside m c.args.outside.now (take i xs) c.loop-choice.answers.items s t (get_or xs i 0) c.choose.result inv.plays (subst P inv.model c.choose.ensures.chosen) in
    record {
      plays = rw (take_more xs i 0 c.loop-choice-test.true, c.push_reserved.ensures.items) k;
      model = c.choose.ensures.model ∙ inv.model;
      count = omega (arith, c.push_reserved.ensures.len);
      memory = c.push_reserved.ensures.capacity ∙ inv.memory;
    }

pub returns : goal.returns
returns g c =
    let inv = c.loop-choice.invariant in
    let all = take_all c.loop-choice.choice-index c.args.choices.now (omega (arith, c.loop-choice-test.false)) in
    let model = c.args.model.now in
    let m : Content = content model.model.tables in
    let laws : OutsideLaws g.O.Outside = record {
      room_if_empty = g.met.O.Outside.room_if_empty;
      empty_if_none = g.met.O.Outside.empty_if_none;
      upcoming_waits = g.met.O.Outside.upcoming_waits;
    } in
    record {
      plays = plays_last g.O.Outside m laws (accepted m (kept m model.model.keeps) model.model.limits model.typed) c.args.outside.now c.args.choices.now
          c.loop-choice.answers.items (moment c.loop-choice.run c.loop-choice.outside) (numbers c.close-account.result) (rw all at inv.plays)
          c.close-account.ensures.account;
    }
