use Rattle.std.proofs.Common.{◌≡◌, false, None, Some, Option, is_some, refl, sym, ap, ◌∙◌, subst}
use Rattle.std.proofs.lemmas.Bool.{true≢false}
use Rattle.tables.specs.Layout.{Content, content}
use Rattle.model.proofs.Kept.{kept}
use Rattle.loading.specs.Accepted.{IsAccepted}
use Rattle.loading.proofs.Laws.{accepted}
use Rattle.steps_laws.proofs.Opened.{opens_sound}
use Rattle.run.specs.Runs.{IsSound, RunView}
use Rattle.run.proofs.run.Run.open.Goals as goal

none_of : {A : Type 0} (o : Option A) → is_some o ≡ false → o ≡ None
none_of None e = refl
none_of (Some x) e = absurd (true≢false e)

pub returns-clause-sound : goal.returns-clause-sound
returns-clause-sound g c =
    let model = c.args.model.now in
    let m : Content = content model.model.tables in
    let k : IsAccepted m = accepted m (kept m model.model.keeps) model.model.limits model.typed in
    let o = c.args.outside.now in
    let none = none_of (g.O.Outside.upcoming o) (ap is_some (sym c.next.ensures.upcoming) ∙ sym c.is_some.ensures ∙ c.if-is_some.false) in
    let P : RunView → Type 0 = λ r. IsSound g.O.Outside r o in
    subst P (sym c.in-Some.ensures.opened) (k, opens_sound m k (g.O.Outside.waits o) (g.met.O.Outside.empty_if_none o none))
