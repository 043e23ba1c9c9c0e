use Rattle.std.proofs.Common.{◌≡◌, ℕ, ◌+◌, Bool, true, length, Some, Err, refl, sym, ap, ◌∙◌, arith}
use Rattle.std.specs.Prelude.{nat_lt, cond}
use Rattle.std.specs.List.{slice_get}
use Rattle.rules.proofs.Rows.{known}
use Rattle.tables.specs.Layout.{Content, content}
use Rattle.syntax.specs.Nodes.{parts}
use Rattle.evaluation.specs.declared.value.Value.TheVariants as value
use Rattle.evaluation.specs.Rules.{all_of}
use Rattle.evaluation.specs.Values.{values_of}
use Rattle.steps.specs.declared.records.CallRecord.{CallRecord}
use Rattle.rules.specs.Words.{part}
use Rattle.steps.specs.declared.refusal.Refusal.TheVariants as refusal
use Rattle.steps.specs.Changes.{at_statement, with_target}
use Rattle.steps.specs.Configurations.{Configuration, call_at, call_environment, group_of}
use Rattle.shape.specs.Shape.{is_outside_class}
use Rattle.steps.specs.Creating.{new_by, new_of_class}
use Rattle.steps.specs.Defaults.{with_defaults}
use Rattle.steps.specs.Outcomes.{silent}
use Rattle.run_state.specs.Changes.{call_with_target, with_object_made}
use Rattle.run.specs.Runs.{RunView}
use Rattle.run.specs.Views.{run_seen}
use Rattle.run.proofs.Creating.{new_by_is}
use Rattle.run.proofs.Evaluated.{evaluated_ok, evaluated_err}
use Rattle.run.proofs.Putting.{stands_silent, target_cells}
use Rattle.run.proofs.run.Run.create.Goals as goal

pub returns-in-Err-clause-stands : goal.returns-in-Err-clause-stands
returns-in-Err-clause-stands c =
    let m = c.args.self.now.model in
    let at = c.args.self.now.at in
    let n = c.args.number in
    let e = c.args.creation in
    evaluated_err m at (λ x. all_of (parts e.arguments) (call_environment at x))
    (λ x vs d. new_of_class m at n x c.args.target e c.args.next vs d (slice_get m.classes e.class)) (call_at at n) c.in-Err.refusal c.evaluate_all.new.self.at
    c.in-Err.ensures.gives

pub returns-clause-stands : goal.returns-clause-stands
returns-clause-stands c =
    let m = c.args.self.now.model in
    let at = c.args.self.now.at in
    let d = (run_seen c.self.inside).at in
    let n = c.args.number in
    let target = c.args.target in
    let e = c.args.creation in
    let next = c.args.next in
    let vs = values_of c.in-Ok.arguments in
    let dr = evaluated_ok m at (λ x. all_of (parts e.arguments) (call_environment at x)) (call_at at n) vs d (rw (← c.self.view_is) at c.in-Ok.ensures.gives) in
    let y = c.in-Some.call.now in
    let k = c.in-Some-class_at.class in
    let there : call_at d n ≡ Some y = sym c.in-Some.ensures.call in
    let same : dr.call ≡ y = known (sym dr.there ∙ sym (ap (λ (f : Configuration). call_at f n) dr.same) ∙ there) in
    let model : (run_seen c.self.inside).model ≡ m = ap (λ (r : RunView). r.model) c.self.view_is ∙ c.evaluate_all.ensures.model in
    let t : content c.tables-t.result.now ≡ m = ap content c.tables-t.ensures.tables ∙ model in
    let class = c.in-Some-class_at.ensures.class ∙ ap (λ (m : Content). slice_get m.classes e.class) t in
    let room : nat_lt (length d.objects) 64 ≡ true = grind (arith, c.if-objects-ge64.false, c.objects-objects.ensures.objects) in
    let fs = with_defaults m vs (part k.fields_first k.fields m.lists) in
    let f = with_object_made d e.class (group_of d y.object) e.group (is_outside_class k) fs in
    let v = value.Object (length d.objects + 1) in
    let out =
    dr.comes (λ x vs d. new_of_class m at n x target e next vs d (slice_get m.classes e.class))
    ∙ ap (λ (z : CallRecord). new_of_class m at n z target e next vs d (slice_get m.classes e.class)) same
    ∙ ap (new_of_class m at n y target e next vs d) (sym class)
    ∙ ap (λ (b : Bool). cond b (silent (new_by m at n y e.group (is_outside_class k) d e.class fs target next)) (Err refusal.NoObjectLeft)) room
    ∙ ap silent (new_by_is m at n y e.group (is_outside_class k) d e.class fs target next) in
    let fields : c.with_defaults-fields.result ≡ fs =
    c.with_defaults-fields.ensures.slots ∙ (λ i. with_defaults (t i) (c.as_slice.ensures.values i) (part k.fields_first k.fields (t i).lists)) in
    let pushed = rw (← c.self.view_is) at c.push_new.ensures.pushed in
    let made : c.push_new.new.self.at ≡ f =
    pushed ∙ (λ i. with_object_made d e.class (group_of d y.object) e.group (is_outside_class k) (fields i)) in
    let number : c.objects-objects.result + 1 ≡ length d.objects + 1 = ap (λ (j : ℕ). j + 1) c.objects-objects.ensures.objects in
    let final : c.store.new.self.at ≡ with_target f n (at_statement y next) target v =
    c.store.ensures.target ∙ (λ i. call_with_target (made i) n target (value.Object (number i)) next (call_at (made i) n)) ∙ ap (call_with_target f n target v next) there in
    rw final (stands_silent at _ out refl (rw (target_cells f n (at_statement y next) target v) dr.grows))
