use Rattle.std.proofs.Common.{◌≡◌, ℕ, subst, Some, None, Ok, Err, Option, sym, ap, ◌∙◌}
use Rattle.std.specs.Prelude.{take}
use Rattle.tables.specs.Layout.{content}
use Rattle.evaluation.specs.Carried.{Evaluates}
use Rattle.evaluation.specs.Plans.{Plan, ask}
use Rattle.steps.specs.Calling.{Message, message_on, message_to}
use Rattle.run.specs.Messages.{message_given, object_in}
use Rattle.run.proofs.Sequences.{seq_err, seq_done, seq_ok, seq_cut, not_object, an_object}
use Rattle.run.proofs.message.evaluate_message.Goals as goal

pub returns-in-Err : goal.returns-in-Err
returns-in-Err c =
    let w = c.args.work.now in
    rw c.in-Some.is (record { evaluates = seq_err (content c.args.evaluator.now.t.now) c.args.evaluator.now.this (ask c.in-Some.row w.bindings) (message_on c.args.rows.now w.bindings) w c.evaluate.new.work c.in-Err.refusal c.in-Err.ensures.evaluates })

pub returns-in_default-object_in : goal.returns-in_default-object_in
returns-in_default-object_in c =
    let w = c.args.work.now in
    let none : object_in c.in-Ok.value ≡ None = sym c.object_in.ensures.object ∙ c.in_default-object_in.is in
    rw c.in-Some.is (record { evaluates = seq_done (content c.args.evaluator.now.t.now) c.args.evaluator.now.this (ask c.in-Some.row w.bindings) (message_on c.args.rows.now w.bindings) w c.evaluate.new.work c.in-Ok.value None c.in-Ok.ensures.evaluates (not_object c.args.rows.now w.bindings c.in-Ok.value none) })

pub returns-in-Ok-message_to : goal.returns-in-Ok-message_to
returns-in-Ok-message_to c =
    let m = content c.args.evaluator.now.t.now in
    let this = c.args.evaluator.now.this in
    let w = c.args.work.now in
    let o = c.in-Some-object_in.object in
    let is : object_in c.in-Ok.value ≡ Some o = sym c.object_in.ensures.object ∙ c.in-Some-object_in.is in
    let w1 = c.evaluate.new.work in
    let r = message_given c.in-Ok-message_to.message in
    let g : Evaluates m this (message_on c.args.rows.now w.bindings c.in-Ok.value) w1 (Ok r) c.message_to-2.new.work =
    subst (λ (p : Plan (Option Message)). Evaluates m this p w1 (Ok r) c.message_to-2.new.work)
    (ap (message_to o c.args.rows.now) c.in-Ok.ensures.evaluates.same ∙ sym (an_object c.args.rows.now w.bindings c.in-Ok.value o is)) c.in-Ok-message_to.ensures.evaluates in
    rw c.in-Some.is (record { evaluates = seq_ok m this (ask c.in-Some.row w.bindings) (message_on c.args.rows.now w.bindings) w w1 c.in-Ok.value r c.message_to-2.new.work c.in-Ok.ensures.evaluates g })

pub returns-in-Err-message_to : goal.returns-in-Err-message_to
returns-in-Err-message_to c =
    let m = content c.args.evaluator.now.t.now in
    let this = c.args.evaluator.now.this in
    let w = c.args.work.now in
    let o = c.in-Some-object_in.object in
    let is : object_in c.in-Ok.value ≡ Some o = sym c.object_in.ensures.object ∙ c.in-Some-object_in.is in
    let w1 = c.evaluate.new.work in
    let w2 = c.message_to-2.new.work in
    let w3 = c.cut_cells.new.self in
    let x = c.in-Err-message_to.refusal in
    let g : Evaluates m this (message_on c.args.rows.now w.bindings c.in-Ok.value) w1 (Err x) w2 =
    subst (λ (p : Plan (Option Message)). Evaluates m this p w1 (Err x) w2)
    (ap (message_to o c.args.rows.now) c.in-Ok.ensures.evaluates.same ∙ sym (an_object c.args.rows.now w.bindings c.in-Ok.value o is)) c.in-Err-message_to.ensures.evaluates in
    let cut = c.cut_cells.ensures.cells ∙ ap (λ (k : ℕ). take k w2.state.cells) c.cells-cells.ensures.cells in
    rw c.in-Some.is (record { evaluates = seq_cut m this (ask c.in-Some.row w.bindings) (message_on c.args.rows.now w.bindings) w w1 c.in-Ok.value x w2 w3 c.in-Ok.ensures.evaluates g cut c.cut_cells.ensures.left c.cut_cells.ensures.bindings c.cut_cells.ensures.capacity })
