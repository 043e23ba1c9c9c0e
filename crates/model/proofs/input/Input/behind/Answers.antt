use Rattle.std.proofs.Common.{◌≡◌, ◌+◌, min, length, vec_items, ap, ◌∙◌, arith, length-drop}
use Rattle.tables.specs.Layout.{stated_length}
use Rattle.model.proofs.Inputs.{kept_behind}
use Rattle.model.proofs.input.Input.behind.Goals as goal

pub returns : goal.returns
returns c =
    let kept = vec_items c.args.self.now.kept in
    let same = c.as_slice-kept.ensures.value in
    let stated : c.stated_length.result ≡ stated_length kept = c.stated_length.ensures.stated ∙ ap stated_length same in
    let end : c.min-end.result ≡ min (length kept) (stated_length kept + 4) = omega (arith, c.min-end.ensures, c.as_slice-kept.ensures.len, ap length same, stated) in
    record { behind = λ input h none. rw same (kept_behind c.args.self.now input h none c.min-end.result c.min.result end (simp length-drop (omega (arith, c.min.ensures, ap length same)))) }
