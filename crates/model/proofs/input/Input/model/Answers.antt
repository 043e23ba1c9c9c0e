use Rattle.std.proofs.Common.{◌≡◌, ℕ, ◌+◌, List, length, get_or, vec_items, sym, ap, ◌∙◌, arith}
use Rattle.tables.specs.Layout.{stated_length}
use Rattle.model.proofs.Inputs.{cut_short, kept_whole, long_version, long_counts}
use Rattle.model.proofs.input.Input.model.Goals as goal
use Rattle.model.proofs.input.Input.model.Goals.{After-stated_length-end}

-- where the model ends, by what is kept
ending : (c : goal.After-stated_length-end) → c.stated_length-end.result + 4 ≡ stated_length (vec_items c.args.self.kept) + 4
ending c = ap (λ n. n + 4) (c.stated_length-end.ensures.stated ∙ ap stated_length c.as_slice.ensures.value)

pub returns-then-end-self : goal.returns-then-end-self
returns-then-end-self c = record {
  model = λ input h. rw c.header_fault.ensures.fault
      (cut_short c.args.self input h (c.stated_length-end.result + 4) (ending (goal.at.returns-then-end-self c).After-stated_length-end)
      (omega (arith, c.stated_length-end.ensures.bound)) c.if-end-self.true);
}

pub returns-then-end-len : goal.returns-then-end-len
returns-then-end-len c = record {
  model = λ input h. c.truncate.ensures.items
      ∙ kept_whole c.args.self input h (c.stated_length-end.result + 4) (ending (goal.at.returns-then-end-len c).After-stated_length-end) (omega (arith, c.if-end-len.true, c.len.ensures, c.as_slice.ensures.len, ap length c.as_slice.ensures.value));
}

pub returns-then-byte-ne1 : goal.returns-then-byte-ne1
returns-then-byte-ne1 c =
    let value = c.as_slice-2.ensures.value in
    record {
      model = λ input h. rw c.header_fault-then-byte-ne1.ensures.fault
          (long_version c.args.self input h (c.stated_length-end.result + 4) (ending (goal.at.returns-then-byte-ne1 c).After-stated_length-end)
          (omega (arith, c.if-end-len.false, c.len.ensures, c.as_slice.ensures.len, ap length c.as_slice.ensures.value)) c.if-end-self.false
          (λ one. c.if-byte-ne1.true (c.byte.ensures.byte ∙ ap (λ (xs : List ℕ). get_or xs 4 0) value ∙ one)));
    }

pub returns : goal.returns
returns c =
    let value = c.as_slice-2.ensures.value in
    record {
      model = λ input h. rw c.header_fault-2.ensures.fault
          (long_counts c.args.self input h (c.stated_length-end.result + 4) (ending (goal.at.returns c).After-stated_length-end)
          (omega (arith, c.if-end-len.false, c.len.ensures, c.as_slice.ensures.len, ap length c.as_slice.ensures.value)) c.if-end-self.false
          (ap (λ (xs : List ℕ). get_or xs 4 0) (sym value) ∙ sym c.byte.ensures.byte ∙ c.if-byte-ne1.false));
    }
