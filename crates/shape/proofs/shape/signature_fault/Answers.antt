use Rattle.std.proofs.Common.{◌≡◌, ◌+◌, length, sym, ◌∙◌, arith, rules}
use Rattle.std.proofs.lemmas.Bool.{eqb-true}
use Rattle.std.proofs.lemmas.List.{nil_from_length}
use Rattle.tables.specs.Layout.{content}
use Rattle.shape.proofs.Earliest.{moves_on}
use Rattle.shape.proofs.Shared.{unasked_signatures, signature_passes, signature_breaks}
use Rattle.shape.proofs.shape.signature_fault.Goals as goal

pub returns-then-is_empty : goal.returns-then-is_empty
returns-then-is_empty c =
    let t = c.args.t.now in
    let none : length (content t).interfaces ≡ 0 = omega (arith, eqb-true _ _ (sym c.is_empty.ensures ∙ c.if-is_empty.true), t.interfaces.ok.0) in
    record { first = unasked_signatures (content t) (nil_from_length (content t).interfaces none) }

pub returns-then-named_between : goal.returns-then-named_between
returns-then-named_between c =
    search (rules, signature_breaks (content c.args.t.now) c.loop-row.row c.earliest_since-first.result c.named_between.result)

pub loop-row-preserved : goal.loop-row-preserved
loop-row-preserved c =
    let m = content c.args.t.now in
    let r = c.loop-row.row in (
      search (rules, signature_passes m r c.earliest_since-first.result c.named_between.result),
      rw c.earliest_since-first.ensures.earliest (moves_on r (r + 1) r m.interfaces (omega arith) (omega arith)),
      search rules,
    )
