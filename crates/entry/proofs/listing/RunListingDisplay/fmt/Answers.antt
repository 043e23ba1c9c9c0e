use Rattle.std.proofs.Common.{◌≡◌, ◌∷◌, ◌++◌, [], length, suc, vec_items, rules, refl, ap, arith, length-append}
use Rattle.std.proofs.Output.{has_written_append, has_written_of_eq}
use Rattle.std.proofs.lemmas.Slice.Zip.{zip_turn, zip_end}
use Rattle.run.specs.Openings.{numbers}
use Rattle.entry.specs.Listings.{account_text, choice_line, line}
use Rattle.entry.proofs.Lines.{lines_more, lines_all}
use Rattle.entry.proofs.listing.RunListingDisplay.fmt.Goals as goal

pub loop-choice-preserved : goal.loop-choice-preserved
loop-choice-preserved g c =
    let ns = vec_items c.args.self.now.choices in
    let rs = vec_items c.args.self.now.run.answers in
    let k = length c.loop-choice.yielded in
    let t = zip_turn ns rs c.loop-choice.yielded c.into_iter-choice-iterator.result c.loop-choice.choice-iterator c.next.new.self c.next.result (search rules) (search rules) c.loop-choice.yielded_by
    (c.in-Some.choice, c.in-Some.answer) (search rules) (search rules) in
    let next : length (c.loop-choice.yielded ++ (c.in-Some.choice, c.in-Some.answer) ∷ []) ≡ suc k = simp length-append (omega arith) in
    λ plain. let so_far = c.loop-choice.invariant plain in
    rw next (has_written_of_eq _ _ _ _ _ (lines_more k ns rs c.in-Some.choice.now c.in-Some.answer.now t.0 t.1 (t.2 0) t.3)
    (has_written_append _ _ _ _ (choice_line c.in-Some.choice.now c.in-Some.answer.now) _ so_far (c.in_ok-write.ensures.writes so_far.plain refl)))

pub returns-clause-writes : goal.returns-clause-writes
returns-clause-writes g c =
    let ns = vec_items c.args.self.now.choices in
    let rs = vec_items c.args.self.now.run.answers in
    let k = length c.loop-choice.yielded in
    let last = zip_end ns rs c.loop-choice.yielded c.into_iter-choice-iterator.result c.loop-choice.choice-iterator c.next.new.self c.next.result (search rules) (search rules) c.loop-choice.yielded_by (search rules) (search rules) in
    let text = line (account_text (numbers c.args.self.now.run.account)) in
    λ plain ok. let so_far = c.loop-choice.invariant plain in
    has_written_of_eq _ _ _ _ _ (ap (λ bs. bs ++ text) (lines_all k ns rs last)) (has_written_append _ _ _ _ text _ so_far (c.writeln.ensures.writes so_far.plain ok))
