use Rattle.std.proofs.Common.{rules, eqb, tests, ap, ◌∙◌}
use Rattle.std.proofs.lemmas.Iterator.Search.{find_from_yields_List}
use Rattle.std.proofs.lemmas.Iterator.Consumers.{YieldsList-from_deque}
use Rattle.outside.specs.Calls.{find_call}
use Rattle.outside.proofs.waiting.WaitingCalls.find.Goals as goal

pub returns : goal.returns
returns g c =
    let found = find_from_yields_List (λ b. eqb b.call c.args.call) _ _ c.find.result c.find.ensures.ran (YieldsList-from_deque c.self.inside.calls.items c.iter.ensures.rest) (λ x b q k. search (rules, tests)) in
    record { call = c.copied.ensures ∙ found ∙ ap (find_call c.args.call) c.self.view_is }
