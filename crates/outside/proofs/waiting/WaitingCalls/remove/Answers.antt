use Rattle.std.proofs.Common.{◌≡◌, rules, eqb, not, tests, refl}
use Rattle.std.proofs.lemmas.Fn.{filter_same}
use Rattle.outside.specs.Calls.{others}
use Rattle.outside.proofs.Calls.{distinct_others}
use Rattle.outside.proofs.waiting.WaitingCalls.remove.Given.{Over}
use Rattle.outside.proofs.waiting.WaitingCalls.remove.Goals as goal

-- `retain` leaves the calls with another number
kept : (g : Over) (c : goal.After-retain g) → c.retain.new.self.items ≡ others c.args.call c.self.inside.calls.items
kept g c = filter_same _ (λ b. not (eqb b.call c.args.call)) _ (λ x b f' k. search (rules, tests)) _ _ c.retain.ensures.filtered

pub invariant_of-self : goal.invariant_of-self
invariant_of-self g c = (search rules, search rules, rw (kept g c) (distinct_others c.args.call _ c.self.invariant.2))

pub returns-clause-others : goal.returns-clause-others
returns-clause-others g c = rw (kept g c, c.self.view_is) refl
