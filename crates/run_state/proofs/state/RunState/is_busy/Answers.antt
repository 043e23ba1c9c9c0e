use Rattle.std.proofs.Common.{ℕ, Option, ap, sym, ◌∙◌, arith}
use Rattle.std.specs.Prelude.{nat_lt}
use Rattle.std.specs.Option.{unwrap_or}
use Rattle.run_state.proofs.Keeping.{busy_is, no_busy}
use Rattle.run_state.specs.States.{state_seen}
use Rattle.run_state.proofs.state.RunState.is_busy.Goals as goal

pub returns-in-Some : goal.returns-in-Some
returns-in-Some c =
    let read = c.unwrap_or.ensures ∙ ap (λ (o : Option ℕ). unwrap_or o 0) c.copied.ensures ∙ c.get.ensures.lookup.4 (omega arith) 0 in
    rw (c.in-Some.is, ← c.self.view_is) (record { busy = ap (nat_lt 0) read ∙ busy_is c.in-Some.group c.self.invariant.consistent })

pub returns-in-None : goal.returns-in-None
returns-in-None c = rw (c.in-None.is, ← c.self.view_is) (record { busy = sym (no_busy (state_seen c.self.inside)) })
