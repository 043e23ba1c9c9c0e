-- The typing verdict: the first function without a type, or else the first placed statement without one.
use Rattle.std.proofs.Common.{◌≡◌, ℕ, None, Option, sym, refl}
use Rattle.tables.specs.declared.place.Fault.{Fault}
use Rattle.tables.specs.Layout.{Content}
use Rattle.tables.specs.Least.{first_below, or_else, under_rule}
use Rattle.tables.proofs.First.{below_none, none_after}
use Rattle.placement.specs.Holders.{method_classes, statement_methods}
use Rattle.typing.specs.declared.rule.TypingRule.{TypingRule}
use Rattle.typing.specs.declared.rule.TypingRule.TheVariants as rule
use Rattle.typing.specs.Typing.{untyped_function, untyped_statement, typing_case, typing_verdict}

-- a table that the rule does not ask has no fault
no_fault : {B : Type 0} (n : ℕ) → ◌≡◌ {A = Option B} None (first_below (λ r. None) n)
no_fault n = sym (below_none (λ r. None) n (λ k lt. refl))

module _ (m : Content) where
  abbrev pub statements : Option (Fault TypingRule)
  statements = untyped_statement m (statement_methods m) (method_classes m)

  by_functions : under_rule (typing_case m) rule.Function ≡ untyped_function m
  by_functions = simp (← no_fault) (none_after (untyped_function m))

  by_statements : under_rule (typing_case m) rule.Statement ≡ statements
  by_statements = simp (← no_fault) (none_after statements)

  pub verdict_by : typing_verdict m ≡ or_else (untyped_function m) statements
  unfolding typing_verdict
  verdict_by = rw (by_functions, by_statements, none_after statements)
