-- Functions and statements that have a type, and which places break the typing rules.
use Rattle.std.specs.Prelude.{ℕ, Bool, false, cond, not, [], ◌∷◌, Some, None, Option, ◌==◌, slice_index_or}
use Rattle.std.specs.List.{slice_get}
use Rattle.tables.specs.declared.place.Fault.{Fault}
use Rattle.tables.specs.declared.place.Table.{Table}
use Rattle.tables.specs.declared.place.Table.TheVariants as table
use Rattle.tables.specs.declared.rows.ClassRow.{ClassRow}
use Rattle.tables.specs.declared.rows.FunctionRow.{FunctionRow}
use Rattle.tables.specs.declared.rows.MethodRow.{MethodRow}
use Rattle.tables.specs.declared.rows.StatementRow.{StatementRow}
use Rattle.tables.specs.Layout.{Content}
use Rattle.tables.specs.Least.{Case, verdict_of}
use Rattle.tables.specs.Places.{table_number}
use Rattle.rules.specs.Faults.{places, table_fault}
use Rattle.rules.specs.Words.{at, passes}
use Rattle.placement.specs.Holders.{Holders, method_classes, statement_methods}
use Rattle.syntax.specs.Rows.{given}
use Rattle.syntax.specs.Statements.{statement_of}
use Rattle.syntax.specs.Types.{type_at, agree}
use Rattle.typing.specs.declared.judge.Placed.{Placed}
use Rattle.typing.specs.declared.rule.TypingRule.{TypingRule}
use Rattle.typing.specs.declared.rule.TypingRule.TheVariants as rule
use Rattle.typing.specs.declared.within.Within.TheVariants as within
use Rattle.typing.specs.Expressions.{type_in}
use Rattle.typing.specs.Scopes.{function_scope, method_scope}
use Rattle.typing.specs.Statements.{statement_rule}

-- the number under which a breach is reported
abbrev pub typing_number : TypingRule → ℕ
typing_number rule.Function = 7
typing_number rule.Statement = 8

-- A function's body has the type of its result.
abbrev pub function_typed : Content → FunctionRow → Bool
function_typed m f = agree (type_in m (within.Function f) f.body (function_scope m f)) (type_at m f.result)

-- A statement keeps the rule of its kind.
abbrev pub statement_typed : Content → ClassRow → MethodRow → StatementRow → Bool
statement_typed m c x y = passes (statement_of y) (statement_rule m c (method_scope m c x) x)

-- Where a statement stands: its method and the method's class, if there are both.
abbrev pub placed_in : Content → (methods classes : Holders) → ℕ → Option Placed
placed_in m methods classes r =
    given (slice_index_or methods r None) (λ method. given (slice_get m.methods method.row) (λ x.
    given (slice_index_or classes method.row None) (λ class. given (slice_get m.classes class.row) (λ c.
    Some (record { class = c; method = x })))))

-- A placed statement that does not keep its rule.
abbrev pub untyped_in : Content → (methods classes : Holders) → ℕ → StatementRow → Bool
untyped_in m methods classes r y = passes (placed_in m methods classes r) (λ p. not (statement_typed m p.class p.method y))

-- The first function without a type, and the first placed statement without one.
abbrev pub untyped_function : Content → Option (Fault TypingRule)
untyped_function m = table_fault m.functions (λ r f. not (function_typed m f)) rule.Function table.Functions

abbrev pub untyped_statement : Content → (methods classes : Holders) → Option (Fault TypingRule)
untyped_statement m methods classes = table_fault m.statements (untyped_in m methods classes) rule.Statement table.Statements

-- a rule that only rows of one table can break
abbrev pub only_in : Table → (ℕ → Bool) → Table → ℕ → Bool
only_in own test t r = cond (table_number t == table_number own) (test r) false

-- Which places break which rule.
abbrev pub typing_broken : Content → TypingRule → Table → ℕ → Bool
typing_broken m rule.Function = only_in table.Functions (λ r. at m.functions r (λ f. not (function_typed m f)))
typing_broken m rule.Statement = only_in table.Statements (λ r. at m.statements r (untyped_in m (statement_methods m) (method_classes m) r))

-- What the typing rules judge: a model's rows, and which place breaks which rule.
abbrev pub typing_case : Content → Case TypingRule
typing_case m = record { rules = rule.Function ∷ rule.Statement ∷ []; rows = places m; broken = typing_broken m }

-- The least typing fault.
unfoldable pub typing_verdict : Content → Option (Fault TypingRule)
typing_verdict m = verdict_of (typing_case m)
