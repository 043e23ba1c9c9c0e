-- Matching: the rule of each kind of pattern. A pattern gives the environment behind it, or nothing where it does not fit the
-- value. Only a variable that is bound compares, and so costs visits.
use Rattle.std.specs.Prelude.{ℕ, true, false, cond, List, [], ◌∷◌, length, zip, Some, None, Option, ◌==◌, nat_lt}
use Rattle.std.specs.Int.{w16, cast_signed}
use Rattle.mapping.specs.Bindings.{lookup}
use Rattle.syntax.specs.declared.nodes.Node.{Node}
use Rattle.syntax.specs.declared.nodes.Node.TheVariants as node
use Rattle.syntax.specs.declared.nodes.Parts.{Parts}
use Rattle.syntax.specs.Descent.{descend}
use Rattle.syntax.specs.Nodes.{parts, node_at}
use Rattle.syntax.specs.Rows.{when}
use Rattle.tables.specs.Layout.{Content}
use Rattle.evaluation.specs.declared.value.Value.{Value}
use Rattle.evaluation.specs.declared.value.Value.TheVariants as value
use Rattle.evaluation.specs.Plans.{Environment, Plan, done, ◌>>=◌, compare, cell_at}
use Rattle.evaluation.specs.Values.{Data, truth_of, same_value}

-- what a pattern answers
abbrev pub Fit : Type 0
Fit = Plan (Option Environment)

abbrev pub no_fit : Fit
no_fit = done None

-- the number that 16 bits spell
abbrev pub literal : ℕ → Value
literal n = value.Int (cast_signed w16 n)

-- a literal fits its own value
abbrev pub literal_fit : Environment → Value → Value → Fit
literal_fit s own v = done (when (same_value own v) (Some s))

-- a variable that is bound fits an equal value; any other is bound, if it is one of the eight slots of a function
abbrev pub bound_fit : Environment → Value → Value → Fit
bound_fit s w v = compare w v >>= (λ b. done (when (truth_of b) (Some s)))

abbrev pub variable_fit : Environment → ℕ → Value → Option Value → Fit
variable_fit s slot v None = done (when (nat_lt slot 8) (Some (record { slot = slot; entry = v } ∷ s)))
variable_fit s slot v (Some w) = bound_fit s w v

-- The rules, over `child`: what a pattern in a lower row answers.
module _ (child : ℕ → Environment → Value → Fit) where
  -- the parts fit the children, left to right, one for one
  abbrev pub pairs_fit : List (ℕ × Value) → Environment → Fit
  pairs_fit [] s = done (Some s)
  pairs_fit (p ∷ ps) s = child p.0 s p.1 >>= (λ o. elim o as (λ o. Fit) [ None ↦ no_fit | Some s' ↦ pairs_fit ps s' ])

  abbrev pub parts_fit : List ℕ → List Value → Environment → Fit
  parts_fit ns vs s = cond (length ns == length vs) (pairs_fit (zip ns vs) s) no_fit

  -- a constructor fits data of that constructor, whose parts fit
  abbrev pub data_fit : Environment → ℕ → Parts → Option Data → Fit
  data_fit s c ps None = no_fit
  data_fit s c ps (Some d) = cond (d.constructor == c) (parts_fit (parts ps) d.parts s) no_fit

  abbrev pub constructor_fit : Environment → ℕ → Parts → Value → Fit
  constructor_fit s c ps value.Unit = no_fit
  constructor_fit s c ps (value.Bool b) = no_fit
  constructor_fit s c ps (value.Int n) = no_fit
  constructor_fit s c ps value.Null = no_fit
  constructor_fit s c ps (value.Object o) = no_fit
  constructor_fit s c ps (value.Future f) = no_fit
  constructor_fit s c ps (value.Constant k) = data_fit s c ps (Some (record { constructor = k; parts = [] }))
  constructor_fit s c ps (value.Cell i) = cell_at i >>= data_fit s c ps

  -- The rule of each kind.
  abbrev pub fit_rule : Environment → Value → Node → Fit
  fit_rule s v node.Unit = literal_fit s value.Unit v
  fit_rule s v node.False = literal_fit s (value.Bool false) v
  fit_rule s v node.True = literal_fit s (value.Bool true) v
  fit_rule s v (node.Int n) = literal_fit s (literal n) v
  fit_rule s v (node.Null r) = literal_fit s value.Null v
  fit_rule s v (node.Slot slot) = no_fit
  fit_rule s v (node.This r) = no_fit
  fit_rule s v (node.Constructor c ps) = constructor_fit s c ps v
  fit_rule s v (node.Function f ps) = no_fit
  fit_rule s v (node.Case e b) = no_fit
  fit_rule s v (node.Add a b) = no_fit
  fit_rule s v (node.Subtract a b) = no_fit
  fit_rule s v (node.Divide a b) = no_fit
  fit_rule s v (node.Less a b) = no_fit
  fit_rule s v (node.Equal a b) = no_fit
  fit_rule s v (node.Not a) = no_fit
  fit_rule s v (node.And a b) = no_fit
  fit_rule s v node.Wildcard = done (Some s)
  fit_rule s v (node.Variable slot) = variable_fit s slot v (lookup slot s)

-- what a row answers that is not lower, or no node
abbrev pub never_fits : Environment → Value → Fit
never_fits s v = no_fit

abbrev pub fit_known : (ℕ → Environment → Value → Fit) → Environment → Value → Option Node → Fit
fit_known child s v None = no_fit
fit_known child s v (Some n) = fit_rule child s v n

abbrev pub fit_step : Content → ℕ → (ℕ → Environment → Value → Fit) → Environment → Value → Fit
fit_step m row child s v = fit_known child s v (node_at m row)

-- The rules tied together: what the pattern in a row answers.
unfoldable pub fit_of : Content → (row : ℕ) → Environment → Value → Fit
fit_of m = descend never_fits (fit_step m)
