-- The rule of each kind of node: a plan for its worth, in an environment and for an object. Children are visited left to right,
-- all of them. What is not there has the worth Unit, which in a typed expression is never asked.
use Rattle.std.specs.Prelude.{ℕ, ◌+◌, true, false, cond, not, ◌&&◌, List, [], ◌∷◌, ◌++◌, length, zip, Some, None, Option, ◌==◌, int_lt}
use Rattle.std.specs.List.{slice_get}
use Rattle.std.specs.Option.{unwrap_or}
use Rattle.tables.specs.declared.rows.BranchRow.{BranchRow}
use Rattle.tables.specs.declared.rows.FunctionRow.{FunctionRow}
use Rattle.tables.specs.Layout.{Content}
use Rattle.mapping.specs.Bindings.{lookup}
use Rattle.syntax.specs.declared.nodes.Node.{Node}
use Rattle.syntax.specs.declared.nodes.Node.TheVariants as node
use Rattle.syntax.specs.Nodes.{parts, node_at}
use Rattle.typing.specs.Expressions.{branches_of}
use Rattle.evaluation.specs.declared.refusal.EvaluationRefusal.TheVariants.{NoBranch}
use Rattle.evaluation.specs.declared.value.Value.{Value}
use Rattle.evaluation.specs.declared.value.Value.TheVariants as value
use Rattle.evaluation.specs.Arithmetic.{sum, difference, quotient}
use Rattle.evaluation.specs.Matching.{literal, fit_of}
use Rattle.evaluation.specs.Plans.{Environment, Task, Plan, done, refuse, ◌>>=◌, ask, compare, new_cell, cell_at, give}
use Rattle.evaluation.specs.Refusals.{answered}
use Rattle.evaluation.specs.Values.{Data, int_of, truth_of, cell_of, same_value}

-- the worths of nodes, one after another, behind those that there are
abbrev pub gathered : List Value → List ℕ → Environment → Plan (List Value)
gathered vs [] s = done vs
gathered vs (n ∷ ns) s = ask n s >>= (λ v. gathered (vs ++ v ∷ []) ns s)

abbrev pub all_of : List ℕ → Environment → Plan (List Value)
all_of ns s = gathered [] ns s

-- the worths of two operands, the left one first
abbrev pub beside : Value → Value → Plan (Value × Value)
beside x y = done (x, y)

abbrev pub right : ℕ → Environment → Value → Plan (Value × Value)
right b s x = ask b s >>= beside x

abbrev pub operands : ℕ → ℕ → Environment → Plan (Value × Value)
operands a b s = ask a s >>= right b s

-- What an operator makes of the worths of its operands.
abbrev pub add : Value × Value → Plan Value
add p = done (value.Int (sum (int_of p.0) (int_of p.1)))

abbrev pub subtract : Value × Value → Plan Value
subtract p = done (value.Int (difference (int_of p.0) (int_of p.1)))

abbrev pub divide : Value × Value → Plan Value
divide p = give (answered value.Int (quotient (int_of p.0) (int_of p.1)))

abbrev pub less : Value × Value → Plan Value
less p = done (value.Bool (int_lt (int_of p.0) (int_of p.1)))

abbrev pub equal : Value × Value → Plan Value
equal p = compare p.0 p.1

abbrev pub both_true : Value × Value → Plan Value
both_true p = done (value.Bool (truth_of p.0 && truth_of p.1))

abbrev pub negated : Value → Plan Value
negated x = done (value.Bool (not (truth_of x)))

-- data of a constructor: with parts it takes a cell, without it takes none
abbrev pub cell_value : ℕ → Plan Value
cell_value i = done (value.Cell i)

abbrev pub built : ℕ → List Value → Plan Value
built c [] = done (value.Constant c)
built c (v ∷ vs) = new_cell (record { constructor = c; parts = v ∷ vs }) >>= cell_value

-- a function's body sees its arguments alone, in the slots from 0 on
abbrev pub bound_from : ℕ → List Value → Environment → Environment
bound_from k [] s = s
bound_from k (v ∷ vs) s = bound_from (k + 1) vs (record { slot = k; entry = v } ∷ s)

abbrev pub called : Option FunctionRow → List Value → Plan Value
called None vs = done value.Unit
called (Some f) vs = ask f.body (bound_from 0 vs [])

-- two values are the same; of two cells the constructors, and then the parts, up to the first difference
abbrev pub same_pairs : List (Value × Value) → Plan Value
same_pairs [] = done (value.Bool true)
same_pairs (p ∷ ps) = compare p.0 p.1 >>= (λ b. cond (truth_of b) (same_pairs ps) (done (value.Bool false)))

abbrev pub same_parts : List Value → List Value → Plan Value
same_parts vs ws = cond (length vs == length ws) (same_pairs (zip vs ws)) (done (value.Bool false))

abbrev pub same_data : Option Data → Option Data → Plan Value
same_data None d = done (value.Bool false)
same_data (Some a) None = done (value.Bool false)
same_data (Some a) (Some b) = cond (a.constructor == b.constructor) (same_parts a.parts b.parts) (done (value.Bool false))

abbrev pub same_cells : ℕ → ℕ → Plan Value
same_cells i j = do
  a ← cell_at i
  b ← cell_at j
  same_data a b

abbrev pub pair_as : Value → Value → Option ℕ → Option ℕ → Plan Value
pair_as v w None j = done (value.Bool (same_value v w))
pair_as v w (Some i) None = done (value.Bool (same_value v w))
pair_as v w (Some i) (Some j) = same_cells i j

abbrev pub pair_rule : Value → Value → Plan Value
pair_rule v w = pair_as v w (cell_of v) (cell_of w)

module _ (m : Content) (this : ℕ) where
  -- the worth of a branch's body, if its pattern fits
  abbrev pub some_worth : Value → Plan (Option Value)
  some_worth x = done (Some x)

  abbrev pub body_of : BranchRow → Option Environment → Plan (Option Value)
  body_of b None = done None
  body_of b (Some s) = ask b.body s >>= some_worth

  abbrev pub taken : Environment → Value → BranchRow → Plan (Option Value)
  taken s v b = fit_of m b.pattern s v >>= body_of b

  abbrev pub next_branch : Plan Value → Option Value → Plan Value
  next_branch rest None = rest
  next_branch rest (Some x) = done x

  -- the first branch that fits is taken; a branch that does not leaves no binding behind
  abbrev pub chosen : Environment → Value → List BranchRow → Plan Value
  chosen s v [] = refuse NoBranch
  chosen s v (b ∷ bs) = taken s v b >>= next_branch (chosen s v bs)

  -- The rule of each kind.
  abbrev pub node_rule : Environment → Node → Plan Value
  node_rule s node.Unit = done value.Unit
  node_rule s node.False = done (value.Bool false)
  node_rule s node.True = done (value.Bool true)
  node_rule s (node.Int n) = done (literal n)
  node_rule s (node.Null r) = done value.Null
  node_rule s (node.Slot slot) = done (unwrap_or (lookup slot s) value.Unit)
  node_rule s (node.This r) = done (value.Object this)
  node_rule s (node.Constructor c ps) = all_of (parts ps) s >>= built c
  node_rule s (node.Function f ps) = all_of (parts ps) s >>= called (slice_get m.functions f)
  node_rule s (node.Case e first) = ask e s >>= (λ v. chosen s v (branches_of m first))
  node_rule s (node.Add a b) = operands a b s >>= add
  node_rule s (node.Subtract a b) = operands a b s >>= subtract
  node_rule s (node.Divide a b) = operands a b s >>= divide
  node_rule s (node.Less a b) = operands a b s >>= less
  node_rule s (node.Equal a b) = operands a b s >>= equal
  node_rule s (node.Not a) = ask a s >>= negated
  node_rule s (node.And a b) = operands a b s >>= both_true
  node_rule s node.Wildcard = done value.Unit
  node_rule s (node.Variable slot) = done value.Unit

  abbrev pub known_rule : Environment → Option Node → Plan Value
  known_rule s None = done value.Unit
  known_rule s (Some n) = node_rule s n

  -- What a visit does.
  abbrev pub rule : Task → Plan Value
  rule (Task.node row s) = known_rule s (node_at m row)
  rule (Task.pair v w) = pair_rule v w
