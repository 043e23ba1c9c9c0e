-- Plans: what an evaluation does, step by step. The rule of each kind of node is a plan; what holds of all evaluations is proved
-- once, over plans.
use Rattle.std.specs.Prelude.{ℕ, List, Ok, Err, Option, Result}
use Rattle.mapping.specs.declared.mapping.Binding.{Binding}
use Rattle.evaluation.specs.declared.refusal.EvaluationRefusal.{EvaluationRefusal}
use Rattle.evaluation.specs.declared.value.Value.{Value}
use Rattle.evaluation.specs.Values.{Data}

-- the slots that are bound where an expression stands, with their values, the newest first
abbrev pub Environment : Type 0
Environment = List (Binding Value)

-- What a visit is spent on: a node in an environment, or two values that are compared.
pub data Task : Type 0 where
  node : (row : ℕ) → Environment → Task
  pair : Value → Value → Task

-- A plan ends with an answer or a refusal, or it has a task visited, makes a cell or reads one, and goes on with what that gave.
pub data Plan (A : Type 0) : Type 0 where
  done : A → Plan A
  refuse : EvaluationRefusal → Plan A
  visit : Task → (Value → Plan A) → Plan A
  make : Data → (ℕ → Plan A) → Plan A
  read : ℕ → (Option Data → Plan A) → Plan A

-- one plan after another; a refusal ends both
infixl 20 ◌>>=◌
abbrev pub ◌>>=◌ : {A B : Type 0} → Plan A → (A → Plan B) → Plan B
done a >>= f = f a
refuse e >>= f = refuse e
visit task k >>= f = visit task (λ v. k v >>= f)
make d k >>= f = make d (λ i. k i >>= f)
read i k >>= f = read i (λ d. k d >>= f)

-- the worth of a node, whether two values are the same, the number of a new cell, what a cell holds
abbrev pub ask : ℕ → Environment → Plan Value
ask row s = visit (node row s) (λ v. done v)

abbrev pub compare : Value → Value → Plan Value
compare v w = visit (pair v w) (λ b. done b)

abbrev pub new_cell : Data → Plan ℕ
new_cell d = make d (λ i. done i)

abbrev pub cell_at : ℕ → Plan (Option Data)
cell_at i = read i (λ d. done d)

-- an answer that is known
abbrev pub give : {A : Type 0} → Result A EvaluationRefusal → Plan A
give (Ok a) = done a
give (Err e) = refuse e
