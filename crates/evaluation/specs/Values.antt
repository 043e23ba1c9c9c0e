-- Values, and what a value is taken for where a typed expression never asks.
use Rattle.std.specs.Prelude.{ℕ, Bool, Some, None, Option, false, cond, ◌==◌, ◌&&◌, ◌≤◌, nat_lt, List, [], ◌∷◌, ◌++◌, length, take, ℤ, pos}
use Rattle.std.specs.Ordering.{int_eq}
use Rattle.evaluation.specs.declared.value.Cell.{Cell}
use Rattle.evaluation.specs.declared.value.Value.{Value}
use Rattle.evaluation.specs.declared.value.Value.TheVariants as value
use Rattle.evaluation.specs.declared.value.Values.{Values}

-- the number of an Int; any other value counts as 0
abbrev pub int_of : Value → ℤ
int_of value.Unit = pos 0
int_of (value.Bool b) = pos 0
int_of (value.Int n) = n
int_of value.Null = pos 0
int_of (value.Object o) = pos 0
int_of (value.Future f) = pos 0
int_of (value.Constant c) = pos 0
int_of (value.Cell i) = pos 0

-- whether a Bool is True; any other value counts as False
abbrev pub truth_of : Value → Bool
truth_of value.Unit = false
truth_of (value.Bool b) = b
truth_of (value.Int n) = false
truth_of value.Null = false
truth_of (value.Object o) = false
truth_of (value.Future f) = false
truth_of (value.Constant c) = false
truth_of (value.Cell i) = false

-- the first `count` of four values
abbrev pub values_of : Values → List Value
values_of vs = take vs.count vs.values

-- one value more, of four at most
abbrev pub with_value : List Value → Value → List Value
with_value vs v = cond (nat_lt (length vs) 4) (vs ++ v ∷ []) vs

-- Data with parts, as a cell holds it.
pub record Data : Type 0 where
  pub constructor : ℕ
  pub parts : List Value

-- It has one part at least: data without parts takes no cell, and so each value of data has one form.
abbrev pub HasParts : Data → Type 0
HasParts d = 1 ≤ length d.parts

abbrev pub data_of : Cell → Data
data_of c = record { constructor = c.constructor; parts = values_of c.parts }

-- Two values are compared by their kinds and what they hold; data with parts, by the parts in the cells.
abbrev pub value_kind : Value → ℕ
value_kind value.Unit = 0
value_kind (value.Bool b) = 1
value_kind (value.Int n) = 2
value_kind value.Null = 3
value_kind (value.Object o) = 4
value_kind (value.Future f) = 5
value_kind (value.Constant c) = 6
value_kind (value.Cell i) = 7

abbrev pub value_content : Value → ℤ
value_content value.Unit = pos 0
value_content (value.Bool b) = cond b (pos 1) (pos 0)
value_content (value.Int n) = n
value_content value.Null = pos 0
value_content (value.Object o) = pos o
value_content (value.Future f) = pos f
value_content (value.Constant c) = pos c
value_content (value.Cell i) = pos i

abbrev pub same_value : Value → Value → Bool
same_value v w = value_kind v == value_kind w && int_eq (value_content v) (value_content w)

-- the cell that a value is
abbrev pub cell_of : Value → Option ℕ
cell_of value.Unit = None
cell_of (value.Bool b) = None
cell_of (value.Int n) = None
cell_of value.Null = None
cell_of (value.Object o) = None
cell_of (value.Future f) = None
cell_of (value.Constant c) = None
cell_of (value.Cell i) = Some i
