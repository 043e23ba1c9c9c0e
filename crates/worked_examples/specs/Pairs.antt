-- Ints at the ends of their range, and models in which pairs are made, compared and matched.
use Rattle.std.specs.Prelude.{ℕ, ◌-◌, ◌^◌, List, [], ◌∷◌, ℤ, pos, negsuc}
use Rattle.tables.specs.declared.rows.BranchRow.{BranchRow}
use Rattle.tables.specs.declared.rows.FunctionRow.{FunctionRow}
use Rattle.tables.specs.declared.rows.NodeRow.{NodeRow}
use Rattle.tables.specs.Layout.{Content}
use Rattle.evaluation.specs.declared.value.Value.TheVariants as value
use Rattle.evaluation.specs.Values.{Data}

-- the greatest and the least Int, and −1
abbrev pub greatest : ℤ
greatest = pos (2 ^ 63 - 1)

abbrev pub least : ℤ
least = negsuc (2 ^ 63 - 1)

abbrev pub minus : ℕ → ℤ
minus n = negsuc (n - 1)

-- The models of the examples have one data: a first constructor without parts and, in row 1, `Pair` of two.
abbrev pub with_pairs : List FunctionRow → List NodeRow → List BranchRow → Content
with_pairs functions nodes branches = record {
  types = [];
  lists = [];
  constructors = record { number = 0; first = 0; count = 0 } ∷ record { number = 0; first = 0; count = 2 } ∷ [];
  functions = functions;
  interfaces = [];
  signatures = [];
  classes = [];
  methods = [];
  nodes = nodes;
  branches = branches;
  statements = [];
}

-- nodes without children, with one and with two
abbrev pub leaf : (kind reference : ℕ) → NodeRow
leaf kind reference = record { kind = kind; reference = reference; count = 0; p1 = 0; p2 = 0; p3 = 0; p4 = 0 }

abbrev pub over : (kind reference child : ℕ) → NodeRow
over kind reference child = record { kind = kind; reference = reference; count = 1; p1 = child; p2 = 0; p3 = 0; p4 = 0 }

abbrev pub over_two : (kind reference a b : ℕ) → NodeRow
over_two kind reference a b = record { kind = kind; reference = reference; count = 2; p1 = a; p2 = b; p3 = 0; p4 = 0 }

abbrev pub int : ℕ → NodeRow
int n = leaf 3 n

abbrev pub slot : ℕ → NodeRow
slot k = leaf 5 k

abbrev pub variable : ℕ → NodeRow
variable k = leaf 18 k

abbrev pub pair_of : (a b : ℕ) → NodeRow
pair_of a b = over_two 7 1 a b

-- Patterns: the variables in the slots 0 (v) and 1 (w), the number 3, and then Pair(v, v), Pair(w, 3) and Pair(v, w).
abbrev pub pairs : Content
pairs = with_pairs [] (variable 0 ∷ variable 1 ∷ int 3 ∷ pair_of 0 0 ∷ pair_of 1 2 ∷ pair_of 0 1 ∷ []) []

-- the data Pair(x, y)
abbrev pub pair_data : (x y : ℕ) → Data
pair_data x y = record { constructor = 1; parts = value.Int (pos x) ∷ value.Int (pos y) ∷ [] }

-- `Pair(1, 2) == Pair(1, 3)`, in row 6, and `Pair(1, 2) == Pair(3, 2)`, in row 8
abbrev pub equality : Content
equality = with_pairs [] (int 1 ∷ int 2 ∷ pair_of 0 1 ∷ int 1 ∷ int 3 ∷ pair_of 3 4 ∷ over_two 14 0 2 5 ∷ pair_of 4 1 ∷ over_two 14 0 2 7 ∷ []) []

-- A function of p with the body `case p { Pair(v, v) => v; Pair(w, 3) => w; Pair(v, w) => v + w }`, in row 15, where p, v and w are in
-- the slots 0, 1 and 2; in row 19 the call of it with Pair(1, 2), and in row 21 with Pair(2, 2).
abbrev pub case_of_pairs : Content
case_of_pairs = with_pairs (record { result = 0; slots_first = 0; parameters = 1; slots = 3; body = 15 } ∷ [])
    (variable 1 ∷ variable 1 ∷ pair_of 0 1 ∷ slot 1
    ∷ variable 2 ∷ int 3 ∷ pair_of 4 5 ∷ slot 2
    ∷ variable 1 ∷ variable 2 ∷ pair_of 8 9 ∷ slot 1 ∷ slot 2 ∷ over_two 10 0 11 12
    ∷ slot 0 ∷ over 9 0 14
    ∷ int 1 ∷ int 2 ∷ pair_of 16 17 ∷ over 8 0 18 ∷ pair_of 17 17 ∷ over 8 0 20 ∷ [])
    (record { pattern = 2; body = 3; more = 1 } ∷ record { pattern = 6; body = 7; more = 1 } ∷ record { pattern = 10; body = 13; more = 0 } ∷ [])

-- `case Pair(1, 2) { Pair(w, 3) => w; Pair(v, w) => w }`, in row 11, where v and w are in the slots 0 and 1.
abbrev pub case_of_a_pair : Content
case_of_a_pair = with_pairs []
    (variable 1 ∷ int 3 ∷ pair_of 0 1 ∷ slot 1
    ∷ variable 0 ∷ variable 1 ∷ pair_of 4 5 ∷ slot 1
    ∷ int 1 ∷ int 2 ∷ pair_of 8 9 ∷ over 9 0 10 ∷ [])
    (record { pattern = 2; body = 3; more = 1 } ∷ record { pattern = 6; body = 7; more = 0 } ∷ [])
