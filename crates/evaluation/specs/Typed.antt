-- Values have types, and evaluation keeps them.
use Rattle.std.specs.Prelude.{◌≡◌, ℕ, List, [], take, Some, Option, Result, IfOk, true, ⊤}
use Rattle.std.specs.List.{slice_get}
use Rattle.tables.specs.declared.rows.ClassRow.{ClassRow}
use Rattle.tables.specs.declared.rows.ConstructorRow.{ConstructorRow}
use Rattle.tables.specs.declared.rows.FunctionRow.{FunctionRow}
use Rattle.tables.specs.declared.rows.ListRow.{ListRow}
use Rattle.tables.specs.Layout.{Content}
use Rattle.mapping.specs.Bindings.{lookup}
use Rattle.syntax.specs.declared.types.ValueType.{ValueType}
use Rattle.syntax.specs.declared.types.ValueType.TheVariants as type
use Rattle.syntax.specs.Types.{nullable}
use Rattle.typing.specs.declared.within.Within.{Within}
use Rattle.typing.specs.declared.within.Within.TheVariants as within
use Rattle.typing.specs.ExpressionLaws.{ArgumentsFit, IsFunction, FunctionTyped}
use Rattle.typing.specs.Expressions.{lists_type, type_in}
use Rattle.typing.specs.Patterns.{parameters_of}
use Rattle.typing.specs.Scopes.{Bindings, declared}
use Rattle.evaluation.specs.declared.refusal.EvaluationRefusal.{EvaluationRefusal}
use Rattle.evaluation.specs.declared.value.Value.{Value}
use Rattle.evaluation.specs.declared.value.Value.TheVariants as value
use Rattle.evaluation.specs.Carried.{Work}
use Rattle.evaluation.specs.Plans.{Environment}
use Rattle.evaluation.specs.Stores.{Longer}
use Rattle.evaluation.specs.Values.{Data, HasParts}

-- What the objects and the futures among the values refer to: the class of an object, and the row of the type that a call results in.
pub record Referents : Type 0 where
  pub class_of : ℕ → Option ClassRow
  pub result_of : ℕ → Option ℕ

-- the later referents have all objects and calls of the earlier ones
pub record Extends (known more : Referents) : Type 0 where
  pub objects : (o : ℕ) (c : ClassRow) → known.class_of o ≡ Some c → more.class_of o ≡ Some c
  pub calls : (f r : ℕ) → known.result_of f ≡ Some r → more.result_of f ≡ Some r

module _ (m : Content) (known : Referents) where
  -- an object of a class that lists the type
  abbrev pub IsObject : ℕ → ValueType → Type 0
  IsObject o t = (c : ClassRow) × (known.class_of o ≡ Some c) × (lists_type m c t ≡ true)

  -- the future of a call
  abbrev pub IsFuture : ℕ → ValueType → Type 0
  IsFuture f t = (r : ℕ) × (known.result_of f ≡ Some r) × (t ≡ type.Future r)

  -- a constructor of the data that takes nothing
  abbrev pub IsConstant : ℕ → ValueType → Type 0
  IsConstant c t = (k : ConstructorRow) × (slice_get m.constructors c ≡ Some k) × (parameters_of m k ≡ []) × (t ≡ type.Data k.number)

  -- a cell in use, with a constructor of the data
  abbrev pub IsCell : List Data → ℕ → ValueType → Type 0
  IsCell cells i t =
      (d : Data) × (k : ConstructorRow) × (slice_get cells i ≡ Some d) × (slice_get m.constructors d.constructor ≡ Some k) × (t ≡ type.Data k.number)

  -- What it is that a value has a type.
  abbrev pub Has : List Data → Value → ValueType → Type 0
  Has cells value.Unit t = t ≡ type.Unit
  Has cells (value.Bool b) t = t ≡ type.Bool
  Has cells (value.Int n) t = t ≡ type.Int
  Has cells value.Null t = nullable t ≡ true
  Has cells (value.Object o) t = IsObject o t
  Has cells (value.Future f) t = IsFuture f t
  Has cells (value.Constant c) t = IsConstant c t
  Has cells (value.Cell i) t = IsCell cells i t

  -- Data whose parts have the types of its constructor's parameters, one for one.
  abbrev pub DataTyped : List Data → Data → Type 0
  DataTyped cells d = (k : ConstructorRow) × (slice_get m.constructors d.constructor ≡ Some k) × ArgumentsFit m (Has cells) d.parts (parameters_of m k)

  -- Each cell holds data with parts, typed over the cells before it.
  abbrev pub CellsTyped : List Data → Type 0
  CellsTyped cells = (i : ℕ) (d : Data) → slice_get cells i ≡ Some d → HasParts d × DataTyped (take i cells) d

  -- The slots of a scope are bound to values of their types. In a function every bound slot has a value of the type that it is declared with.
  pub record SlotsTyped (w : Within) (cells : List Data) (s : Environment) (b : Bindings) : Type 0 where
    pub bound : (slot : ℕ) (t : ValueType) → lookup slot b ≡ Some t → (v : Value) × (lookup slot s ≡ Some v) × Has cells v t
    pub declared : (f : FunctionRow) → w ≡ within.Function f → (slot : ℕ) (v : Value) (t : ValueType) → lookup slot s ≡ Some v →
        declared m f.slots_first f.slots slot ≡ Some t → Has cells v t

  -- An object for which a statement's expressions are evaluated is of the statement's class.
  abbrev pub Serves : Within → ℕ → Type 0
  Serves (within.Function f) this = ⊤
  Serves (within.Class c) this = known.class_of this ≡ Some c

  -- A worth of a type, with the cells before the evaluation and after it: a value of the type, over cells that are the earlier ones and
  -- newer ones behind them, and typed.
  pub record Worth (t : ValueType) (earlier : List Data) (v : Value) (later : List Data) : Type 0 where
    pub has : Has later v t
    pub longer : Longer earlier later
    pub typed : CellsTyped later

  -- Worths of the types of parameters, one for one, likewise.
  pub record Worths (xs : List ListRow) (earlier : List Data) (vs : List Value) (later : List Data) : Type 0 where
    pub fit : ArgumentsFit m (Has later) vs xs
    pub longer : Longer earlier later
    pub typed : CellsTyped later

-- Every function's body has the type of the result.
abbrev pub FunctionsTyped : Content → Type 0
FunctionsTyped m = (f : FunctionRow) → IsFunction m f → FunctionTyped m f

-- Evaluation keeps types: where functions, slots, cells and object are typed, the worth of an expression of a type is a value of that
-- type, and the cells are typed still.
abbrev pub KeepsTypes : Content → (this row : ℕ) → Work → Result Value EvaluationRefusal → Work → Type 0
KeepsTypes m this row before answer after =
    FunctionsTyped m → (known : Referents) (w : Within) (b : Bindings) (t : ValueType) → type_in m w row b ≡ Some t → Serves m known w this →
    CellsTyped m known before.state.cells → SlotsTyped m known w before.state.cells before.bindings b →
    IfOk answer (λ v. Worth m known t before.state.cells v after.state.cells)

-- Expressions that are evaluated one after another keep types likewise, where they have the types of parameters, one for one.
abbrev pub KeepsEachType : Content → (this : ℕ) (rows : List ℕ) → Work → Result (List Value) EvaluationRefusal → Work → Type 0
KeepsEachType m this rows before answer after =
    FunctionsTyped m → (known : Referents) (w : Within) (b : Bindings) (xs : List ListRow) → ArgumentsFit m (λ row t. type_in m w row b ≡ Some t) rows xs →
    Serves m known w this → CellsTyped m known before.state.cells → SlotsTyped m known w before.state.cells before.bindings b →
    IfOk answer (λ vs. Worths m known xs before.state.cells vs after.state.cells)

-- Types last: what is typed stays so when objects, calls and cells are added.
pub record TypesLast (m : Content) (known more : Referents) : Type 0 where
  pub values : (earlier later : List Data) (v : Value) (t : ValueType) → Longer earlier later → Has m known earlier v t → Has m more later v t
  pub cells : (cells : List Data) → CellsTyped m known cells → CellsTyped m more cells
  pub slots : (w : Within) (earlier later : List Data) (s : Environment) (b : Bindings) → Longer earlier later →
      SlotsTyped m known w earlier s b → SlotsTyped m more w later s b
