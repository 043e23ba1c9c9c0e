-- What an accepted model has: types for its functions and its placed statements, methods for the signatures of its interfaces,
-- and a default for each type.
use Rattle.std.specs.Prelude.{◌≡◌, ◌↔◌, ℕ, true, map, Some, Ok, Err, Result, nat_eq, ⊤}
use Rattle.std.specs.List.{position, slice_get}
use Rattle.tables.specs.declared.check.CheckError.{CheckError}
use Rattle.tables.specs.declared.check.CheckError.TheVariants.{NoMemory, Refused}
use Rattle.tables.specs.declared.rows.ClassRow.{ClassRow}
use Rattle.tables.specs.declared.rows.ConstructorRow.{ConstructorRow}
use Rattle.tables.specs.declared.rows.FunctionRow.{FunctionRow}
use Rattle.tables.specs.declared.rows.MethodRow.{MethodRow}
use Rattle.tables.specs.declared.rows.StatementRow.{StatementRow}
use Rattle.tables.specs.Layout.{Content}
use Rattle.placement.specs.Holders.{in_range}
use Rattle.syntax.specs.declared.statements.Statement.{Statement}
use Rattle.syntax.specs.declared.types.ValueType.{ValueType}
use Rattle.syntax.specs.declared.types.ValueType.TheVariants as type
use Rattle.syntax.specs.Statements.{statement_of}
use Rattle.syntax.specs.Types.{type_at}
use Rattle.typing.specs.declared.calls.Heading.{Heading}
use Rattle.typing.specs.declared.rule.TypingRule.{TypingRule}
use Rattle.typing.specs.declared.within.Within.{Within}
use Rattle.typing.specs.ExpressionLaws.{Inverts, IsFunction, FunctionTyped}
use Rattle.typing.specs.Expressions.{type_in, lists_type}
use Rattle.typing.specs.PatternLaws.{InvertsPattern}
use Rattle.typing.specs.Patterns.{pattern_scope}
use Rattle.typing.specs.Scopes.{Bindings, entry_type, method_scope}
use Rattle.typing.specs.StatementLaws.{InvertsStatement}
use Rattle.typing.specs.Statements.{goes_on, heading_parameters, method_heading, method_named, signature_named}

module _ (m : Content) where
  -- a class
  abbrev pub IsClass : ClassRow → Type 0
  IsClass c = (i : ℕ) × (slice_get m.classes i ≡ Some c)

  -- a method of the class, and a statement of the method
  abbrev pub IsMethod : ClassRow → MethodRow → Type 0
  IsMethod c x = (i : ℕ) × (slice_get m.methods i ≡ Some x) × (in_range i c.methods_first c.methods_count ≡ true)

  abbrev pub IsStatement : MethodRow → StatementRow → Type 0
  IsStatement x y = (i : ℕ) × (slice_get m.statements i ≡ Some y) × (goes_on x i ≡ true)

  -- A statement is of a known kind, and keeps the rule of that kind.
  abbrev pub StatementTyped : ClassRow → MethodRow → StatementRow → Type 0
  StatementTyped c x y = (z : Statement) × (statement_of y ≡ Some z) × InvertsStatement m c x (method_scope m c x) z

  -- Two headings of equal types: what they take, one for one, and what they give.
  pub record SameTypes (h k : Heading) : Type 0 where
    pub parameters : map (entry_type m) (heading_parameters m h) ≡ map (entry_type m) (heading_parameters m k)
    pub result : type_at m h.result ≡ type_at m k.result

  -- The class has a method of this name, with the types of the heading.
  abbrev pub Implements : ClassRow → ℕ → Heading → Type 0
  Implements c name h =
      (x : MethodRow) × IsMethod c x × (method_named m c name ≡ Some (method_heading x)) × SameTypes h (method_heading x)

  -- The first constructor of a data, which takes nothing.
  pub record HasFirstConstructor (d : ℕ) : Type 0 where
    pub row : ℕ
    pub constructor : ConstructorRow
    pub first : position (λ x. nat_eq x.number d) m.constructors ≡ Some row
    pub there : slice_get m.constructors row ≡ Some constructor
    pub of_data : constructor.number ≡ d
    pub takes_nothing : constructor.count ≡ 0

  -- The default of a data is its first constructor; the other types have one of their own.
  abbrev pub HasDefault : ValueType → Type 0
  HasDefault type.Unit = ⊤
  HasDefault type.Bool = ⊤
  HasDefault type.Int = ⊤
  HasDefault (type.Data d) = HasFirstConstructor d
  HasDefault (type.Interface i) = ⊤
  HasDefault (type.Future r) = ⊤

  -- Every function is typed, and every statement that is placed.
  pub record WellTyped : Type 0 where
    pub functions : (f : FunctionRow) → IsFunction m f → FunctionTyped m f
    pub statements : (c : ClassRow) (x : MethodRow) (y : StatementRow) → IsClass c → IsMethod c x → IsStatement x y → StatementTyped c x y

  -- What the rules of an accepted model give. Kind by kind they say what a type and a fit mean; the rows of a method's range are
  -- there, a class implements the interfaces that it lists, and each type has a default.
  pub record Lawful : Type 0 where
    pub expressions : (w : Within) (row : ℕ) (s : Bindings) (t : ValueType) → (type_in m w row s ≡ Some t) ↔ Inverts m w row s t
    pub patterns : (f : FunctionRow) (row : ℕ) (s : Bindings) (t : ValueType) (s' : Bindings) →
        (pattern_scope m f row s t ≡ Some s') ↔ InvertsPattern m f row s t s'
    pub rows : (c : ClassRow) (x : MethodRow) (i : ℕ) → IsMethod c x → goes_on x i ≡ true → (y : StatementRow) × (slice_get m.statements i ≡ Some y)
    pub interfaces : (c : ClassRow) (t : ValueType) (name : ℕ) (h : Heading) → IsClass c → lists_type m c t ≡ true → signature_named m t name ≡ Some h →
        Implements c name h
    pub defaults : (row : ℕ) (t : ValueType) → type_at m row ≡ Some t → HasDefault t

-- A read model passes exactly if it is well typed.
abbrev pub PassesTyped : Content → Result (Unit {0}) (CheckError TypingRule) → Type 0
PassesTyped m (Ok done) = WellTyped m
PassesTyped m (Err (Refused f)) = WellTyped m → ⊥
PassesTyped m (Err NoMemory) = ⊤
