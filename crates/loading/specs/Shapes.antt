-- What the tables of an accepted model have row by row: types that differ, methods and slots as their rows declare them, class 0.
use Rattle.std.specs.Prelude.{◌≡◌, ℕ, ◌<◌, ◌≤◌, true, false, Some}
use Rattle.std.specs.List.{slice_get}
use Rattle.tables.specs.declared.rows.ClassRow.{ClassRow}
use Rattle.tables.specs.declared.rows.ConstructorRow.{ConstructorRow}
use Rattle.tables.specs.declared.rows.MethodRow.{MethodRow}
use Rattle.tables.specs.Layout.{Content}
use Rattle.tables.specs.Limits.{IsWithinLimits}
use Rattle.placement.specs.Holders.{in_range}
use Rattle.shape.specs.Shape.{is_outside_class}
use Rattle.syntax.specs.declared.types.ValueType.{ValueType}
use Rattle.syntax.specs.declared.types.ValueType.TheVariants as type
use Rattle.syntax.specs.Types.{is_plain_type, type_at}
use Rattle.typing.specs.Scopes.{declared}
use Rattle.typing.specs.Statements.{goes_on}
use Rattle.loading.specs.Laws.{IsClass, IsMethod}

module _ (m : Content) where
  -- The list of a row's slots is there: at most eight, of which at most four are parameters, and each has a type.
  pub record DeclaresSlots (first parameters slots : ℕ) : Type 0 where
    pub few_parameters : parameters ≤ 4
    pub few_slots : slots ≤ 8
    pub among : parameters ≤ slots
    pub types : (k : ℕ) → k < slots → (t : ValueType) × (declared m first slots k ≡ Some t)

  -- An outside class has no fields, and its methods take and give Unit, Bool and Int.
  pub record IsPlainClass (c : ClassRow) : Type 0 where
    pub no_fields : c.fields ≡ 0
    pub parameters : (x : MethodRow) (k : ℕ) (t : ValueType) → IsMethod m c x → k < x.parameters → declared m x.slots_first x.slots k ≡ Some t →
        is_plain_type t ≡ true
    pub results : (x : MethodRow) (t : ValueType) → IsMethod m c x → type_at m x.result ≡ Some t → is_plain_type t ≡ true

  -- Class 0 is there, is not outside and has no fields; its first method is there, takes nothing and returns Unit.
  pub record HasMainClass : Type 0 where
    pub class : ClassRow
    pub class_there : slice_get m.classes 0 ≡ Some class
    pub inside : is_outside_class class ≡ false
    pub no_fields : class.fields ≡ 0
    pub method : MethodRow
    pub method_there : slice_get m.methods class.methods_first ≡ Some method
    pub belongs : in_range class.methods_first class.methods_first class.methods_count ≡ true
    pub takes_nothing : method.parameters ≡ 0
    pub returns_unit : type_at m method.result ≡ Some type.Unit

  -- No two rows are the same type, and no two methods of a class have one name. The result of each method of a class has a type, and so have
  -- its slots, the fields of the class and the parameters of each constructor. A method begins within its statements, if its class is not
  -- outside. Outside classes are plain, class 0 is the main class, and the tables keep their limits.
  pub record WellShaped : Type 0 where
    pub types_differ : (i j : ℕ) (t : ValueType) → type_at m i ≡ Some t → type_at m j ≡ Some t → i ≡ j
    pub names_differ : (c : ClassRow) (i j : ℕ) (x y : MethodRow) → IsClass m c → slice_get m.methods i ≡ Some x → slice_get m.methods j ≡ Some y →
        in_range i c.methods_first c.methods_count ≡ true → in_range j c.methods_first c.methods_count ≡ true → x.name ≡ y.name → i ≡ j
    pub results : (c : ClassRow) (x : MethodRow) → IsClass m c → IsMethod m c x → (t : ValueType) × (type_at m x.result ≡ Some t)
    pub slots : (c : ClassRow) (x : MethodRow) → IsClass m c → IsMethod m c x → DeclaresSlots x.slots_first x.parameters x.slots
    pub fields : (c : ClassRow) → IsClass m c → DeclaresSlots c.fields_first c.parameters c.fields
    pub constructors : (i : ℕ) (k : ConstructorRow) → slice_get m.constructors i ≡ Some k → DeclaresSlots k.first k.count k.count
    pub starts : (c : ClassRow) (x : MethodRow) → IsClass m c → IsMethod m c x → is_outside_class c ≡ false → goes_on x x.statements_first ≡ true
    pub outside : (c : ClassRow) → IsClass m c → is_outside_class c ≡ true → IsPlainClass c
    pub main : HasMainClass
    pub limits : IsWithinLimits m
