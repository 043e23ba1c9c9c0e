-- What the rules of the tables give of types, classes, methods and constructors.
use Rattle.std.proofs.Common.{◌≡◌, ℕ, ◌+◌, ◌-◌, ◌<◌, ◌≤◌, Bool, true, false, cond, not, ◌&&◌, ◌||◌, ◌==◌, List, [], ◌∷◌, length, get_or, take, Some, None, Option, refl, sym, ap, ◌∙◌, inl, inr, arith, eqb-true, leb-false, ltb-false}
use Rattle.std.specs.Prelude.{⊤, nat_lt, nat_eq}
use Rattle.std.specs.List.{list_any, slice_get}
use Rattle.std.proofs.lemmas.Bool.{and_from, cases_Bool, cases_lt, cases_order, eq-eqb, eqb-false, false≢true, le-leb, lt-ltb, not-false, true≢false}
use Rattle.std.proofs.lemmas.Option.{none-some, slice_get_within, slice_get-get_or}
use Rattle.tables.specs.declared.kinds.TypeKind.{TypeKind}
use Rattle.tables.specs.declared.kinds.TypeKind.TheVariants as kind
use Rattle.tables.specs.declared.place.Table.TheVariants as table
use Rattle.tables.specs.declared.place.TableRule.TheVariants.{Range, Shape}
use Rattle.tables.specs.declared.rows.ClassRow.{ClassRow}
use Rattle.tables.specs.declared.rows.ConstructorRow.{ConstructorRow}
use Rattle.tables.specs.declared.rows.ListRow.{ListRow}
use Rattle.tables.specs.declared.rows.MethodRow.{MethodRow}
use Rattle.tables.specs.declared.rows.TypeRow.{TypeRow}
use Rattle.tables.specs.Kinds.{type_kind, under}
use Rattle.tables.specs.Layout.{Content}
use Rattle.tables.specs.Limits.{IsWithinLimits}
use Rattle.rules.specs.Faults.{class_places}
use Rattle.rules.specs.Types.{is_plain, is_plain_kind, is_unit, is_unit_kind, refers, same_type}
use Rattle.rules.specs.Words.{at, part, past_end}
use Rattle.rules.proofs.Rows.{any_kept, at_kept, known, or_none, part_row, take_row}
use Rattle.placement.specs.Holders.{in_range, method_classes}
use Rattle.placement.proofs.Owners.{range_parts}
use Rattle.range.specs.Range.{class_range, constructor_range, list_range, method_range, slots_range, type_absent, type_range}
use Rattle.shape.specs.Shape.{class_shape, classes_broken, inside_method_shape, is_outside_class, method_shape, method_shape_in, not_first, not_main, not_plain, outside_method_shape, repeats_name, type_shape}
use Rattle.model.specs.Rules.{NoPlaceBreaks}
use Rattle.syntax.specs.declared.types.ValueType.{ValueType}
use Rattle.syntax.specs.declared.types.ValueType.TheVariants as type
use Rattle.syntax.specs.Rows.{given}
use Rattle.syntax.specs.Types.{is_plain_type, kind_number, named, type_as, type_at, type_of}
use Rattle.syntax.proofs.Parts.{given_parts, passes_parts, when_parts}
use Rattle.typing.specs.Scopes.{declared, entry_type}
use Rattle.typing.specs.Statements.{goes_on}
use Rattle.loading.specs.Laws.{IsClass, IsMethod}
use Rattle.loading.specs.Shapes.{DeclaresSlots, HasMainClass, IsPlainClass, WellShaped}
use Rattle.loading.proofs.Typed.{class_asked, class_held}

-- the number of a kind
number_of : TypeKind → ℕ
number_of kind.Unit = 0
number_of kind.Bool = 1
number_of kind.Int = 2
number_of kind.Data = 3
number_of kind.Interface = 4
number_of kind.Future = 5

abbrev Numbers : List (ℕ × TypeKind) → Type 0
Numbers [] = ⊤
Numbers (p ∷ ps) = (number_of p.1 ≡ p.0) × Numbers ps

number_under : (n : ℕ) (ks : List (ℕ × TypeKind)) (k : TypeKind) → Numbers ks → under n ks ≡ Some k → number_of k ≡ n
number_under n [] k numbers e = absurd (none-some k e)
number_under n (p ∷ ps) k numbers e = elim (cases_Bool (n == p.0)) [
  | inl hit ↦ (let same : p.1 ≡ k = known (rw hit at e) in ap number_of (sym same) ∙ numbers.0 ∙ sym (eqb-true n p.0 hit))
  | inr miss ↦ number_under n ps k numbers.1 (rw miss at e)
]

kind_known : (n : ℕ) (k : TypeKind) → type_kind n ≡ Some k → number_of k ≡ n
unfolding number_of
kind_known n k e = number_under n ((0, kind.Unit) ∷ (1, kind.Bool) ∷ (2, kind.Int) ∷ (3, kind.Data) ∷ (4, kind.Interface) ∷ (5, kind.Future) ∷ []) k
    (refl, (refl, (refl, (refl, (refl, (refl, tt)))))) e

-- what a row's type says of it
type_says : (ref : ℕ) (k : TypeKind) (t : ValueType) → type_as ref (Some k) ≡ Some t → (kind_number t ≡ number_of k) × (refers (Some k) ≡ true → named t ≡ ref)
unfolding number_of
type_says ref kind.Unit t e = rw (← known e) (refl, λ r. absurd (false≢true r))
type_says ref kind.Bool t e = rw (← known e) (refl, λ r. absurd (false≢true r))
type_says ref kind.Int t e = rw (← known e) (refl, λ r. absurd (false≢true r))
type_says ref kind.Data t e = rw (← known e) (refl, λ r. refl)
type_says ref kind.Interface t e = rw (← known e) (refl, λ r. refl)
type_says ref kind.Future t e = rw (← known e) (refl, λ r. refl)

kind_there : (ref : ℕ) (o : Option TypeKind) (t : ValueType) → type_as ref o ≡ Some t → (k : TypeKind) × (o ≡ Some k)
kind_there ref None t e = absurd (none-some t e)
kind_there ref (Some k) t e = (k, refl)

-- rows of one type are the same to the rule of shape
rows_same : (x y : TypeRow) (t : ValueType) → type_of x ≡ Some t → type_of y ≡ Some t → same_type y x ≡ true
rows_same x y t ex ey =
    let a = kind_there x.reference (type_kind x.kind) t ex in
    let b = kind_there y.reference (type_kind y.kind) t ey in
    let p = type_says x.reference a.0 t (rw a.1 at ex) in
    let q = type_says y.reference b.0 t (rw b.1 at ey) in
    let kinds : y.kind ≡ x.kind = sym (kind_known y.kind b.0 b.1) ∙ sym q.0 ∙ p.0 ∙ kind_known x.kind a.0 a.1 in
    and_from (y.kind == x.kind) (not (refers (type_kind y.kind)) || y.reference == x.reference) (eq-eqb y.kind x.kind kinds) (either (refers (type_kind y.kind)) refl
    (λ r. (
    let own : refers (Some b.0) ≡ true = ap refers (sym b.1) ∙ r in
    let other : refers (Some a.0) ≡ true = ap refers (sym a.1 ∙ ap type_kind (sym kinds)) ∙ r in
    eq-eqb y.reference x.reference (sym (q.1 own) ∙ p.1 other)
    )))
  where
    either : (b : Bool) → refers (type_kind y.kind) ≡ b → (refers (type_kind y.kind) ≡ true → (y.reference == x.reference) ≡ true) → (not b || y.reference == x.reference) ≡ true
    either true e same = same e
    either false e same = refl

-- a plain kind, and Unit's
plain_as : (ref : ℕ) (o : Option TypeKind) (t : ValueType) → is_plain_kind o ≡ true → type_as ref o ≡ Some t → is_plain_type t ≡ true
plain_as ref None t p e = absurd (none-some t e)
plain_as ref (Some kind.Unit) t p e = rw (← known e) refl
plain_as ref (Some kind.Bool) t p e = rw (← known e) refl
plain_as ref (Some kind.Int) t p e = rw (← known e) refl
plain_as ref (Some kind.Data) t p e = absurd (false≢true p)
plain_as ref (Some kind.Interface) t p e = absurd (false≢true p)
plain_as ref (Some kind.Future) t p e = absurd (false≢true p)

unit_as : (ref : ℕ) (o : Option TypeKind) → is_unit_kind o ≡ true → type_as ref o ≡ Some type.Unit
unit_as ref None p = absurd (false≢true p)
unit_as ref (Some kind.Unit) p = refl
unit_as ref (Some kind.Bool) p = absurd (false≢true p)
unit_as ref (Some kind.Int) p = absurd (false≢true p)
unit_as ref (Some kind.Data) p = absurd (false≢true p)
unit_as ref (Some kind.Interface) p = absurd (false≢true p)
unit_as ref (Some kind.Future) p = absurd (false≢true p)

-- a known kind says a type
kind_says : (m : Content) (ref : ℕ) (o : Option TypeKind) → type_absent m ref o ≡ false → (t : ValueType) × (type_as ref o ≡ Some t)
kind_says m ref None e = absurd (true≢false e)
kind_says m ref (Some kind.Unit) e = (type.Unit, refl)
kind_says m ref (Some kind.Bool) e = (type.Bool, refl)
kind_says m ref (Some kind.Int) e = (type.Int, refl)
kind_says m ref (Some kind.Data) e = (type.Data ref, refl)
kind_says m ref (Some kind.Interface) e = (type.Interface ref, refl)
kind_says m ref (Some kind.Future) e = (type.Future ref, refl)

-- a row that is there
row_there : {A : Type 0} (xs : List A) (i : ℕ) (none : A) → i < length xs → (x : A) × (slice_get xs i ≡ Some x)
row_there xs i none lt = (get_or xs i none, slice_get-get_or xs i none lt)

-- a number that a test does not find to be 0, or finds to be no more
some_rows : (n : ℕ) → (n == 0) ≡ false → 0 < n
some_rows n e = elim (cases_lt 0 n) [
  | inl lt ↦ lt
  | inr le ↦ absurd (eqb-false n 0 e (omega arith))
]

no_more : (n : ℕ) → nat_lt 0 n ≡ false → n ≡ 0
no_more n e = let le = ltb-false 0 n e in omega arith

-- an entry of a range
part_at : {A : Type 0} (xs : List A) (first count k : ℕ) → k < count → slice_get (part first count xs) k ≡ slice_get xs (first + k)
part_at xs first count k lt =
    let back : first + k - first ≡ k = omega arith in
    rw back at (part_row xs first count (first + k) (omega arith) (omega arith))

-- some row of a method
no_method : MethodRow
no_method = record { name = 0; result = 0; slots_first = 0; parameters = 0; slots = 0; statements_first = 0; statements_count = 0 }

-- a range of some rows has the first of them
begins : (first count : ℕ) → 0 < count → in_range first first count ≡ true
begins first count some = and_from _ _ (le-leb first first (omega arith)) (lt-ltb first (first + count) (omega arith))

module _ (m : Content) (keeps : NoPlaceBreaks m) where
  -- Types.
  apart : (i j : ℕ) (t : ValueType) → type_at m i ≡ Some t → type_at m j ≡ Some t → i < j → ⊥
  apart i j t ei ej lt =
      let x = given_parts (slice_get m.types i) type_of t ei in
      let y = given_parts (slice_get m.types j) type_of t ej in
      let shape : type_shape m j y.0 ≡ false = at_kept m.types j (type_shape m j) y.0 (keeps Shape table.Types j (slice_get_within m.types j y.0 y.1)) y.1 in
      let other = any_kept (same_type y.0) (take j m.types) i x.0 shape (take_row m.types j i lt ∙ x.1) in
      true≢false (sym (rows_same x.0 y.0 t x.2 y.2) ∙ other)

  types_differ : (i j : ℕ) (t : ValueType) → type_at m i ≡ Some t → type_at m j ≡ Some t → i ≡ j
  types_differ i j t ei ej = elim (cases_order i j) [
    | inl same ↦ same
    | inr (inl lt) ↦ absurd (apart i j t ei ej lt)
    | inr (inr gt) ↦ absurd (apart j i t ej ei gt)
  ]

  -- a row of the types says a type
  type_there : (row : ℕ) → row < length m.types → (t : ValueType) × (type_at m row ≡ Some t)
  type_there row lt =
      let x = row_there m.types row (record { kind = 0; reference = 0 }) lt in
      let whole : type_range m x.0 ≡ false = at_kept m.types row (type_range m) x.0 (keeps Range table.Types row lt) x.1 in
      let t = kind_says m x.0.reference (type_kind x.0.kind) whole in
      (t.0, ap (λ (o : Option TypeRow). given o type_of) x.1 ∙ t.1)

  plain_type : (row : ℕ) (t : ValueType) → not (at m.types row is_plain) ≡ false → type_at m row ≡ Some t → is_plain_type t ≡ true
  plain_type row t e typed =
      let p = passes_parts (slice_get m.types row) is_plain (not-false (at m.types row is_plain) e) in
      let x = given_parts (slice_get m.types row) type_of t typed in
      let same : p.0 ≡ x.0 = known (sym p.1 ∙ x.1) in
      plain_as x.0.reference (type_kind x.0.kind) t (rw same at p.2) x.2

  unit_type : (row : ℕ) → not (at m.types row is_unit) ≡ false → type_at m row ≡ Some type.Unit
  unit_type row e =
      let p = passes_parts (slice_get m.types row) is_unit (not-false (at m.types row is_unit) e) in
      ap (λ (o : Option TypeRow). given o type_of) p.1 ∙ unit_as p.0.reference (type_kind p.0.kind) p.2

  -- Slots that are declared.
  entry_there : (k : ℕ) → k < length m.lists → (x : ListRow) × (t : ValueType) × (slice_get m.lists k ≡ Some x) × (entry_type m x ≡ Some t)
  entry_there k lt =
      let x = row_there m.lists k (record { entry = 0 }) lt in
      let whole : list_range m x.0 ≡ false = at_kept m.lists k (list_range m) x.0 (keeps Range table.Lists k lt) x.1 in
      let t = type_there x.0.entry (leb-false (length m.types) x.0.entry whole) in
      (x.0, t.0, x.1, t.1)

  declares : (first parameters slots : ℕ) → past_end first slots m.lists ≡ false → parameters ≤ 4 → slots ≤ 8 → parameters ≤ slots →
      DeclaresSlots m first parameters slots
  declares first parameters slots end few few' among = record {
    few_parameters = few;
    few_slots = few';
    among = among;
    types = λ k lt. (
        let le : first + slots ≤ length m.lists = ltb-false (length m.lists) (first + slots) end in
        let x = entry_there (first + k) (omega arith) in
        let small : (nat_lt k 8 && nat_lt k slots) ≡ true = and_from _ _ (lt-ltb k 8 (omega arith)) (lt-ltb k slots lt) in
        (x.1, rw (small, x.2) x.3)
        );
  }

  slots_declared : (first parameters slots : ℕ) → slots_range m first parameters slots ≡ false → DeclaresSlots m first parameters slots
  slots_declared first parameters slots e =
      let p = or_none _ _ e in
      let q = or_none _ _ p.0 in
      let r = or_none _ _ q.0 in
      declares first parameters slots r.0 (ltb-false 4 parameters q.1) (ltb-false 8 slots r.1) (ltb-false slots parameters p.1)

  constructors : (i : ℕ) (k : ConstructorRow) → slice_get m.constructors i ≡ Some k → DeclaresSlots m k.first k.count k.count
  constructors i k e =
      let whole : constructor_range m k ≡ false = at_kept m.constructors i (constructor_range m) k (keeps Range table.Constructors i (slice_get_within m.constructors i k e)) e in
      let p = or_none _ _ whole in
      let few = ltb-false 4 k.count p.1 in
      declares k.first k.count k.count p.0 few (omega arith) (omega arith)

  -- Methods of a class.
  method_whole : (j : ℕ) (x : MethodRow) → slice_get m.methods j ≡ Some x → method_range m x ≡ false
  method_whole j x e = at_kept m.methods j (method_range m) x (keeps Range table.Methods j (slice_get_within m.methods j x e)) e

  results : (c : ClassRow) (x : MethodRow) → IsClass m c → IsMethod m c x → (t : ValueType) × (type_at m x.result ≡ Some t)
  results c x class method =
      let p = or_none _ _ (method_whole method.0 x method.1) in
      let q = or_none _ _ p.0 in
      type_there x.result (leb-false (length m.types) x.result q.0)

  slots : (c : ClassRow) (x : MethodRow) → IsClass m c → IsMethod m c x → DeclaresSlots m x.slots_first x.parameters x.slots
  slots c x class method =
      let p = or_none _ _ (method_whole method.0 x method.1) in
      let q = or_none _ _ p.0 in
      slots_declared x.slots_first x.parameters x.slots q.1

  -- what the rule of shape says of a method of a class
  shape_in : (i j : ℕ) (c : ClassRow) (x : MethodRow) → slice_get m.classes i ≡ Some c → slice_get m.methods j ≡ Some x →
      in_range j c.methods_first c.methods_count ≡ true → method_shape_in m j x c ≡ false
  shape_in i j c x class method inside =
      let shape : method_shape m (method_classes m) j x ≡ false =
      at_kept m.methods j (method_shape m (method_classes m) j) x (keeps Shape table.Methods j (slice_get_within m.methods j x method)) method in
      let held = class_held m keeps i j c x class method inside in
      let there : at m.classes held.0.row (method_shape_in m j x) ≡ false = rw held.1 at shape in
      let in_class : at m.classes i (method_shape_in m j x) ≡ false = rw held.2 at there in
      at_kept m.classes i (method_shape_in m j x) c in_class class

  shape_of : (c : ClassRow) (x : MethodRow) → IsClass m c → IsMethod m c x →
      cond (is_outside_class c) (outside_method_shape m x) (inside_method_shape x) ≡ false
  shape_of c x class method = (or_none _ _ (shape_in class.0 method.0 c x class.1 method.1 method.2)).1

  -- no earlier method of the class has the name of a later one
  pub names_apart : (c : ClassRow) (i j : ℕ) (x y : MethodRow) → IsClass m c → slice_get m.methods i ≡ Some x → slice_get m.methods j ≡ Some y →
      in_range i c.methods_first c.methods_count ≡ true → in_range j c.methods_first c.methods_count ≡ true → i < j → x.name ≡ y.name → ⊥
  names_apart c i j x y class first later own own' lt same =
      let p = range_parts i c.methods_first c.methods_count own in
      let none : repeats_name m j y c ≡ false = (or_none _ _ (shape_in class.0 j c y class.1 later own')).0 in
      let before = part_row m.methods c.methods_first (j - c.methods_first) i p.0 (omega arith) ∙ first in
      true≢false (sym (eq-eqb x.name y.name same) ∙ any_kept (λ z. nat_eq z.name y.name) (part c.methods_first (j - c.methods_first) m.methods) (i - c.methods_first) x none before)

  names_differ : (c : ClassRow) (i j : ℕ) (x y : MethodRow) → IsClass m c → slice_get m.methods i ≡ Some x → slice_get m.methods j ≡ Some y →
      in_range i c.methods_first c.methods_count ≡ true → in_range j c.methods_first c.methods_count ≡ true → x.name ≡ y.name → i ≡ j
  names_differ c i j x y class ei ej own own' same = elim (cases_order i j) [
    | inl equal ↦ equal
    | inr (inl lt) ↦ absurd (names_apart c i j x y class ei ej own own' lt same)
    | inr (inr gt) ↦ absurd (names_apart c j i y x class ej ei own' own gt (sym same))
  ]

  starts : (c : ClassRow) (x : MethodRow) → IsClass m c → IsMethod m c x → is_outside_class c ≡ false → goes_on x x.statements_first ≡ true
  starts c x class method inside =
      let shape : inside_method_shape x ≡ false = rw inside at (shape_of c x class method) in
      begins x.statements_first x.statements_count (some_rows x.statements_count shape)

  -- Classes.
  class_whole : (i : ℕ) (c : ClassRow) → slice_get m.classes i ≡ Some c → class_range m c ≡ false
  class_whole i c e = at_kept m.classes i (class_range m) c (keeps Range table.Classes i (class_asked m.classes i (slice_get_within m.classes i c e))) e

  fields : (c : ClassRow) → IsClass m c → DeclaresSlots m c.fields_first c.parameters c.fields
  fields c class =
      let p = or_none _ _ (class_whole class.0 c class.1) in
      let q = or_none _ _ p.0 in
      slots_declared c.fields_first c.parameters c.fields q.1

  class_shaped : (i : ℕ) (c : ClassRow) → slice_get m.classes i ≡ Some c → class_shape m i c ≡ false
  class_shaped i c e = go m.classes (keeps Shape table.Classes i (class_asked m.classes i (slice_get_within m.classes i c e))) e
    where
      go : (cs : List ClassRow) → classes_broken m cs i ≡ false → slice_get cs i ≡ Some c → class_shape m i c ≡ false
      go [] kept e = absurd (none-some c e)
      go (y ∷ ys) kept e = at_kept (y ∷ ys) i (class_shape m i) c kept e

  module _ (c : ClassRow) (class : IsClass m c) (out : is_outside_class c ≡ true) where
    no_fields : c.fields ≡ 0
    no_fields =
        let p = or_none _ _ (class_shaped class.0 c class.1) in
        let none : (is_outside_class c && nat_lt 0 c.fields) ≡ false = (or_none _ _ p.0).1 in
        no_more c.fields (rw out at none)

    module _ (x : MethodRow) (method : IsMethod m c x) where
      plain : outside_method_shape m x ≡ false
      plain = rw out at (shape_of c x class method)

      plain_parameters : (k : ℕ) (t : ValueType) → k < x.parameters → declared m x.slots_first x.slots k ≡ Some t → is_plain_type t ≡ true
      plain_parameters k t lt e =
          let y = given_parts _ _ t (when_parts _ _ t e).1 in
          let none : list_any (not_plain m) (part x.slots_first x.parameters m.lists) ≡ false = (or_none _ _ plain).1 in
          let row = part_at m.lists x.slots_first x.parameters k lt ∙ y.1 in
          plain_type y.0.entry t (any_kept (not_plain m) (part x.slots_first x.parameters m.lists) k y.0 none row) y.2

      plain_result : (t : ValueType) → type_at m x.result ≡ Some t → is_plain_type t ≡ true
      plain_result t e = plain_type x.result t (or_none _ _ (or_none _ _ plain).0).1 e

    outside : IsPlainClass m c
    outside = record {
      no_fields = no_fields;
      parameters = λ x k t method lt e. plain_parameters x method k t lt e;
      results = λ x t method e. plain_result x method t e;
    }

  -- Class 0.
  first_there : (cs : List ClassRow) → m.classes ≡ cs → (c : ClassRow) × (slice_get m.classes 0 ≡ Some c)
  first_there [] e =
      let asked : 0 < class_places m.classes = rw e (omega arith) in
      let broken : classes_broken m m.classes 0 ≡ false = keeps Shape table.Classes 0 asked in
      absurd (true≢false (rw e at broken))
  first_there (c ∷ cs) e = (c, ap (λ (l : List ClassRow). slice_get l 0) e)

  first_method : (i : ℕ) (c : ClassRow) → slice_get m.classes i ≡ Some c → 0 < c.methods_count → (x : MethodRow) × (slice_get m.methods c.methods_first ≡ Some x)
  first_method i c e some = row_there m.methods c.methods_first no_method (within (or_none _ _ (class_whole i c e)).1)
    where
      within : past_end c.methods_first c.methods_count m.methods ≡ false → c.methods_first < length m.methods
      within end = let le = ltb-false (length m.methods) (c.methods_first + c.methods_count) end in omega arith

  main : HasMainClass m
  main =
      let first = first_there m.classes refl in
      let c = first.0 in
      let there = first.1 in
      let main : not_first m c ≡ false = (or_none _ _ (class_shaped 0 c there)).1 in
      let p = or_none _ _ main in
      let q = or_none _ _ p.0 in
      let r = or_none _ _ q.0 in
      let some = some_rows c.methods_count q.1 in
      let x = first_method 0 c there some in
      let taking : not_main m x.0 ≡ false = at_kept m.methods c.methods_first (not_main m) x.0 p.1 x.1 in
      let s = or_none _ _ taking in
      record {
        class = c;
        class_there = there;
        inside = r.0;
        no_fields = no_more c.fields r.1;
        method = x.0;
        method_there = x.1;
        belongs = begins c.methods_first c.methods_count some;
        takes_nothing = no_more x.0.parameters s.0;
        returns_unit = unit_type x.0.result s.1;
      }

  pub well_shaped : IsWithinLimits m → WellShaped m
  well_shaped limits = record {
    types_differ = types_differ;
    names_differ = names_differ;
    results = results;
    slots = slots;
    fields = fields;
    constructors = constructors;
    starts = starts;
    outside = outside;
    main = main;
    limits = limits;
  }
