-- The method that a call reaches: the object's class has it, with the types of the heading that the statement was typed with.
use Rattle.std.proofs.Common.{◌≡◌, ℕ, ◌+◌, ◌<◌, true, List, Some, None, refl, ap, arith}
use Rattle.std.specs.Prelude.{Bool, nat_eq}
use Rattle.std.specs.List.{find, slice_get}
use Rattle.std.specs.Option.{option_map}
use Rattle.std.proofs.lemmas.Bool.{and_from, le-leb, lt-ltb}
use Rattle.tables.specs.declared.rows.ClassRow.{ClassRow}
use Rattle.tables.specs.declared.rows.MethodRow.{MethodRow}
use Rattle.tables.specs.Layout.{Content}
use Rattle.rules.specs.Words.{part}
use Rattle.rules.proofs.Rows.{row_of_part}
use Rattle.placement.specs.Holders.{in_range}
use Rattle.shape.specs.Shape.{is_outside_class}
use Rattle.loading.proofs.Defaults.{position_found}
use Rattle.loading.proofs.Implementing.{mapped_parts}
use Rattle.loading.specs.Laws.{IsClass, Lawful, SameTypes}
use Rattle.syntax.specs.declared.types.ValueType.{ValueType}
use Rattle.syntax.proofs.Parts.{given_parts}
use Rattle.typing.specs.declared.calls.Heading.{Heading}
use Rattle.typing.specs.Scopes.{Bindings}
use Rattle.typing.specs.Statements.{method_heading, method_named, reached, signature_named, type_here}
use Rattle.evaluation.specs.Typed.{Referents, IsObject}
use Rattle.steps.specs.Calling.{dispatch, row_of_method, receiver}
use Rattle.steps.specs.Configurations.{Configuration, group_of, object_at, same_group}
use Rattle.steps.specs.Sound.{referents}
use Rattle.steps.specs.declared.records.CallRecord.{CallRecord}
use Rattle.steps.specs.declared.records.ObjectRecord.{ObjectRecord}

module _ (m : Content) where
  -- an object whose class has a method of this name, with the types of a heading
  pub record HasMethod (refs : Referents) (name : ℕ) (h : Heading) (o : ℕ) : Type 0 where
    pub class : ClassRow
    pub of_class : refs.class_of o ≡ Some class
    pub is_class : IsClass m class
    pub row : ℕ
    pub method : MethodRow
    pub named : row_of_method m class name ≡ Some row
    pub there : slice_get m.methods row ≡ Some method
    pub belongs : in_range row class.methods_first class.methods_count ≡ true
    pub same : SameTypes m h (method_heading method)

  by_name : (refs : Referents) (name : ℕ) (h k : Heading) (o : ℕ) (c : ClassRow) → refs.class_of o ≡ Some c → IsClass m c → method_named m c name ≡ Some k →
      SameTypes m h k → HasMethod refs name h o
  by_name refs name h k o c found class named same =
      let own : List MethodRow = part c.methods_first c.methods_count m.methods in
      let f = mapped_parts method_heading (find (λ (x : MethodRow). nat_eq x.name name) own) k named in
      let p = position_found (λ (x : MethodRow). nat_eq x.name name) own f.0 f.1 in
      let r = row_of_part m.methods c.methods_first c.methods_count p.0 f.0 p.2 in
      let lt : p.0 < c.methods_count = r.0 in
      record {
        class = c;
        of_class = found;
        is_class = class;
        row = c.methods_first + p.0;
        method = f.0;
        named = ap (option_map (λ (i : ℕ). c.methods_first + i)) p.1;
        there = r.1;
        belongs = and_from _ _ (le-leb c.methods_first (c.methods_first + p.0) (omega arith)) (lt-ltb (c.methods_first + p.0) (c.methods_first + c.methods_count) (omega arith));
        same = rw f.2 same;
      }

  -- an object's class is one
  pub is_class : (c : Configuration) (o : ℕ) (k : ClassRow) → (referents m c).class_of o ≡ Some k → IsClass m k
  is_class c o k e = let p = given_parts (object_at c o) (λ y. slice_get m.classes y.class) k e in (p.0.class, p.2)

  -- on this, a method of the class itself
  pub this_has_method : (c : Configuration) (this : ℕ) (k : ClassRow) (b : Bindings) (name : ℕ) (h : Heading) → (referents m c).class_of this ≡ Some k →
      reached m k b None name ≡ Some h → HasMethod (referents m c) name h this
  this_has_method c this k b name h found reach =
      by_name (referents m c) name h h this k found (is_class c this k found) reach (record { parameters = refl; result = refl })

  -- on an object of an interface, the method that its class has for the signature
  pub object_has_method : (c : Configuration) → Lawful m → (k : ClassRow) (b : Bindings) (object name : ℕ) (h : Heading) → reached m k b (Some object) name ≡ Some h →
      (t : ValueType) × (type_here m k b object ≡ Some t) × ((o : ℕ) → IsObject m (referents m c) o t → HasMethod (referents m c) name h o)
  object_has_method c laws k b object name h reach =
      let p = given_parts (type_here m k b object) (λ t. signature_named m t name) h reach in (
        p.0,
        p.1,
        λ o is. (
            let class = is_class c o is.0 is.1 in
            let x = laws.interfaces is.0 p.0 name h class is.2 p.2 in
            by_name (referents m c) name h (method_heading x.0) o is.0 is.1 class x.2 x.3
            ),
      )

  -- A message to an object that has the method is dispatched to it.
  pub method_dispatch : (d : Configuration) (n : ℕ) (x : CallRecord) (name : ℕ) (h : Heading) (object : ℕ) (r : HasMethod (referents m d) name h object) →
      (class : ℕ) × (own : Bool)
      × (dispatch m x d object name ≡ Some (record { class = class; receiver = receiver (is_outside_class r.class) own; row = r.row; method = r.method }))
  method_dispatch d n x name h object r =
      let o = given_parts (object_at d object) (λ y. slice_get m.classes y.class) r.class r.of_class in go o.0 o.1 o.2
    where
      go : (o : ObjectRecord) → object_at d object ≡ Some o → slice_get m.classes o.class ≡ Some r.class →
          (class : ℕ) × (own : Bool)
          × (dispatch m x d object name ≡ Some (record { class = class; receiver = receiver (is_outside_class r.class) own; row = r.row; method = r.method }))
      go o there class = (o.class, same_group o.group (group_of d x.object), rw (there, class, r.named, r.there) refl)
