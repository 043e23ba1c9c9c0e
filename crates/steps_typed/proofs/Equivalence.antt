-- A configuration is typed exactly if its objects, calls and makers are typed over what it refers to.
use Rattle.std.proofs.Common.{◌≡◌, ℕ, true, List, Some, None, Option, refl, sym, ap, subst, ◌∙◌}
use Rattle.std.specs.Prelude.{is_some}
use Rattle.std.specs.List.{slice_get}
use Rattle.std.specs.Option.{option_map}
use Rattle.std.proofs.lemmas.Bool.{false≢true}
use Rattle.tables.specs.declared.rows.ClassRow.{ClassRow}
use Rattle.tables.specs.declared.rows.MethodRow.{MethodRow}
use Rattle.tables.specs.Layout.{Content}
use Rattle.rules.proofs.Rows.{known}
use Rattle.syntax.specs.declared.types.ValueType.{ValueType}
use Rattle.syntax.specs.Rows.{given}
use Rattle.syntax.specs.Types.{type_at}
use Rattle.syntax.proofs.Parts.{given_parts}
use Rattle.typing.specs.Scopes.{Bindings, declared, method_scope}
use Rattle.typing.specs.StatementLaws.{Takes}
use Rattle.evaluation.specs.declared.value.Value.{Value}
use Rattle.evaluation.specs.Typed.{Has}
use Rattle.steps.specs.declared.records.CallRecord.{CallRecord}
use Rattle.steps.specs.declared.records.ObjectRecord.{ObjectRecord}
use Rattle.steps.specs.Configurations.{Configuration, call_at, class_of, method_of, object_at, result_type}
use Rattle.steps.specs.Sound.{CallFits, IsTyped, Location, MakerFits, location_type, location_value, referents, result_row}
use Rattle.steps.specs.States.{callee_of}
use Rattle.steps_typed.proofs.Reaching.{is_class}
use Rattle.steps_typed.proofs.Typings.{CallTyped, ConfigurationTyped, MakerTyped, ObjectTyped, RangeTyped, ResultTyped, class_in}
use Rattle.loading.proofs.Implementing.{mapped_parts}
use Rattle.loading.specs.Accepted.{IsAccepted}

some_parts : {A : Type 0} (o : Option A) → is_some o ≡ true → (x : A) × (o ≡ Some x)
some_parts None e = absurd (false≢true e)
some_parts (Some x) e = (x, refl)

module _ (m : Content) (c : Configuration) where
  -- the types of the locations of an object and of a call that are there
  field_type : (n k : ℕ) (o : ObjectRecord) (y : ClassRow) → object_at c n ≡ Some o → slice_get m.classes o.class ≡ Some y →
      location_type m c (Location.field n k) ≡ declared m y.fields_first y.fields k
  field_type n k o y there class = ap (λ (p : Option ClassRow). given p (λ z. declared m z.fields_first z.fields k)) (ap (class_in m) there ∙ class)

  slot_type : (n k : ℕ) (x : CallRecord) (y : MethodRow) → call_at c n ≡ Some x → method_of m x ≡ Some y →
      location_type m c (Location.slot n k) ≡ declared m y.slots_first y.slots k
  slot_type n k x y there method =
      ap (λ (p : Option CallRecord). given p (λ z. given (method_of m z) (λ w. declared m w.slots_first w.slots k))) there
      ∙ ap (λ (p : Option MethodRow). given p (λ w. declared m w.slots_first w.slots k)) method

  result_type_of : (x : CallRecord) (y : MethodRow) → method_of m x ≡ Some y → result_type m x ≡ type_at m y.result
  result_type_of x y method = ap (λ (p : Option MethodRow). given p (λ w. type_at m w.result)) method

  future_type : (n : ℕ) (x : CallRecord) (y : MethodRow) → call_at c n ≡ Some x → method_of m x ≡ Some y →
      location_type m c (Location.future n) ≡ type_at m y.result
  future_type n x y there method = ap (λ (p : Option CallRecord). given p (result_type m)) there ∙ result_type_of x y method

  field_value : (n k : ℕ) (o : ObjectRecord) → object_at c n ≡ Some o → location_value c (Location.field n k) ≡ slice_get o.fields k
  field_value n k o there = ap (λ (p : Option ObjectRecord). given p (λ z. slice_get z.fields k)) there

  slot_value : (n k : ℕ) (x : CallRecord) → call_at c n ≡ Some x → location_value c (Location.slot n k) ≡ slice_get x.slots k
  slot_value n k x there = ap (λ (p : Option CallRecord). given p (λ z. slice_get z.slots k)) there

  future_value : (n : ℕ) (x : CallRecord) → call_at c n ≡ Some x → location_value c (Location.future n) ≡ x.result
  future_value n x there = ap (λ (p : Option CallRecord). given p (λ z. z.result)) there

  module _ (accepted : IsAccepted m) (is : IsTyped m c) where
    -- From what readers believe to what the proofs use.
    -- a location of a declared type has a value of it
    location_has : (l : Location) (o : Option Value) (t : ValueType) → location_value c l ≡ o → location_type m c l ≡ Some t →
        is_some (location_value c l) ≡ true → (v : Value) × (o ≡ Some v) × Has m (referents m c) c.cells v t
    location_has l o t value type there =
        let p = some_parts (location_value c l) there in
        (p.0, sym value ∙ p.1, is.values.values l p.0 t p.1 type)

    object_typed : (n : ℕ) (o : ObjectRecord) → object_at c n ≡ Some o → ObjectTyped m (referents m c) c.cells o
    object_typed n o there =
        let fits = is.objects n o there in
        record {
          class = fits.class;
          there = fits.there;
          fields = record {
            each = λ k t own. (
                let type = field_type n k o fits.class there fits.there ∙ own in
                location_has (Location.field n k) (slice_get o.fields k) t (field_value n k o there) type (is.values.fields n k t type)
                );
          };
          grouped = fits.grouped;
        }

    result_typed : (n : ℕ) (x : CallRecord) → call_at c n ≡ Some x → (fits : CallFits m c x) (o : Option Value) → x.result ≡ o →
        ResultTyped m (referents m c) c.cells fits.method o
    result_typed n x there fits None e = tt
    result_typed n x there fits (Some v) e =
        let r = accepted.shaped.results fits.class fits.method (is_class m c x.object fits.class fits.of_class) (x.method, fits.called, fits.belongs) in
        (r.0, r.1, is.values.values (Location.future n) v r.0 (future_value n x there ∙ e) (future_type n x fits.method there fits.called ∙ r.1))

    call_typed : (n : ℕ) (x : CallRecord) → call_at c n ≡ Some x → CallTyped m (referents m c) c.cells x
    call_typed n x there =
        let fits = is.calls n x there in
        record {
          class = fits.class;
          of_class = fits.of_class;
          method = fits.method;
          called = fits.called;
          belongs = fits.belongs;
          slots = record {
            each = λ k t own. (
                let type = slot_type n k x fits.method there fits.called ∙ own in
                location_has (Location.slot n k) (slice_get x.slots k) t (slot_value n k x there) type (is.values.slots n k t type)
                );
          };
          result = result_typed n x there fits x.result refl;
          stands = fits.stands;
          inside = fits.inside;
          plain = λ out. (let p = fits.plain out in (p.0, sym (result_type_of x fits.method fits.called) ∙ p.1, p.2));
        }

    maker_typed : (n callee : ℕ) (x : CallRecord) → call_at c n ≡ Some x → callee_of x.state ≡ Some callee → MakerTyped m (referents m c) x callee
    maker_typed n callee x there waits =
        let fits = is.makers n callee x there waits in
        let k = given_parts (class_of m c x.object) (λ z. option_map (method_scope m z) (method_of m x)) fits.scope fits.sees in
        let y = mapped_parts (method_scope m k.0) (method_of m x) fits.scope k.2 in
        let z = given_parts (call_at c callee) (result_type m) fits.type fits.gives in
        let w = given_parts (method_of m z.0) (λ r. type_at m r.result) fits.type z.2 in
        record {
          target = fits.target;
          call = fits.call;
          next = fits.next;
          stands = fits.stands;
          class = k.0;
          of_class = k.1;
          method = y.0;
          called = y.1;
          row = w.0.result;
          type = fits.type;
          results = ap (λ (p : Option CallRecord). given p (result_row m)) z.1 ∙ ap (option_map (λ (r : MethodRow). r.result)) w.1;
          typed = w.2;
          takes = subst (λ (b : Bindings). Takes b fits.target fits.type) (sym y.2) fits.takes;
        }

    pub configuration_typed : ConfigurationTyped m c
    configuration_typed = record { store = is.values.cells; objects = object_typed; calls = call_typed; makers = λ n k x there waits. maker_typed n k x there waits }

  module _ (h : ConfigurationTyped m c) where
    -- And back: the values of a location of a declared type have it.
    range_has : (vs : List Value) (first count k : ℕ) → RangeTyped m (referents m c) c.cells vs first count → (v : Value) (t : ValueType) → slice_get vs k ≡ Some v →
        declared m first count k ≡ Some t → Has m (referents m c) c.cells v t
    range_has vs first count k hold v t value type =
        let w = hold.each k t type in
        let same : w.0 ≡ v = known (sym w.1 ∙ value) in
        subst (λ (u : Value). Has m (referents m c) c.cells u t) same w.2

    result_has : (x : CallRecord) (t : CallTyped m (referents m c) c.cells x) (v : Value) (u : ValueType) → x.result ≡ Some v → type_at m t.method.result ≡ Some u →
        Has m (referents m c) c.cells v u
    result_has x t v u value type =
        let r : ResultTyped m (referents m c) c.cells t.method (Some v) = subst (ResultTyped m (referents m c) c.cells t.method) value t.result in
        let same : r.0 ≡ u = known (sym r.1 ∙ type) in
        subst (λ (w : ValueType). Has m (referents m c) c.cells v w) same r.2

    value_has : (l : Location) (v : Value) (t : ValueType) → location_value c l ≡ Some v → location_type m c l ≡ Some t → Has m (referents m c) c.cells v t
    value_has (Location.field n k) v t value type =
        let o = given_parts (object_at c n) (λ z. slice_get z.fields k) v value in
        let f = h.objects n o.0 o.1 in
        range_has o.0.fields f.class.fields_first f.class.fields k f.fields v t o.2 (sym (field_type n k o.0 f.class o.1 f.there) ∙ type)
    value_has (Location.slot n k) v t value type =
        let x = given_parts (call_at c n) (λ z. slice_get z.slots k) v value in
        let f = h.calls n x.0 x.1 in
        range_has x.0.slots f.method.slots_first f.method.slots k f.slots v t x.2 (sym (slot_type n k x.0 f.method x.1 f.called) ∙ type)
    value_has (Location.future n) v t value type =
        let x = given_parts (call_at c n) (λ z. z.result) v value in
        let f = h.calls n x.0 x.1 in
        result_has x.0 f v t x.2 (sym (future_type n x.0 f.method x.1 f.called) ∙ type)

    field_there : (n k : ℕ) (t : ValueType) → location_type m c (Location.field n k) ≡ Some t → is_some (location_value c (Location.field n k)) ≡ true
    field_there n k t type =
        let y = given_parts (class_of m c n) (λ z. declared m z.fields_first z.fields k) t type in
        let o = given_parts (object_at c n) (λ z. slice_get m.classes z.class) y.0 y.1 in
        let f = h.objects n o.0 o.1 in
        let v = f.fields.each k t (sym (field_type n k o.0 f.class o.1 f.there) ∙ type) in
        ap is_some (field_value n k o.0 o.1 ∙ v.1)

    slot_there : (n k : ℕ) (t : ValueType) → location_type m c (Location.slot n k) ≡ Some t → is_some (location_value c (Location.slot n k)) ≡ true
    slot_there n k t type =
        let x = given_parts (call_at c n) (λ z. given (method_of m z) (λ w. declared m w.slots_first w.slots k)) t type in
        let f = h.calls n x.0 x.1 in
        let v = f.slots.each k t (sym (slot_type n k x.0 f.method x.1 f.called) ∙ type) in
        ap is_some (slot_value n k x.0 x.1 ∙ v.1)

    call_fits : (n : ℕ) (x : CallRecord) → call_at c n ≡ Some x → CallFits m c x
    call_fits n x there =
        let f = h.calls n x there in
        record {
          class = f.class;
          of_class = f.of_class;
          method = f.method;
          called = f.called;
          belongs = f.belongs;
          inside = f.inside;
          stands = f.stands;
          plain = λ out. (let p = f.plain out in (p.0, result_type_of x f.method f.called ∙ p.1, p.2));
        }

    maker_fits : (n callee : ℕ) (x : CallRecord) → call_at c n ≡ Some x → callee_of x.state ≡ Some callee → MakerFits m c x callee
    maker_fits n callee x there waits =
        let f = h.makers n callee x there waits in
        let z = given_parts (call_at c callee) (result_row m) f.row f.results in
        let w = mapped_parts (λ (r : MethodRow). r.result) (method_of m z.0) f.row z.2 in
        record {
          target = f.target;
          call = f.call;
          next = f.next;
          stands = f.stands;
          scope = method_scope m f.class f.method;
          sees = ap (λ (p : Option ClassRow). given p (λ k. option_map (method_scope m k) (method_of m x))) f.of_class ∙ ap (option_map (method_scope m f.class)) f.called;
          type = f.type;
          gives = future_type callee z.0 w.0 z.1 w.1 ∙ ap (type_at m) w.2 ∙ f.typed;
          takes = f.takes;
        }

    pub configuration_is_typed : IsTyped m c
    configuration_is_typed = record {
      values = record { values = value_has; fields = field_there; slots = slot_there; cells = h.store };
      objects = λ n o there. (let f = h.objects n o there in record { class = f.class; there = f.there; grouped = f.grouped });
      calls = call_fits;
      makers = maker_fits;
    }
