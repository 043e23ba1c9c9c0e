-- A configuration stays typed as a call, an object or its cells change, and as an object or a call is added.
use Rattle.std.proofs.Common.{◌≡◌, ℕ, List, [], ◌∷◌, ◌++◌, Some, None, Option, sym, ap, ◌∙◌, inl, inr, append-nil}
use Rattle.std.specs.Prelude.{slice_set}
use Rattle.std.specs.List.{slice_get}
use Rattle.std.specs.Option.{option_map}
use Rattle.std.proofs.lemmas.Option.{none-some}
use Rattle.tables.specs.declared.rows.ClassRow.{ClassRow}
use Rattle.tables.specs.declared.rows.MethodRow.{MethodRow}
use Rattle.tables.specs.Layout.{Content}
use Rattle.rules.proofs.Rows.{known}
use Rattle.syntax.specs.declared.types.ValueType.{ValueType}
use Rattle.syntax.specs.Rows.{given}
use Rattle.syntax.proofs.Parts.{given_parts}
use Rattle.typing.specs.Scopes.{declared}
use Rattle.evaluation.specs.declared.value.Value.{Value}
use Rattle.evaluation.specs.Stores.{Longer}
use Rattle.evaluation.specs.Typed.{Referents, Extends, Has, CellsTyped}
use Rattle.evaluation.specs.Values.{Data}
use Rattle.evaluation.proofs.TypedValues.{types_last}
use Rattle.steps.specs.declared.records.CallRecord.{CallRecord}
use Rattle.steps.specs.declared.records.ObjectRecord.{ObjectRecord}
use Rattle.steps.proofs.Items.{push_cases, push_old, put_cases, put_here, put_other, same_or, set_here, set_other}
use Rattle.steps.specs.Changes.{with_call, with_cells, with_item_at, with_object}
use Rattle.steps.specs.Configurations.{Configuration, call_at, item_at, object_at}
use Rattle.steps.specs.Sound.{referents, result_row}
use Rattle.steps.specs.States.{callee_of}
use Rattle.steps_typed.proofs.Typings.{CallTyped, ConfigurationTyped, MakerTyped, ObjectTyped, RangeTyped, ResultTyped, class_in, row_of}

pub longer_same : (cs : List Data) → Longer cs cs
longer_same cs = ([], sym (append-nil cs))

module _ (m : Content) where
  -- what is typed stays so as more is referred to, and as cells are added
  module _ {refs more : Referents} (earlier later : List Data) (extends : Extends refs more) (longer : Longer earlier later) where
    pub has_more : (v : Value) (t : ValueType) → Has m refs earlier v t → Has m more later v t
    has_more v t = (types_last m refs more extends).values earlier later v t longer

    pub range_more : {vs : List Value} {first count : ℕ} → RangeTyped m refs earlier vs first count → RangeTyped m more later vs first count
    range_more h = record { each = λ i t e. let p = h.each i t e in (p.0, p.1, has_more p.0 t p.2) }

    pub object_more : {o : ObjectRecord} → ObjectTyped m refs earlier o → ObjectTyped m more later o
    object_more h = record { class = h.class; there = h.there; fields = range_more h.fields; grouped = h.grouped }

    pub result_more : (y : MethodRow) (r : Option Value) → ResultTyped m refs earlier y r → ResultTyped m more later y r
    result_more y None h = tt
    result_more y (Some v) h = (h.0, h.1, has_more v h.0 h.2)

    abbrev pub call_more : {x : CallRecord} → CallTyped m refs earlier x → CallTyped m more later x
    call_more {x} h = record {
      class = h.class;
      of_class = extends.objects x.object h.class h.of_class;
      method = h.method;
      called = h.called;
      belongs = h.belongs;
      slots = range_more h.slots;
      result = result_more h.method x.result h.result;
      stands = h.stands;
      inside = h.inside;
      plain = h.plain;
    }

  pub maker_more : {refs more : Referents} {x : CallRecord} {k : ℕ} → Extends refs more → MakerTyped m refs x k → MakerTyped m more x k
  maker_more {refs} {more} {x} {k} extends h = record {
    target = h.target;
    call = h.call;
    next = h.next;
    stands = h.stands;
    class = h.class;
    of_class = extends.objects x.object h.class h.of_class;
    method = h.method;
    called = h.called;
    row = h.row;
    type = h.type;
    results = extends.calls k h.row h.results;
    typed = h.typed;
    takes = h.takes;
  }

  -- another value of its type in a slot of a range
  pub range_set : {refs : Referents} {cells : List Data} (vs : List Value) (first count i : ℕ) (t : ValueType) (v : Value) → RangeTyped m refs cells vs first count →
      declared m first count i ≡ Some t → Has m refs cells v t → RangeTyped m refs cells (slice_set vs i v) first count
  range_set {refs} {cells} vs first count i t v h own has = record { each = each }
    where
      each : (j : ℕ) (u : ValueType) → declared m first count j ≡ Some u → (w : Value) × (slice_get (slice_set vs i v) j ≡ Some w) × Has m refs cells w u
      each j u e = elim (same_or i j) [
        | inl at ↦ (
            let old = h.each i t own in
            let same : t ≡ u = known (sym own ∙ ap (declared m first count) (sym at) ∙ e) in
            (v, ap (slice_get (slice_set vs i v)) at ∙ set_here vs i old.0 v old.1, rw (← same) has)
            )
        | inr ne ↦ (let old = h.each j u e in (old.0, set_other vs i j v ne ∙ old.1, old.2))
      ]

  module _ (c : Configuration) where
    -- another record of a call of the same method
    pub call_extends : (n : ℕ) (x y : CallRecord) → call_at c n ≡ Some x → y.method ≡ x.method → Extends (referents m c) (referents m (with_call c n y))
    call_extends n x y there same = record { objects = λ o k e. e; calls = calls }
      where
        calls : (f r : ℕ) → row_of m (call_at c f) ≡ Some r → row_of m (call_at (with_call c n y) f) ≡ Some r
        calls f r e = elim (same_or n f) [
          | inl at ↦
              ap (row_of m) (ap (item_at (with_item_at c.calls n y)) at ∙ put_here c.calls n x y there)
              ∙ ap (λ (i : ℕ). option_map (λ (z : MethodRow). z.result) (slice_get m.methods i)) same
              ∙ ap (row_of m) (sym (ap (item_at c.calls) at ∙ there)) ∙ e
          | inr ne ↦ ap (row_of m) (put_other c.calls n f y ne) ∙ e
        ]

    -- another record of an object of the same class
    pub object_extends : (n : ℕ) (o p : ObjectRecord) → object_at c n ≡ Some o → p.class ≡ o.class → Extends (referents m c) (referents m (with_object c n p))
    object_extends n o p there same = record { objects = objects; calls = λ f r e. e }
      where
        objects : (k : ℕ) (a : ClassRow) → given (object_at c k) (λ z. slice_get m.classes z.class) ≡ Some a →
            given (object_at (with_object c n p) k) (λ z. slice_get m.classes z.class) ≡ Some a
        objects k a e = elim (same_or n k) [
          | inl at ↦
              ap (class_in m) (ap (item_at (with_item_at c.objects n p)) at ∙ put_here c.objects n o p there)
              ∙ ap (slice_get m.classes) same
              ∙ ap (class_in m) (sym (ap (item_at c.objects) at ∙ there)) ∙ e
          | inr ne ↦ ap (class_in m) (put_other c.objects n k p ne) ∙ e
        ]

    pub new_object_extends : (o : ObjectRecord) (g : ℕ) → Extends (referents m c) (referents m (record c { objects = c.objects ++ o ∷ []; groups = g }))
    new_object_extends o g = record { objects = objects; calls = λ f r e. e }
      where
        objects : (k : ℕ) (a : ClassRow) → given (object_at c k) (λ z. slice_get m.classes z.class) ≡ Some a →
            given (item_at (c.objects ++ o ∷ []) k) (λ z. slice_get m.classes z.class) ≡ Some a
        objects k a e =
            let p = given_parts (object_at c k) (λ z. slice_get m.classes z.class) a e in
            ap (class_in m) (push_old c.objects o k p.0 p.1) ∙ p.2

    pub new_call_extends : (y : CallRecord) → Extends (referents m c) (referents m (record c { calls = c.calls ++ y ∷ [] }))
    new_call_extends y = record { objects = λ o k e. e; calls = calls }
      where
        calls : (f r : ℕ) → row_of m (call_at c f) ≡ Some r → given (item_at (c.calls ++ y ∷ []) f) (result_row m) ≡ Some r
        calls f r e = let p = given_parts (call_at c f) (result_row m) r e in ap (row_of m) (push_old c.calls y f p.0 p.1) ∙ p.2

    module _ (h : ConfigurationTyped m c) where
      -- a call
      pub with_call_typed : (n : ℕ) (x y : CallRecord) → call_at c n ≡ Some x → y.method ≡ x.method → CallTyped m (referents m c) c.cells y →
          ((k : ℕ) → callee_of y.state ≡ Some k → MakerTyped m (referents m c) y k) → ConfigurationTyped m (with_call c n y)
      with_call_typed n x y there same typed lacking =
          let d : Configuration = with_call c n y in
          let more = call_extends n x y there same in
          let longer = longer_same c.cells in
          record {
            store = (types_last m (referents m c) (referents m d) more).cells c.cells h.store;
            objects = λ k o e. object_more c.cells c.cells more longer (h.objects k o e);
            calls = put_cases c.calls n x y there (λ k z. CallTyped m (referents m d) c.cells z) (call_more c.cells c.cells more longer typed)
                (λ k z e ne. call_more c.cells c.cells more longer (h.calls k z e));
            makers = λ k callee z e. put_cases c.calls n x y there (λ k z. (callee : ℕ) → callee_of z.state ≡ Some callee → MakerTyped m (referents m d) z callee)
                (λ callee l. maker_more more (lacking callee l)) (λ k z e ne callee l. maker_more more (h.makers k callee z e l)) k z e callee;
          }

      -- an object
      pub with_object_typed : (n : ℕ) (o p : ObjectRecord) → object_at c n ≡ Some o → p.class ≡ o.class → ObjectTyped m (referents m c) c.cells p →
          ConfigurationTyped m (with_object c n p)
      with_object_typed n o p there same typed =
          let d : Configuration = with_object c n p in
          let more = object_extends n o p there same in
          let longer = longer_same c.cells in
          record {
            store = (types_last m (referents m c) (referents m d) more).cells c.cells h.store;
            objects = put_cases c.objects n o p there (λ k z. ObjectTyped m (referents m d) c.cells z) (object_more c.cells c.cells more longer typed)
                (λ k z e ne. object_more c.cells c.cells more longer (h.objects k z e));
            calls = λ k z e. call_more c.cells c.cells more longer (h.calls k z e);
            makers = λ k callee z e l. maker_more more (h.makers k callee z e l);
          }

      -- cells
      pub with_cells_typed : (cells : List Data) → Longer c.cells cells → CellsTyped m (referents m c) cells → ConfigurationTyped m (with_cells c cells)
      with_cells_typed cells longer store =
          let same : Extends (referents m c) (referents m (with_cells c cells)) = record { objects = λ o k e. e; calls = λ f r e. e } in
          record {
            store = store;
            objects = λ k o e. object_more c.cells cells same longer (h.objects k o e);
            calls = λ k z e. call_more c.cells cells same longer (h.calls k z e);
            makers = λ k callee z e l. maker_more same (h.makers k callee z e l);
          }

      -- a new object, and a new call
      pub with_new_object_typed : (o : ObjectRecord) (g : ℕ) → ObjectTyped m (referents m c) c.cells o →
          ConfigurationTyped m (record c { objects = c.objects ++ o ∷ []; groups = g })
      with_new_object_typed o g typed =
          let d : Configuration = record c { objects = c.objects ++ o ∷ []; groups = g } in
          let more = new_object_extends o g in
          let longer = longer_same c.cells in
          record {
            store = (types_last m (referents m c) (referents m d) more).cells c.cells h.store;
            objects = push_cases c.objects o (λ k z. ObjectTyped m (referents m d) c.cells z) (object_more c.cells c.cells more longer typed)
                (λ k z e. object_more c.cells c.cells more longer (h.objects k z e));
            calls = λ k z e. call_more c.cells c.cells more longer (h.calls k z e);
            makers = λ k callee z e l. maker_more more (h.makers k callee z e l);
          }

      pub with_new_call_typed : (y : CallRecord) → CallTyped m (referents m c) c.cells y → callee_of y.state ≡ None →
          ConfigurationTyped m (record c { calls = c.calls ++ y ∷ [] })
      with_new_call_typed y typed none =
          let d : Configuration = record c { calls = c.calls ++ y ∷ [] } in
          let more = new_call_extends y in
          let longer = longer_same c.cells in
          record {
            store = (types_last m (referents m c) (referents m d) more).cells c.cells h.store;
            objects = λ k o e. object_more c.cells c.cells more longer (h.objects k o e);
            calls = push_cases c.calls y (λ k z. CallTyped m (referents m d) c.cells z) (call_more c.cells c.cells more longer typed)
                (λ k z e. call_more c.cells c.cells more longer (h.calls k z e));
            makers = λ k callee z e. push_cases c.calls y (λ k z. (callee : ℕ) → callee_of z.state ≡ Some callee → MakerTyped m (referents m d) z callee)
                (λ callee l. absurd (none-some callee (sym none ∙ l))) (λ k z e callee l. maker_more more (h.makers k callee z e l)) k z e callee;
          }
