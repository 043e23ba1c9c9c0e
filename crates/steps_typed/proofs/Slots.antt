-- What a statement's slots are bound to, and values that are put into them.
use Rattle.std.proofs.Common.{not, ◌≡◌, ℕ, zero, suc, ◌+◌, ◌-◌, ◌<◌, true, false, ◌&&◌, ◌⊎◌, List, [], Some, None, Option, refl, sym, ap, ◌∙◌, inl, inr, arith}
use Rattle.std.specs.Prelude.{nat_lt, is_some, slice_set, ⊤}
use Rattle.std.specs.List.{slice_get}
use Rattle.std.proofs.lemmas.Bool.{lt-ltb, le-ltb, ltb-true, and_parts}
use Rattle.std.proofs.lemmas.Option.{none-some}
use Rattle.tables.specs.declared.rows.ClassRow.{ClassRow}
use Rattle.tables.specs.declared.rows.MethodRow.{MethodRow}
use Rattle.tables.specs.Layout.{Content}
use Rattle.shape.specs.Shape.{is_outside_class}
use Rattle.mapping.specs.Bindings.{lookup}
use Rattle.rules.proofs.Rows.{known}
use Rattle.syntax.specs.declared.types.ValueType.{ValueType}
use Rattle.syntax.specs.Rows.{given}
use Rattle.syntax.proofs.Parts.{given_parts, when_parts}
use Rattle.typing.specs.declared.within.Within.TheVariants as within
use Rattle.typing.specs.Scopes.{Bindings, declared, entry_type, method_scope, slots_from}
use Rattle.typing.specs.StatementLaws.{Takes}
use Rattle.evaluation.specs.declared.value.Value.{Value}
use Rattle.evaluation.proofs.TypedArguments.{bind_parts, bound_at, bound_below}
use Rattle.evaluation.specs.Rules.{bound_from}
use Rattle.evaluation.specs.Typed.{Referents, Has, SlotsTyped}
use Rattle.evaluation.specs.Values.{Data}
use Rattle.steps.specs.declared.records.CallRecord.{CallRecord}
use Rattle.steps.specs.declared.records.ObjectRecord.{ObjectRecord}
use Rattle.steps.specs.Changes.{with_object, with_target}
use Rattle.steps.specs.Configurations.{Configuration, call_at, call_environment, fields_of, object_at}
use Rattle.steps.specs.Sound.{referents}
use Rattle.steps.specs.States.{callee_of}
use Rattle.steps_typed.proofs.Keeping.{call_more, longer_same, object_extends, range_set, with_call_typed, with_object_typed}
use Rattle.steps_typed.proofs.Typings.{CallTyped, ConfigurationTyped, RangeTyped}

-- a slot that is bound in a scope is one of those bound last, with its type, or was bound before
range_parts : (offset : ℕ) (types : ℕ → Option ValueType) (n : ℕ) (s : Bindings) (slot : ℕ) (t : ValueType) → lookup slot (slots_from offset types n s) ≡ Some t →
    ((i : ℕ) × (slot ≡ offset + i) × (types i ≡ Some t)) ⊎ (lookup slot s ≡ Some t)
range_parts offset types zero s slot t e = inr e
range_parts offset types (suc n) s slot t e = elim (bind_parts (offset + n) (types n) (slots_from offset types n s) slot t e) [
  | inl p ↦ inl (n, p.0, p.1)
  | inr older ↦ range_parts offset types n s slot t older
]

-- a value has the type of the target, if there is one
abbrev pub TargetFits : Content → Referents → List Data → Bindings → Option ℕ → Value → Type 0
TargetFits m refs cells b None v = ⊤
TargetFits m refs cells b (Some slot) v = (u : ValueType) × (lookup slot b ≡ Some u) × Has m refs cells v u

pub target_fits : (m : Content) (refs : Referents) (cells : List Data) (b : Bindings) (target : Option ℕ) (v : Value) (u : ValueType) → Takes b target u →
    Has m refs cells v u → TargetFits m refs cells b target v
target_fits m refs cells b None v u takes has = tt
target_fits m refs cells b (Some slot) v u takes has = (u, takes, has)

module _ (m : Content) where
  declared_few : (first count i : ℕ) (t : ValueType) → declared m first count i ≡ Some t → i < 8
  declared_few first count i t e =
      let p = when_parts (nat_lt i 8 && nat_lt i count) (given (slice_get m.lists (first + i)) (entry_type m)) t e in
      ltb-true i 8 (and_parts (nat_lt i 8) (nat_lt i count) p.0).0

  -- a slot of a scope is a field or a slot of the call, with its type
  pub slot_parts : (k : ClassRow) (y : MethodRow) (slot : ℕ) (t : ValueType) → lookup slot (method_scope m k y) ≡ Some t →
      ((i : ℕ) × (slot ≡ 128 + i) × (declared m k.fields_first k.fields i ≡ Some t))
      ⊎ ((slot < 128) × (declared m y.slots_first y.slots slot ≡ Some t))
  slot_parts k y slot t e =
      elim (range_parts 128 (declared m k.fields_first k.fields) k.fields (slots_from 0 (declared m y.slots_first y.slots) y.slots []) slot t e) [
        | inl p ↦ inl p
        | inr older ↦ elim (range_parts 0 (declared m y.slots_first y.slots) y.slots [] slot t older) [
          | inl p ↦ (
              let few = declared_few y.slots_first y.slots p.0 t p.2 in
              let at : slot ≡ p.0 = omega (arith, p.1) in
              inr (omega arith, ap (declared m y.slots_first y.slots) at ∙ p.2)
              )
          | inr none ↦ absurd (none-some t none)
        ]
      ]

  module _ (c : Configuration) (h : ConfigurationTyped m c) where
    -- the fields of a call's object
    pub fields_typed : (x : CallRecord) (k : ClassRow) → (referents m c).class_of x.object ≡ Some k →
        (o : ObjectRecord) × (object_at c x.object ≡ Some o) × (slice_get m.classes o.class ≡ Some k) × RangeTyped m (referents m c) c.cells o.fields k.fields_first k.fields
        × (is_some o.group ≡ not (is_outside_class k))
    fields_typed x k e =
        let p = given_parts (object_at c x.object) (λ y. slice_get m.classes y.class) k e in
        let o = h.objects x.object p.0 p.1 in
        let same : o.class ≡ k = known (sym o.there ∙ p.2) in
        (p.0, p.1, p.2, rw same at o.fields, rw same at o.grouped)

    -- the slots that a call's statement sees
    pub slots_typed : (x : CallRecord) (t : CallTyped m (referents m c) c.cells x) →
        SlotsTyped m (referents m c) (within.Class t.class) c.cells (call_environment c x) (method_scope m t.class t.method)
    slots_typed x t = record { bound = bound; declared = λ f is slot v u e e'. absurd cc }
      where
        bound : (slot : ℕ) (u : ValueType) → lookup slot (method_scope m t.class t.method) ≡ Some u →
            (v : Value) × (lookup slot (call_environment c x) ≡ Some v) × Has m (referents m c) c.cells v u
        bound slot u e =
            let o = fields_typed x t.class t.of_class in
            let fields : fields_of (object_at c x.object) ≡ o.0.fields = ap fields_of o.1 in
            elim (slot_parts t.class t.method slot u e) [
              | inl p ↦ (
                  let v = o.3.each p.0 u p.2 in (
                    v.0,
                    ap (λ (vs : List Value). lookup slot (bound_from 128 vs (bound_from 0 x.slots []))) fields
                        ∙ bound_at 128 o.0.fields (bound_from 0 x.slots []) p.0 slot v.0 p.1 v.1,
                    v.2,
                  )
                  )
              | inr p ↦ (
                  let v = t.slots.each slot u p.1 in (
                    v.0,
                    bound_below 128 (fields_of (object_at c x.object)) (bound_from 0 x.slots []) slot p.0
                        ∙ bound_at 0 x.slots [] slot slot v.0 (omega arith) v.1,
                    v.2,
                  )
                  )
            ]

    -- a call with another value in a slot
    slot_set : (x : CallRecord) (t : CallTyped m (referents m c) c.cells x) (slot : ℕ) (u : ValueType) (v : Value) →
        declared m t.method.slots_first t.method.slots slot ≡ Some u → Has m (referents m c) c.cells v u →
        CallTyped m (referents m c) c.cells (record x { slots = slice_set x.slots slot v })
    slot_set x t slot u v own has = record {
      class = t.class;
      of_class = t.of_class;
      method = t.method;
      called = t.called;
      belongs = t.belongs;
      slots = range_set m x.slots t.method.slots_first t.method.slots slot u v t.slots own has;
      result = t.result;
      stands = t.stands;
      inside = t.inside;
      plain = t.plain;
    }

    -- A call as it has become, and a value of the target's type in its target.
    pub with_target_typed : (n : ℕ) (x y : CallRecord) (target : Option ℕ) (v : Value) → call_at c n ≡ Some x → y.method ≡ x.method →
        (t : CallTyped m (referents m c) c.cells y) → callee_of y.state ≡ None → TargetFits m (referents m c) c.cells (method_scope m t.class t.method) target v →
        ConfigurationTyped m (with_target c n y target v)
    with_target_typed n x y None v there same t none fit = with_call_typed m c h n x y there same t (λ k l. absurd (none-some k (sym none ∙ l)))
    with_target_typed n x y (Some slot) v there same t none fit = let u : ValueType = fit.0 in let has = fit.2 in elim (slot_parts t.class t.method slot u fit.1) [
      | inl p ↦ (
          let o = fields_typed y t.class t.of_class in
          let at : slot - 128 ≡ p.0 = omega (arith, p.1) in
          let far : nat_lt slot 128 ≡ false = le-ltb slot 128 (omega (arith, p.1)) in
          let q : ObjectRecord = record o.0 { fields = slice_set o.0.fields (slot - 128) v } in
          let own : declared m t.class.fields_first t.class.fields (slot - 128) ≡ Some u = ap (declared m t.class.fields_first t.class.fields) at ∙ p.2 in
          let d : Configuration = with_object c y.object q in
          let typed : ConfigurationTyped m d =
          with_object_typed m c h y.object o.0 q o.1 refl
          (record { class = t.class; there = o.2; fields = range_set m o.0.fields t.class.fields_first t.class.fields (slot - 128) u v o.3 own has; grouped = o.4 }) in
          let moved = call_more m c.cells c.cells (object_extends m c y.object o.0 q o.1 refl) (longer_same c.cells) t in
          rw (far, o.1) (with_call_typed m d typed n x y there same moved (λ k l. absurd (none-some k (sym none ∙ l))))
          )
      | inr p ↦ (
          let near : nat_lt slot 128 ≡ true = lt-ltb slot 128 p.0 in
          rw near (with_call_typed m c h n x (record y { slots = slice_set y.slots slot v }) there same (slot_set y t slot u v p.1 has)
          (λ k l. absurd (none-some k (sym none ∙ l))))
          )
    ]
