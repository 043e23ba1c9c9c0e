-- New objects keep types.
use Rattle.std.proofs.Common.{is_some, not, ◌≡◌, ℕ, ◌+◌, Bool, true, false, cond, List, [], ◌∷◌, ◌++◌, length, Some, None, Err, Option, refl, sym, ap, ◌∙◌}
use Rattle.std.specs.Prelude.{nat_lt}
use Rattle.std.specs.List.{slice_get}
use Rattle.tables.specs.declared.rows.ClassRow.{ClassRow}
use Rattle.tables.specs.Layout.{Content}
use Rattle.rules.specs.Words.{part}
use Rattle.shape.specs.Shape.{is_outside_class}
use Rattle.loading.specs.Laws.{Lawful}
use Rattle.syntax.specs.declared.statements.Creation.{Creation}
use Rattle.syntax.specs.declared.statements.Group.{Group}
use Rattle.syntax.specs.declared.statements.Group.TheVariants as group
use Rattle.syntax.specs.Rows.{given}
use Rattle.syntax.specs.Nodes.{parts}
use Rattle.typing.specs.declared.within.Within.TheVariants as within
use Rattle.typing.specs.Scopes.{Bindings, method_scope}
use Rattle.typing.specs.StatementLaws.{IsCreated, TakesObject}
use Rattle.typing.specs.Statements.{class_parameters, goes_on}
use Rattle.evaluation.specs.declared.value.Value.{Value}
use Rattle.evaluation.specs.declared.value.Value.TheVariants as value
use Rattle.evaluation.specs.Rules.{all_of}
use Rattle.evaluation.proofs.TypedRules.{arguments_kept}
use Rattle.evaluation.specs.Typed.{Worths, Referents, FunctionsTyped}
use Rattle.evaluation.specs.Values.{Data}
use Rattle.evaluation.proofs.TypedTasks.{later_same}
use Rattle.steps.specs.declared.refusal.Refusal.TheVariants as refusal
use Rattle.steps.specs.declared.records.CallRecord.{CallRecord}
use Rattle.steps.specs.Rules as rule
use Rattle.steps.proofs.Items.{push_new}
use Rattle.steps.specs.Changes.{with_cells}
use Rattle.steps.specs.Configurations.{Configuration, call_at, call_environment, group_of}
use Rattle.steps.specs.Creating.{new_by, new_of_class, new_step}
use Rattle.steps.specs.Defaults.{with_defaults}
use Rattle.steps.specs.Outcomes.{silent}
use Rattle.steps.specs.Sound.{referents}
use Rattle.steps_typed.proofs.Endings.{OutcomeTyped, call_after, on_answer_typed, plan_ends}
use Rattle.steps_typed.proofs.Filling.{with_defaults_typed}
use Rattle.steps_typed.proofs.Keeping.{call_more, longer_same, new_object_extends, with_cells_typed, with_new_object_typed}
use Rattle.steps_typed.proofs.Slots.{TargetFits, fields_typed, slots_typed}
use Rattle.steps_typed.proofs.TypedLocal.{Free, advance_fits}
use Rattle.steps_typed.proofs.Typings.{CallTyped, ConfigurationTyped, class_in}
use Rattle.steps.specs.declared.records.ObjectRecord.{ObjectRecord}

module _ (m : Content) (laws : Lawful m) (c : Configuration) (h : ConfigurationTyped m c) (n : ℕ) (x : CallRecord) (there : call_at c n ≡ Some x)
    (functions : FunctionsTyped m) (t : CallTyped m (referents m c) c.cells x) (free : Free x.state) where
  maker_has_group : is_some (group_of c x.object) ≡ true
  maker_has_group =
      let o = fields_typed m c h x t.class t.of_class in
      ap (λ (p : Option ObjectRecord). is_some (given p (λ y. y.group))) o.1 ∙ o.4 ∙ ap not (t.inside free.unfinished)

  -- an object of the class, in a target of an interface that the class lists
  fits_target : (refs : Referents) (cells : List Data) (b : Bindings) (k : ClassRow) (o : ℕ) (target : Option ℕ) → TakesObject m b target k →
      refs.class_of o ≡ Some k → TargetFits m refs cells b target (value.Object o)
  fits_target refs cells b k o None takes found = tt
  fits_target refs cells b k o (Some slot) takes found = (takes.0, takes.1, (k, found, takes.2))

  module _ (target : Option ℕ) (e : Creation) (next : ℕ) (k : ClassRow) (class : slice_get m.classes e.class ≡ Some k)
      (takes : TakesObject m (method_scope m t.class t.method) target k) (stands : goes_on t.method next ≡ true) (vs : List Value) (cells : List Data)
      (args : Worths m (referents m c) (class_parameters m k) c.cells vs cells) where
    -- the fields of the new object
    abbrev fields : List Value
    fields = with_defaults m vs (part k.fields_first k.fields m.lists)

    new_in_typed : (group : Option ℕ) (groups : ℕ) → is_some group ≡ not (is_outside_class k) →
        ConfigurationTyped m (rule.new_in (with_cells c cells) n x group groups e.class fields target next)
    new_in_typed group groups grouped =
        let d : Configuration = with_cells c cells in
        let o : ObjectRecord = record { class = e.class; group = group; fields = fields } in
        let typed = with_cells_typed m c h cells args.longer args.typed in
        let hold = with_defaults_typed m laws.defaults (referents m d) cells vs k.fields_first k.fields k.parameters (class_parameters m k) args.fit refl in
        let after = with_new_object_typed m d typed o groups (record { class = k; there = class; fields = hold; grouped = grouped }) in
        let more = new_object_extends m d o groups in
        let t' = call_more m cells cells more (longer_same cells) (call_after m c x h functions t cells args.longer) in
        let found : (referents m (record d { objects = d.objects ++ o ∷ []; groups = groups })).class_of (length c.objects + 1) ≡ Some k =
        ap (class_in m) (push_new c.objects o) ∙ class in
        advance_fits m (record d { objects = d.objects ++ o ∷ []; groups = groups }) after n x there free.unfinished t' next x.state free stands target
        (value.Object (length c.objects + 1))
        (fits_target (referents m (record d { objects = d.objects ++ o ∷ []; groups = groups })) cells (method_scope m t.class t.method) k (length c.objects + 1) target
        takes found)

    -- a new object has a group if it is not of an outside class, since its maker has one
    new_by_typed : (g : Group) (out : Bool) → is_outside_class k ≡ out → ConfigurationTyped m (new_by m c n x g out (with_cells c cells) e.class fields target next)
    new_by_typed g true is = new_in_typed None c.groups (sym (ap not is))
    new_by_typed group.Own false is = new_in_typed (group_of c x.object) c.groups (maker_has_group ∙ sym (ap not is))
    new_by_typed group.New false is = new_in_typed (Some (c.groups + 1)) (c.groups + 1) (sym (ap not is))

    new_if_room_typed : (room : Bool) → OutcomeTyped m (cond room
        (silent (new_by m c n x e.group (is_outside_class k) (with_cells c cells) e.class fields target next))
        (Err refusal.NoObjectLeft))
    new_if_room_typed true = new_by_typed e.group (is_outside_class k) refl
    new_if_room_typed false = tt

    new_of_class_typed : OutcomeTyped m (new_of_class m c n x target e next vs (with_cells c cells) (slice_get m.classes e.class))
    new_of_class_typed = rw class (new_if_room_typed (nat_lt (length c.objects) 64))

  pub new_typed : (target : Option ℕ) (e : Creation) (next : ℕ) → IsCreated m t.class t.method (method_scope m t.class t.method) target e →
      goes_on t.method next ≡ true → OutcomeTyped m (new_step m c n x target e next)
  new_typed target e next is stands =
      let k = is.0 in
      let b : Bindings = method_scope m t.class t.method in
      let Q = Worths m (referents m c) (class_parameters m k) c.cells in
      on_answer_typed m c x Q (all_of (parts e.arguments) (call_environment c x)) (λ vs d. new_of_class m c n x target e next vs d (slice_get m.classes e.class))
      (plan_ends m (referents m c) x.object functions Q (all_of (parts e.arguments) (call_environment c x))
      (record { left = 10000; cells = c.cells })
      (arguments_kept m (referents m c) x.object (within.Class t.class) t.of_class (call_environment c x) b (parts e.arguments) (class_parameters m k) is.2
      (later_same m (referents m c) c.cells h.store) (slots_typed m c h x t)))
      (λ vs cells args. new_of_class_typed target e next k is.1 is.3 stands vs cells args)
