-- A run that was opened over an outside in which nothing waits is sound.
use Rattle.std.proofs.Common.{not, ◌≡◌, ℕ, zero, suc, ◌+◌, ◌<◌, true, List, [], ◌∷◌, Some, None, Option, refl, sym, ap, subst, ◌∙◌, arith, is_some, lit≤}
use Rattle.std.specs.Prelude.{◌&&◌, nat_lt}
use Rattle.std.specs.List.{slice_get}
use Rattle.std.specs.Option.{option_map}
use Rattle.std.proofs.lemmas.Bool.{and_parts, false≢true, ltb-true}
use Rattle.std.proofs.lemmas.Option.{none-some}
use Rattle.tables.specs.Layout.{Content}
use Rattle.rules.proofs.Rows.{known}
use Rattle.loading.specs.Laws.{IsClass, IsMethod, Lawful}
use Rattle.syntax.specs.declared.types.ValueType.{ValueType}
use Rattle.syntax.specs.Rows.{given}
use Rattle.syntax.proofs.Parts.{when_parts}
use Rattle.typing.specs.Scopes.{declared, entry_type}
use Rattle.evaluation.specs.declared.value.Value.{Value}
use Rattle.evaluation.specs.Typed.{Has, Referents}
use Rattle.evaluation.specs.Values.{Data}
use Rattle.steps.specs.declared.records.CallRecord.{CallRecord}
use Rattle.steps.specs.declared.state.CallState.TheVariants as state
use Rattle.steps.specs.Calling.{first_moment}
use Rattle.steps.specs.Configurations.{Configuration, call_at, item_at}
use Rattle.steps.specs.Opening.{first_call, first_calls, first_object, first_configuration}
use Rattle.steps.specs.Sound.{Beside, InOrder, Sound, calls_outside, referents}
use Rattle.steps.specs.States.{callee_of, is_ended, is_unfinished}
use Rattle.loading.specs.Accepted.{IsAccepted}
use Rattle.loading.specs.Shapes.{HasMainClass, WellShaped}
use Rattle.steps_typed.proofs.Equivalence.{configuration_is_typed}
use Rattle.steps_typed.proofs.Filling.{with_defaults_typed}
use Rattle.steps_typed.proofs.Typings.{CallTyped, ConfigurationTyped, MakerTyped, ObjectTyped, RangeTyped}
use Rattle.steps_laws.specs.Laws.{OpensSound}

-- all that stands in a list of one
only : {A : Type 0} (x : A) (P : ℕ → A → Type 0) → P 1 x → (n : ℕ) (y : A) → item_at (x ∷ []) n ≡ Some y → P n y
only x P h zero y e = absurd (none-some y e)
only x P h (suc zero) y e = subst (P 1) (known e) h
only x P h (suc (suc n)) y e = absurd (none-some y e)

module _ (m : Content) (laws : Lawful m) (shaped : WellShaped m) where
  pub main : HasMainClass m
  main = shaped.main

  abbrev pub call : CallRecord
  call = first_moment m (record { object = 1; arguments = [] }) main.class.methods_first main.method (state.Active None) None

  abbrev pub beginning : List CallRecord → Configuration
  beginning calls = record { objects = first_object ∷ []; calls = calls; cells = []; groups = 1; returned = 0; answered = 0 }

  abbrev pub first : Configuration
  first = beginning (call ∷ [])

  pub opened_is : first ≡ first_configuration m
  opened_is =
      ap beginning (sym (ap (λ (o : Option _). first_calls m (option_map (λ k. k.methods_first) o)) main.class_there
      ∙ ap (first_call m main.class.methods_first) main.method_there))

  -- there is no slot
  no_slots : (refs : Referents) (cells : List Data) (vs : List Value) (start count : ℕ) → count ≡ 0 → RangeTyped m refs cells vs start count
  no_slots refs cells vs start count none = record { each = each }
    where
      each : (i : ℕ) (t : ValueType) → declared m start count i ≡ Some t → (v : Value) × (slice_get vs i ≡ Some v) × Has m refs cells v t
      each i t e =
          let p = when_parts (nat_lt i 8 && nat_lt i count) (given (slice_get m.lists (start + i)) (entry_type m)) t e in
          let lt : i < count = ltb-true i count (and_parts (nat_lt i 8) (nat_lt i count) p.0).1 in
          absurd (omega (arith, none))

  is_class : IsClass m main.class
  is_class = (0, main.class_there)

  is_method : IsMethod m main.class main.method
  is_method = (main.class.methods_first, main.method_there, main.belongs)

  call_typed : CallTyped m (referents m first) [] call
  call_typed = record {
    class = main.class;
    of_class = main.class_there;
    method = main.method;
    called = main.method_there;
    belongs = main.belongs;
    slots = with_defaults_typed m laws.defaults (referents m first) [] [] main.method.slots_first main.method.slots 0 [] tt refl;
    result = tt;
    stands = λ e. shaped.starts main.class main.method is_class is_method main.inside;
    inside = λ e. main.inside;
    plain = λ e. absurd (false≢true e);
  }

  first_typed : ConfigurationTyped m first
  first_typed = record {
    store = λ i d e. absurd (none-some d e);
    objects = only first_object (λ n o. ObjectTyped m (referents m first) [] o) (record {
      class = main.class;
      there = main.class_there;
      fields = no_slots (referents m first) [] [] main.class.fields_first main.class.fields main.no_fields;
      grouped = ap not (sym main.inside);
    });
    calls = only call (λ n x. CallTyped m (referents m first) [] x) call_typed;
    makers = λ n k x e. only call (λ n x. (k : ℕ) → callee_of x.state ≡ Some k → MakerTyped m (referents m first) x k) (λ k l. absurd (none-some k l)) n x e k;
  }

  first_order : InOrder first
  first_order = record {
    one_active = λ n k x y ex ey ax ay near.
        only call (λ n x. n ≡ 1) refl n x ex ∙ sym (only call (λ k y. k ≡ 1) refl k y ey);
    resolved = only call (λ n x. is_some x.result ≡ is_ended x.state) refl;
    calling = λ n k x e. only call (λ n x. x.state ≡ state.Calling k → (y : CallRecord) × (call_at first k ≡ Some y) × (y.caller ≡ Some n) × (is_unfinished y.state ≡ true))
        (λ to. absurd cc) n x e;
    callers = λ n k x e. only call (λ n x. is_unfinished x.state ≡ true → x.caller ≡ Some k →
        (y : CallRecord) × (call_at first k ≡ Some y) × (y.state ≡ state.Calling n) × Beside first y x)
        (λ unfinished own. absurd (none-some k own)) n x e;
    balance = refl;
    few = lit≤ tt;
  }

  first_out : (n : ℕ) → calls_outside m first n ≡ None
  first_out zero = refl
  first_out (suc zero) = refl
  first_out (suc (suc n)) = refl

pub opens_sound : (m : Content) → IsAccepted m → OpensSound m
opens_sound m k w none =
    let P : Configuration → Type 0 = λ c. Sound m c w in
    subst P (opened_is m k.lawful k.shaped) (record {
      typed = configuration_is_typed m (first m k.lawful k.shaped) (first_typed m k.lawful k.shaped);
      order = first_order m k.lawful k.shaped;
      outside = λ n. none n ∙ sym (first_out m k.lawful k.shaped n);
    })
