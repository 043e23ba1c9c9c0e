-- Local statements keep types.
use Rattle.std.proofs.Common.{◌≡◌, ℕ, Bool, true, false, cond, List, Some, None, Option, refl, sym, ap, subst, ◌∙◌}
use Rattle.std.specs.Option.{option_map}
use Rattle.std.proofs.lemmas.Bool.{false≢true}
use Rattle.std.proofs.lemmas.Option.{none-some}
use Rattle.tables.specs.declared.rows.MethodRow.{MethodRow}
use Rattle.tables.specs.Layout.{Content}
use Rattle.rules.proofs.Rows.{known}
use Rattle.syntax.specs.declared.nodes.Parts.{Parts}
use Rattle.syntax.specs.declared.types.ValueType.{ValueType}
use Rattle.syntax.specs.declared.types.ValueType.TheVariants as type
use Rattle.syntax.specs.Rows.{given}
use Rattle.syntax.specs.Types.{type_at}
use Rattle.syntax.proofs.Parts.{given_parts}
use Rattle.typing.specs.declared.within.Within.TheVariants as within
use Rattle.typing.specs.Expressions.{type_in}
use Rattle.typing.specs.Scopes.{method_scope}
use Rattle.typing.specs.StatementLaws.{Takes}
use Rattle.typing.specs.Statements.{goes_on, value_of}
use Rattle.evaluation.specs.declared.value.Value.{Value}
use Rattle.evaluation.specs.declared.value.Value.TheVariants as value
use Rattle.evaluation.specs.Plans.{ask}
use Rattle.evaluation.specs.Stores.{Longer}
use Rattle.evaluation.specs.Typed.{Has, FunctionsTyped, Worth}
use Rattle.evaluation.specs.Values.{Data, truth_of}
use Rattle.steps.specs.declared.state.CallState.{CallState}
use Rattle.steps.specs.declared.state.CallState.TheVariants as state
use Rattle.steps.specs.declared.records.CallRecord.{CallRecord}
use Rattle.steps.specs.Changes.{with_call, with_cells, with_target}
use Rattle.steps.specs.Configurations.{Configuration, call_at, call_environment, value_at}
use Rattle.steps.specs.Guards.{guard}
use Rattle.steps.specs.Local.{assign_step, await_step, branch_step, get_step, read_future, read_value}
use Rattle.steps.specs.Outcomes.{silent}
use Rattle.steps.specs.Sound.{referents, result_row}
use Rattle.steps.specs.States.{callee_of, is_outside, is_unfinished}
use Rattle.steps_typed.proofs.Endings.{OutcomeTyped, call_after, in_state_typed, on_answer_typed, worth_ends}
use Rattle.steps_typed.proofs.Keeping.{with_call_typed, with_cells_typed}
use Rattle.steps_typed.proofs.Slots.{TargetFits, target_fits, with_target_typed}
use Rattle.steps_typed.proofs.Typings.{CallTyped, ConfigurationTyped, ResultTyped}
use Rattle.steps.specs.Rules as rule

-- a state of an unfinished process that waits for no result
pub record Free (s : CallState) : Type 0 where
  pub no_callee : callee_of s ≡ None
  pub inside : is_outside s ≡ false
  pub unfinished : is_unfinished s ≡ true

pub free_active : Free (state.Active None)
free_active = record { no_callee = refl; inside = refl; unfinished = refl }

pub free_queued : Free state.Queued
free_queued = record { no_callee = refl; inside = refl; unfinished = refl }

module _ (m : Content) (c : Configuration) (h : ConfigurationTyped m c) (n : ℕ) (x : CallRecord) (there : call_at c n ≡ Some x) where
  -- the call at another statement, in a free state
  pub advance_typed : is_unfinished x.state ≡ true → (t : CallTyped m (referents m c) c.cells x) (row : ℕ) (s : CallState) → Free s → goes_on t.method row ≡ true →
      ConfigurationTyped m (with_call c n (record x { statement = row; state = s }))
  advance_typed was t row s free stands =
      with_call_typed m c h n x (record x { statement = row; state = s }) there refl
      (in_state_typed m x t row s (λ u. stands) (λ u. t.inside was) (λ out. absurd (false≢true (sym free.inside ∙ out))))
      (λ k l. absurd (none-some k (sym free.no_callee ∙ l)))

  -- the same with a value in its target
  pub advance_fits : is_unfinished x.state ≡ true → (t : CallTyped m (referents m c) c.cells x) (row : ℕ) (s : CallState) → Free s → goes_on t.method row ≡ true →
      (target : Option ℕ) (v : Value) → TargetFits m (referents m c) c.cells (method_scope m t.class t.method) target v →
      ConfigurationTyped m (with_target c n (record x { statement = row; state = s }) target v)
  advance_fits was t row s free stands target v fit =
      with_target_typed m c h n x (record x { statement = row; state = s }) target v there refl
      (in_state_typed m x t row s (λ f. stands) (λ f. t.inside was) (λ out. absurd (false≢true (sym free.inside ∙ out)))) free.no_callee fit

  pub advance_stores : is_unfinished x.state ≡ true → (t : CallTyped m (referents m c) c.cells x) (row : ℕ) (s : CallState) → Free s → goes_on t.method row ≡ true →
      (target : Option ℕ) (v : Value) (u : ValueType) → Takes (method_scope m t.class t.method) target u → Has m (referents m c) c.cells v u →
      ConfigurationTyped m (with_target c n (record x { statement = row; state = s }) target v)
  advance_stores was t row s free stands target v u takes has =
      advance_fits was t row s free stands target v (target_fits m (referents m c) c.cells (method_scope m t.class t.method) target v u takes has)

  -- the value of a future
  pub future_has : (f r : ℕ) (u : ValueType) (v : Value) → (referents m c).result_of f ≡ Some r → type_at m r ≡ Some u → value_at c f ≡ Some v →
      Has m (referents m c) c.cells v u
  future_has f r u v row type resolved =
      let p = given_parts (call_at c f) (result_row m) r row in
      let y : CallRecord = p.0 in
      let t = h.calls f y p.1 in
      let own : Some t.method.result ≡ Some r =
      sym (ap (option_map (λ (z : MethodRow). z.result)) t.called) ∙ p.2 in
      let value : y.result ≡ Some v = sym (ap (λ (o : Option CallRecord). given o (λ z. z.result)) p.1) ∙ resolved in
      let typed : ResultTyped m (referents m c) c.cells t.method (Some v) =
      subst (ResultTyped m (referents m c) c.cells t.method) value t.result in
      let same : typed.0 ≡ u = known (sym typed.1 ∙ ap (type_at m) (known own) ∙ type) in
      let P : ValueType → Type 0 = λ z. Has m (referents m c) c.cells v z in
      subst P same typed.2

module _ (m : Content) (c : Configuration) (h : ConfigurationTyped m c) (n : ℕ) (x : CallRecord) (there : call_at c n ≡ Some x)
    (functions : FunctionsTyped m) (t : CallTyped m (referents m c) c.cells x) (free : Free x.state) where
  abbrev Here : ℕ → ValueType → Type 0
  Here row u = type_in m (within.Class t.class) row (method_scope m t.class t.method) ≡ Some u

  pub skip_typed : (next : ℕ) → goes_on t.method next ≡ true → OutcomeTyped m (silent (rule.skip c n x next))
  skip_typed next stands = advance_typed m c h n x there free.unfinished t next x.state free stands

  pub assign_typed : (target : Option ℕ) (value next : ℕ) (u : ValueType) → Here value u → Takes (method_scope m t.class t.method) target u →
      goes_on t.method next ≡ true → OutcomeTyped m (assign_step m c n x target value next)
  assign_typed target value next u typed takes stands =
      on_answer_typed m c x (Worth m (referents m c) u c.cells) (ask value (call_environment c x)) (λ v d. silent (rule.assign d n x target v next))
      (worth_ends m c x h functions t value u typed)
      (λ v cells w.
      advance_stores m (with_cells c cells) (with_cells_typed m c h cells w.longer w.typed) n x there free.unfinished (call_after m c x h functions t cells w.longer)
      next x.state free stands target v u takes w.has)

  pub branch_typed : (test next other : ℕ) → Here test type.Bool → goes_on t.method next ≡ true → goes_on t.method other ≡ true →
      OutcomeTyped m (branch_step m c n x test next other)
  branch_typed test next other typed first second =
      on_answer_typed m c x (Worth m (referents m c) type.Bool c.cells) (ask test (call_environment c x))
      (λ v d. silent (cond (truth_of v) (rule.cond_true d n x next) (rule.cond_false d n x other)))
      (worth_ends m c x h functions t test type.Bool typed)
      (λ v cells w. either cells (with_cells_typed m c h cells w.longer w.typed) (call_after m c x h functions t cells w.longer) refl (truth_of v))
    where
      either : (cells : List Data) → ConfigurationTyped m (with_cells c cells) → (t′ : CallTyped m (referents m (with_cells c cells)) cells x) → t′.method ≡ t.method →
          (b : Bool) → ConfigurationTyped m (cond b (rule.cond_true (with_cells c cells) n x next) (rule.cond_false (with_cells c cells) n x other))
      either cells after t′ same true = advance_typed m (with_cells c cells) after n x there free.unfinished t′ next x.state free (rw same first)
      either cells after t′ same false = advance_typed m (with_cells c cells) after n x there free.unfinished t′ other x.state free (rw same second)

  pub suspend_typed : (next : ℕ) → goes_on t.method next ≡ true → OutcomeTyped m (silent (rule.suspend c n x next))
  suspend_typed next stands = advance_typed m c h n x there free.unfinished t next state.Queued free_queued stands

  await_by_typed : (next : ℕ) → goes_on t.method x.statement ≡ true → goes_on t.method next ≡ true → (b : Bool) →
      ConfigurationTyped m (cond b (rule.await_true c n x next) (rule.await_false c n x))
  await_by_typed next stays stands true = advance_typed m c h n x there free.unfinished t next x.state free stands
  await_by_typed next stays stands false = advance_typed m c h n x there free.unfinished t x.statement state.Queued free_queued stays

  pub await_typed : (slots : Parts) (next : ℕ) → goes_on t.method x.statement ≡ true → goes_on t.method next ≡ true → OutcomeTyped m (await_step m c n x slots next)
  await_typed slots next stays stands = await_by_typed next stays stands (guard c (call_environment c x) slots)

  module _ (target : Option ℕ) (next : ℕ) (u w : ValueType) (inner : value_of m u ≡ Some w) (takes : Takes (method_scope m t.class t.method) target w)
      (stands : goes_on t.method next ≡ true) (cells : List Data) (longer : Longer c.cells cells) (after : ConfigurationTyped m (with_cells c cells)) where
    read_value_typed : (f r : ℕ) → (referents m c).result_of f ≡ Some r → u ≡ type.Future r → (o : Option Value) → value_at (with_cells c cells) f ≡ o →
        OutcomeTyped m (read_value m c n x target next (with_cells c cells) o)
    read_value_typed f r row is None e = tt
    read_value_typed f r row is (Some v) e =
        advance_stores m (with_cells c cells) after n x there free.unfinished (call_after m c x h functions t cells longer) next x.state free stands target v w takes
        (future_has m (with_cells c cells) after n x there f r w v row (sym (ap (value_of m) is) ∙ inner) e)

    read_future_typed : (v : Value) → Has m (referents m c) cells v u → OutcomeTyped m (read_future m c n x target next v (with_cells c cells))
    read_future_typed value.Unit has = tt
    read_future_typed (value.Bool b) has = tt
    read_future_typed (value.Int z) has = tt
    read_future_typed value.Null has = tt
    read_future_typed (value.Object o) has = tt
    read_future_typed (value.Future f) has = read_value_typed f has.0 has.1 has.2 (value_at (with_cells c cells) f) refl
    read_future_typed (value.Constant k) has = tt
    read_future_typed (value.Cell i) has = tt

  pub get_typed : (target : Option ℕ) (future next : ℕ) (u w : ValueType) → Here future u → value_of m u ≡ Some w → Takes (method_scope m t.class t.method) target w →
      goes_on t.method next ≡ true → OutcomeTyped m (get_step m c n x target future next)
  get_typed target future next u w typed inner takes stands =
      on_answer_typed m c x (Worth m (referents m c) u c.cells) (ask future (call_environment c x)) (read_future m c n x target next)
      (worth_ends m c x h functions t future u typed)
      (λ v cells w'. read_future_typed target next u w inner takes stands cells w'.longer (with_cells_typed m c h cells w'.longer w'.typed) v w'.has)
