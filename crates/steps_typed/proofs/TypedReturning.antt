-- Returns and the results of synchronous calls keep types.
use Rattle.std.proofs.Common.{◌≡◌, ℕ, ◌+◌, true, All, List, [], Some, None, Option, refl, sym, ap, subst, ◌∙◌}
use Rattle.std.proofs.lemmas.Bool.{false≢true}
use Rattle.std.proofs.lemmas.List.Elements.{All-head}
use Rattle.std.proofs.lemmas.Option.{none-some}
use Rattle.tables.specs.declared.rows.ClassRow.{ClassRow}
use Rattle.tables.specs.declared.rows.MethodRow.{MethodRow}
use Rattle.tables.specs.Layout.{Content}
use Rattle.rules.proofs.Rows.{known}
use Rattle.loading.specs.Laws.{IsMethod, WellTyped, Lawful}
use Rattle.syntax.specs.declared.statements.Statement.{Statement}
use Rattle.syntax.specs.declared.statements.Statement.TheVariants as statement
use Rattle.syntax.specs.declared.types.ValueType.{ValueType}
use Rattle.syntax.specs.Rows.{given}
use Rattle.syntax.specs.Statements.{statement_of}
use Rattle.syntax.specs.Types.{type_at}
use Rattle.typing.specs.declared.within.Within.TheVariants as within
use Rattle.typing.specs.Expressions.{type_in}
use Rattle.typing.specs.Scopes.{method_scope}
use Rattle.typing.specs.StatementLaws.{InvertsStatement, Takes, successors}
use Rattle.typing.specs.Statements.{goes_on}
use Rattle.evaluation.specs.declared.value.Value.{Value}
use Rattle.evaluation.specs.Plans.{ask}
use Rattle.evaluation.specs.Typed.{Referents, Has, FunctionsTyped, Worth}
use Rattle.evaluation.specs.Values.{Data}
use Rattle.steps.specs.declared.state.CallState.{CallState}
use Rattle.steps.specs.declared.state.CallState.TheVariants as state
use Rattle.steps.specs.declared.records.CallRecord.{CallRecord}
use Rattle.steps.proofs.Items.{put_other}
use Rattle.steps.specs.Changes.{as_ended, as_waiting, with_call, with_cells}
use Rattle.steps.specs.Configurations.{Configuration, call_at, call_environment, statement_at, value_at}
use Rattle.steps.specs.Outcomes.{silent}
use Rattle.steps.specs.Returning.{resume, return_step, store_result, store_step}
use Rattle.steps.specs.Sound.{referents}
use Rattle.steps.specs.States.{callee_of, is_unfinished}
use Rattle.steps_typed.proofs.Endings.{OutcomeTyped, call_after, in_state_typed, on_answer_typed, worth_ends}
use Rattle.steps_typed.proofs.Keeping.{with_call_typed, with_cells_typed}
use Rattle.steps_typed.proofs.Slots.{fields_typed}
use Rattle.steps_typed.proofs.TypedLocal.{advance_stores, free_active, future_has}
use Rattle.steps_typed.proofs.Typings.{CallTyped, ConfigurationTyped, MakerTyped}
use Rattle.steps.specs.Rules as rule

module _ (m : Content) where
  -- a call that ended with a value of its type
  abbrev pub as_ended_typed : {refs : Referents} {cells : List Data} (x : CallRecord) (t : CallTyped m refs cells x) (v : Value) (u : ValueType) →
      type_at m t.method.result ≡ Some u → Has m refs cells v u → CallTyped m refs cells (as_ended x v)
  as_ended_typed x t v u type has = record {
    class = t.class;
    of_class = t.of_class;
    method = t.method;
    called = t.called;
    belongs = t.belongs;
    slots = t.slots;
    result = (u, type, has);
    stands = λ e. absurd (false≢true e);
    inside = λ e. absurd (false≢true e);
    plain = λ e. absurd (false≢true e);
  }

  -- a maker in another state
  pub maker_as : {refs : Referents} {x : CallRecord} {k : ℕ} (s : CallState) → MakerTyped m refs x k → MakerTyped m refs (record x { state = s }) k
  maker_as s h = record {
    target = h.target;
    call = h.call;
    next = h.next;
    stands = h.stands;
    class = h.class;
    of_class = h.of_class;
    method = h.method;
    called = h.called;
    row = h.row;
    type = h.type;
    results = h.results;
    typed = h.typed;
    takes = h.takes;
  }

  -- The counters have no types.
  pub counters_typed : (c : Configuration) (returned answered : ℕ) → ConfigurationTyped m c → ConfigurationTyped m (record c { returned = returned; answered = answered })
  counters_typed c returned answered h = record { store = h.store; objects = h.objects; calls = h.calls; makers = h.makers }

  -- the caller that waits becomes active
  cog_sync_return_typed : (c : Configuration) (h : ConfigurationTyped m c) (n k : ℕ) (y : CallRecord) → call_at c k ≡ Some y → y.state ≡ state.Calling n → ConfigurationTyped m (with_call c k (as_waiting y n))
  cog_sync_return_typed c h n k y caller calls =
      let t = h.calls k y caller in
      let l = h.makers k n y caller (ap callee_of calls) in
      with_call_typed m c h k y (as_waiting y n) caller refl
      (in_state_typed m y t y.statement (state.Active (Some n)) (λ e. t.stands (ap is_unfinished calls)) (λ e. t.inside (ap is_unfinished calls)) (λ e. absurd (false≢true e)))
      (λ j e. subst (MakerTyped m (referents m c) (as_waiting y n)) (known e) (maker_as (state.Active (Some n)) l))

  module _ (c : Configuration) (h : ConfigurationTyped m c) (n : ℕ) (x : CallRecord) (there : call_at c n ≡ Some x) where
    -- the statement at which an unfinished process stands
    pub statement_stands : WellTyped m → Lawful m → (t : CallTyped m (referents m c) c.cells x) → is_unfinished x.state ≡ true →
        (z : Statement) × (statement_at m x.statement ≡ Some z) × InvertsStatement m t.class t.method (method_scope m t.class t.method) z
    statement_stands typed laws t unfinished =
        let o = fields_typed m c h x t.class t.of_class in
        let belongs : IsMethod m t.class t.method = (x.method, t.called, t.belongs) in
        let stands = t.stands unfinished in
        let y = laws.rows t.class t.method x.statement belongs stands in
        let z = typed.statements t.class t.method y.0 (o.0.class, o.2) belongs (x.statement, y.1, stands) in
        (z.0, ap (λ (r : Option _). given r statement_of) y.1 ∙ z.1, z.2)

    -- The result of a synchronous call is put into its target.
    store_result_typed : (t : CallTyped m (referents m c) c.cells x) → WellTyped m → Lawful m → is_unfinished x.state ≡ true → (callee : ℕ) → MakerTyped m (referents m c) x callee →
        (o : Option Value) → value_at c callee ≡ o → OutcomeTyped m (store_result m c n x o)
    store_result_typed t typed laws unfinished callee l None e = tt
    store_result_typed t typed laws unfinished callee l (Some v) e =
        let z = statement_stands typed laws t unfinished in
        let at : z.0 ≡ statement.Call l.target l.call l.next = known (sym z.1 ∙ l.stands) in
        let class : l.class ≡ t.class = known (sym l.of_class ∙ t.of_class) in
        let method : l.method ≡ t.method = known (sym l.called ∙ t.called) in
        let P : Statement → Type 0 = λ s. All (λ r. goes_on t.method r ≡ true) (successors s) in
        let stands : goes_on t.method l.next ≡ true = All-head (λ (r : ℕ). goes_on t.method r ≡ true) l.next [] (subst P at z.2.within) in
        let Q : ClassRow → Type 0 = λ k. Takes (method_scope m k l.method) l.target l.type in
        let R : MethodRow → Type 0 = λ y. Takes (method_scope m t.class y) l.target l.type in
        let has = future_has m c h n x there callee l.row l.type v l.results l.typed e in
        rw l.stands (advance_stores m c h n x there unfinished t l.next (state.Active None) free_active stands l.target v l.type (subst R method (subst Q class l.takes)) has)

    pub store_typed : (t : CallTyped m (referents m c) c.cells x) → WellTyped m → Lawful m → is_unfinished x.state ≡ true → (callee : ℕ) → MakerTyped m (referents m c) x callee →
        OutcomeTyped m (store_step m c n x callee)
    store_typed t typed laws unfinished callee l = store_result_typed t typed laws unfinished callee l (value_at c callee) refl

  module _ (c : Configuration) (h : ConfigurationTyped m c) (n : ℕ) (x : CallRecord) (there : call_at c n ≡ Some x)
      (functions : FunctionsTyped m) (t : CallTyped m (referents m c) c.cells x) (active : x.state ≡ state.Active None)
      (caller : (k : ℕ) → x.caller ≡ Some k → (y : CallRecord) × (call_at c k ≡ Some y) × (y.state ≡ state.Calling n)) where
    resume_typed : (v : Value) (u : ValueType) (cells : List Data) → type_at m t.method.result ≡ Some u → Worth m (referents m c) u c.cells v cells →
        (o : Option ℕ) → x.caller ≡ o → ConfigurationTyped m (resume (rule.return (with_cells c cells) n x v) n o)
    resume_typed v u cells type w o e =
        let d : Configuration = with_cells c cells in
        let typed = with_cells_typed m c h cells w.longer w.typed in
        let over = as_ended_typed x (call_after m c x h functions t cells w.longer) v u type w.has in
        go (counters_typed (with_call d n (as_ended x v)) (c.returned + 1) c.answered (with_call_typed m d typed n x (as_ended x v) there refl over (λ k l. absurd (none-some k l)))) o e
      where
        go : ConfigurationTyped m (rule.return (with_cells c cells) n x v) → (o : Option ℕ) → x.caller ≡ o →
            ConfigurationTyped m (resume (rule.return (with_cells c cells) n x v) n o)
        go after None e = after
        go after (Some k) e =
            let y = caller k e in
            let apart : k ≡ n → ⊥ = λ at. (
            let same : y.0 ≡ x = known (sym y.1 ∙ ap (call_at c) at ∙ there) in
            let states : state.Calling n ≡ state.Active None = sym y.2 ∙ ap (λ (z : CallRecord). z.state) same ∙ active in
            absurd cc
            ) in
            let still = put_other c.calls n k (as_ended x v) apart ∙ y.1 in
            rw (still, y.2) (cog_sync_return_typed (rule.return (with_cells c cells) n x v) after n k y.0 still y.2)

    pub return_typed : (value : ℕ) (u : ValueType) → type_in m (within.Class t.class) value (method_scope m t.class t.method) ≡ Some u →
        type_at m t.method.result ≡ Some u → OutcomeTyped m (return_step m c n x value)
    return_typed value u typed type =
        on_answer_typed m c x (Worth m (referents m c) u c.cells) (ask value (call_environment c x)) (λ v d. silent (resume (rule.return d n x v) n x.caller))
        (worth_ends m c x h functions t value u typed)
        (λ v cells w. resume_typed v u cells type w x.caller refl)
