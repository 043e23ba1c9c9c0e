-- Patterns keep types: where a pattern fits, its variables are bound to values of their types.
use Rattle.std.proofs.Common.{◌≡◌, ℕ, zero, suc, ◌<◌, Bool, true, false, cond, List, [], ◌∷◌, length, zip, Some, None, Option, refl, sym, ap, subst, ◌∙◌, arith}
use Rattle.std.specs.Prelude.{◌==◌, nat_lt}
use Rattle.std.specs.List.{slice_get}
use Rattle.std.proofs.lemmas.Bool.{eqb-true, lt-ltb}
use Rattle.std.proofs.lemmas.Option.{none-some}
use Rattle.tables.specs.declared.rows.FunctionRow.{FunctionRow}
use Rattle.tables.specs.declared.rows.ListRow.{ListRow}
use Rattle.tables.specs.Layout.{Content}
use Rattle.mapping.specs.Bindings.{lookup}
use Rattle.rules.proofs.Rows.{known}
use Rattle.syntax.specs.declared.nodes.Node.{Node}
use Rattle.syntax.specs.declared.nodes.Node.TheVariants as node
use Rattle.syntax.specs.declared.nodes.Parts.{Parts}
use Rattle.syntax.specs.declared.types.ValueType.{ValueType}
use Rattle.syntax.specs.Descent.{below}
use Rattle.syntax.specs.Nodes.{parts}
use Rattle.syntax.specs.Rows.{when}
use Rattle.typing.specs.declared.within.Within.TheVariants as within
use Rattle.typing.specs.ExpressionLaws.{ArgumentsFit}
use Rattle.typing.specs.PatternLaws.{ChildrenFit, ConstructorFits, FitsAs}
use Rattle.typing.specs.Patterns.{parameters_of, pattern_scope}
use Rattle.typing.specs.Scopes.{Bindings, declared, bind_free}
use Rattle.typing.proofs.PatternLaws.{inverts_pattern}
use Rattle.evaluation.specs.declared.value.Value.{Value}
use Rattle.evaluation.specs.declared.value.Value.TheVariants as value
use Rattle.evaluation.specs.Matching.{Fit, no_fit, never_fits, fit_of, fit_rule, literal, literal_fit, bound_fit, variable_fit, pairs_fit, parts_fit, data_fit, constructor_fit}
use Rattle.evaluation.specs.Plans.{Environment, done}
use Rattle.evaluation.specs.Typed.{Referents, Has, DataTyped, CellsTyped, SlotsTyped}
use Rattle.evaluation.specs.Values.{Data, truth_of, same_value}
use Rattle.evaluation.proofs.Matching.{fit_step_lem}
use Rattle.evaluation.proofs.Meeting.{Meets, meets_then}
use Rattle.evaluation.proofs.TypedTasks.{Later, later_same, later_then, later_worth, has_later, slots_later, slot_new, slot_seen, typing}
use Rattle.evaluation.proofs.TypedValues.{arguments_map, cell_typed}

module _ (m : Content) (refs : Referents) (this : ℕ) (f : FunctionRow) where
  -- the slots of a scope, in the function
  abbrev InScope : List Data → Environment → Bindings → Type 0
  InScope = SlotsTyped m refs (within.Function f)

  -- What a pattern answers: the environment behind it is typed by the scope behind it.
  abbrev pub Fitted : Bindings → List Data → Option Environment → List Data → Type 0
  Fitted b start None later = Later m refs start later
  Fitted b start (Some s) later = Later m refs start later × InScope later s b

  abbrev FitMeets : Bindings → List Data → List Data → Fit → Type 0
  FitMeets b start cells p = Meets (typing m refs this) (Fitted b start) cells p

  -- the environment as it is, under a condition
  fits_when : {start cells : List Data} {s : Environment} {b : Bindings} (fits : Bool) → Later m refs start cells → InScope cells s b →
      FitMeets b start cells (done (when fits (Some s)))
  fits_when true later slots = (later, slots)
  fits_when false later slots = later

  literal_kept : {cells : List Data} (s : Environment) (b b' : Bindings) (own v : Value) → b' ≡ b → CellsTyped m refs cells → InScope cells s b →
      FitMeets b' cells cells (literal_fit s own v)
  literal_kept {cells} s b b' own v same store slots = rw same (fits_when (same_value own v) (later_same m refs cells store) slots)

  -- a variable that is bound keeps its value, whatever the comparison says
  compared : {start cells : List Data} {s : Environment} {b : Bindings} (u v : Value) → Later m refs start cells → InScope cells s b →
      FitMeets b start cells (bound_fit s u v)
  compared {start} {cells} {s} {b} u v later slots = (
    later.typed,
    λ x after worth.
        let more = later_worth m refs worth in
        fits_when (truth_of x) (later_then m refs later more) (slots_later m refs (within.Function f) more slots),
  )

  -- a variable
  variable_kept : {start cells : List Data} (s : Environment) (b : Bindings) (slot : ℕ) (v : Value) (t : ValueType) (o : Option Value) (p : Option ValueType) →
      lookup slot s ≡ o → lookup slot b ≡ p → declared m f.slots_first f.slots slot ≡ Some t → Has m refs cells v t → Later m refs start cells → InScope cells s b →
      FitMeets (bind_free slot t b) start cells (variable_fit s slot v o)
  variable_kept {start} {cells} s b slot v t None None free new own has later slots =
      rw new (go (nat_lt slot 8))
    where
      go : (low : Bool) → FitMeets (record { slot = slot; entry = t } ∷ b) start cells (done (when low (Some (record { slot = slot; entry = v } ∷ s))))
      go low = fits_when low later (slot_new m refs (within.Function f) slot v t has (λ g is. let same : f ≡ g = cc in rw (← same) own) slots)
  variable_kept s b slot v t None (Some u) free typed own has later slots =
      let p = slots.bound slot u typed in
      absurd (none-some p.0 (sym free ∙ p.1))
  variable_kept s b slot v t (Some w) None found new own has later slots =
      rw new (compared w v later (slot_seen m refs (within.Function f) f refl slot w t found own slots))
  variable_kept s b slot v t (Some w) (Some u) found typed own has later slots = rw typed (compared w v later slots)

  -- What is proved of a pattern: it keeps types, over any cells.
  abbrev Keeps : (ℕ → Environment → Value → Fit) → ℕ → Type 0
  Keeps child n = (s : Environment) (b b' : Bindings) (t : ValueType) (v : Value) (cells : List Data) → pattern_scope m f n b t ≡ Some b' →
      Has m refs cells v t → CellsTyped m refs cells → InScope cells s b → FitMeets b' cells cells (child n s v)

  module _ (row : ℕ) (child : ℕ → Environment → Value → Fit) (kept : (n : ℕ) → n < row → Keeps child n) where
    -- children, one after another
    pairs_kept : {start cells : List Data} (s : Environment) (b b' : Bindings) (ns : List ℕ) (vs : List Value) (xs : List ListRow) →
        ChildrenFit m f row b ns xs b' → ArgumentsFit m (Has m refs cells) vs xs → Later m refs start cells → InScope cells s b →
        FitMeets b' start cells (pairs_fit child (zip ns vs) s)
    pairs_kept s b b' [] [] [] fits typed later slots = rw fits (later, slots)
    pairs_kept s b b' [] [] (x ∷ xs) fits typed later slots = absurd fits
    pairs_kept s b b' [] (v ∷ vs) [] fits typed later slots = absurd typed
    pairs_kept s b b' [] (v ∷ vs) (x ∷ xs) fits typed later slots = absurd fits
    pairs_kept s b b' (n ∷ ns) vs [] fits typed later slots = absurd fits
    pairs_kept s b b' (n ∷ ns) [] (x ∷ xs) fits typed later slots = absurd typed
    pairs_kept {start} {cells} s b b' (n ∷ ns) (v ∷ vs) (x ∷ xs) fits typed later slots =
        let same : typed.0.0 ≡ fits.0 = known (sym typed.0.1 ∙ fits.2) in
        meets_then (typing m refs this) (Fitted fits.1 cells) (Fitted b' start) (child n s v) _ cells
        (kept n fits.3.0 s b fits.1 fits.0 v cells fits.3.1 (rw same at typed.0.2) later.typed slots)
        (go (λ s' after typed' later' slots'. pairs_kept s' fits.1 b' ns vs xs fits.4 typed' later' slots'))
      where
        go : ((s' : Environment) (after : List Data) → ArgumentsFit m (Has m refs after) vs xs → Later m refs start after → InScope after s' fits.1 →
            FitMeets b' start after (pairs_fit child (zip ns vs) s')) → (o : Option Environment) (after : List Data) → Fitted fits.1 cells o after →
            FitMeets b' start after (elim o as (λ o. Fit) [ None ↦ no_fit | Some s' ↦ pairs_fit child (zip ns vs) s' ])
        go rest None after more = later_then m refs later more
        go rest (Some s') after more =
            rest s' after (arguments_map m (Has m refs cells) (Has m refs after) (has_later m refs more.0) vs xs typed.1) (later_then m refs later more.0) more.1

    -- data of the constructor, with typed parts
    parts_kept : {start cells : List Data} (s : Environment) (b b' : Bindings) (ns : List ℕ) (vs : List Value) (xs : List ListRow) →
        ChildrenFit m f row b ns xs b' → ArgumentsFit m (Has m refs cells) vs xs → Later m refs start cells → InScope cells s b →
        FitMeets b' start cells (parts_fit child ns vs s)
    parts_kept {start} {cells} s b b' ns vs xs fits typed later slots = go (length ns == length vs)
      where
        go : (alike : Bool) → FitMeets b' start cells (cond alike (pairs_fit child (zip ns vs) s) no_fit)
        go true = pairs_kept s b b' ns vs xs fits typed later slots
        go false = later

    data_kept : {cells : List Data} (s : Environment) (b b' : Bindings) (c : ℕ) (ps : Parts) (t : ValueType) (d : Data) → ConstructorFits m f row b c ps t b' →
        DataTyped m refs cells d → CellsTyped m refs cells → InScope cells s b → FitMeets b' cells cells (data_fit child s c ps (Some d))
    data_kept {cells} s b b' c ps t d fits typed store slots = go (d.constructor == c) refl
      where
        go : (same : Bool) → (d.constructor == c) ≡ same → FitMeets b' cells cells (cond same (parts_fit child (parts ps) d.parts s) no_fit)
        go true e =
            let at : d.constructor ≡ c = eqb-true d.constructor c e in
            let row : typed.0 ≡ fits.0 = known (sym typed.1 ∙ ap (slice_get m.constructors) at ∙ fits.1) in
            parts_kept s b b' (parts ps) d.parts (parameters_of m fits.0) fits.3 (rw row at typed.2) (later_same m refs cells store) slots
        go false e = later_same m refs cells store

    constructor_kept : {cells : List Data} (s : Environment) (b b' : Bindings) (c : ℕ) (ps : Parts) (t : ValueType) (v : Value) → ConstructorFits m f row b c ps t b' →
        Has m refs cells v t → CellsTyped m refs cells → InScope cells s b → FitMeets b' cells cells (constructor_fit child s c ps v)
    constructor_kept {cells} s b b' c ps t value.Unit fits has store slots = later_same m refs cells store
    constructor_kept {cells} s b b' c ps t (value.Bool x) fits has store slots = later_same m refs cells store
    constructor_kept {cells} s b b' c ps t (value.Int n) fits has store slots = later_same m refs cells store
    constructor_kept {cells} s b b' c ps t value.Null fits has store slots = later_same m refs cells store
    constructor_kept {cells} s b b' c ps t (value.Object o) fits has store slots = later_same m refs cells store
    constructor_kept {cells} s b b' c ps t (value.Future g) fits has store slots = later_same m refs cells store
    constructor_kept {cells} s b b' c ps t (value.Constant k) fits has store slots =
        data_kept s b b' c ps t (record { constructor = k; parts = [] }) fits (has.0, has.1, rw has.2 tt) store slots
    constructor_kept {cells} s b b' c ps t (value.Cell i) fits has store slots =
        let P : Option Data → Type 0 = λ o. FitMeets b' cells cells (data_fit child s c ps o) in
        subst P (sym has.2) (data_kept s b b' c ps t has.0 fits (cell_typed m refs cells store i has.0 has.2) store slots)

    -- the rule of each kind
    rule_kept : {cells : List Data} (s : Environment) (b b' : Bindings) (n : Node) (t : ValueType) (v : Value) → FitsAs m f row b n t b' → Has m refs cells v t →
        CellsTyped m refs cells → InScope cells s b → FitMeets b' cells cells (fit_rule child s v n)
    rule_kept {cells} s b b' node.Unit t v fits has store slots = literal_kept s b b' value.Unit v fits.1 store slots
    rule_kept {cells} s b b' node.False t v fits has store slots = literal_kept s b b' (value.Bool false) v fits.1 store slots
    rule_kept {cells} s b b' node.True t v fits has store slots = literal_kept s b b' (value.Bool true) v fits.1 store slots
    rule_kept {cells} s b b' (node.Int n) t v fits has store slots = literal_kept s b b' (literal n) v fits.1 store slots
    rule_kept {cells} s b b' (node.Null r) t v fits has store slots = literal_kept s b b' value.Null v fits.2 store slots
    rule_kept {cells} s b b' (node.Slot slot) t v fits has store slots = absurd fits
    rule_kept {cells} s b b' (node.This r) t v fits has store slots = absurd fits
    rule_kept {cells} s b b' (node.Constructor c ps) t v fits has store slots = constructor_kept s b b' c ps t v fits has store slots
    rule_kept {cells} s b b' (node.Function g ps) t v fits has store slots = absurd fits
    rule_kept {cells} s b b' (node.Case x first) t v fits has store slots = absurd fits
    rule_kept {cells} s b b' (node.Add x y) t v fits has store slots = absurd fits
    rule_kept {cells} s b b' (node.Subtract x y) t v fits has store slots = absurd fits
    rule_kept {cells} s b b' (node.Divide x y) t v fits has store slots = absurd fits
    rule_kept {cells} s b b' (node.Less x y) t v fits has store slots = absurd fits
    rule_kept {cells} s b b' (node.Equal x y) t v fits has store slots = absurd fits
    rule_kept {cells} s b b' (node.Not x) t v fits has store slots = absurd fits
    rule_kept {cells} s b b' (node.And x y) t v fits has store slots = absurd fits
    rule_kept {cells} s b b' node.Wildcard t v fits has store slots = rw fits (later_same m refs cells store, slots)
    rule_kept {cells} s b b' (node.Variable slot) t v fits has store slots =
        rw fits.1 (variable_kept s b slot v t (lookup slot s) (lookup slot b) refl refl fits.0 has (later_same m refs cells store) slots)

  -- A pattern keeps types, by recursion on a depth above its row.
  fit_kept_at : (depth row : ℕ) → row < depth → Keeps (fit_of m) row
  fit_kept_at zero row lt s b b' t v cells fits has store slots = absurd (omega arith)
  fit_kept_at (suc depth) row lt s b b' t v cells fits has store slots =
      let p = inverts_pattern m f row b t b' fits in
      let plan : fit_of m row s v ≡ fit_rule (below never_fits row (fit_of m)) s v p.0 = fit_step_lem m row s v ∙ rw p.1 refl in
      rw plan (rule_kept row (below never_fits row (fit_of m)) (lower (λ n less. fit_kept_at depth n (omega arith))) s b b' p.0 t v p.2 has store slots)
    where
      lower : ((n : ℕ) → n < row → Keeps (fit_of m) n) → (n : ℕ) → n < row → Keeps (below never_fits row (fit_of m)) n
      lower kept n less = rw (lt-ltb n row less) (kept n less)

  pub fit_kept : (row : ℕ) → Keeps (fit_of m) row
  fit_kept row = fit_kept_at (suc row) row (omega arith)
