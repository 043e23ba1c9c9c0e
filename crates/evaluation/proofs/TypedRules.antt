-- The rules of the nodes keep types, and so do those of the pairs.
use Rattle.std.proofs.Common.{◌≡◌, ℕ, Bool, true, false, cond, All, List, [], ◌∷◌, ◌++◌, length, zip, ℤ, Some, None, Ok, Err, Option, Result, refl, sym, subst, ◌∙◌, append-nil, append_assoc, arith}
use Rattle.std.specs.Prelude.{◌==◌}
use Rattle.std.specs.List.{slice_get}
use Rattle.std.proofs.lemmas.List.Elements.{All-head, All-tail}
use Rattle.tables.specs.declared.rows.BranchRow.{BranchRow}
use Rattle.tables.specs.declared.rows.ConstructorRow.{ConstructorRow}
use Rattle.tables.specs.declared.rows.FunctionRow.{FunctionRow}
use Rattle.tables.specs.declared.rows.ListRow.{ListRow}
use Rattle.tables.specs.Layout.{Content}
use Rattle.rules.proofs.Rows.{known}
use Rattle.syntax.specs.declared.nodes.Node.{Node}
use Rattle.syntax.specs.declared.nodes.Node.TheVariants as node
use Rattle.syntax.specs.declared.types.ValueType.{ValueType}
use Rattle.syntax.specs.declared.types.ValueType.TheVariants as type
use Rattle.syntax.specs.Nodes.{parts}
use Rattle.syntax.specs.Types.{type_at}
use Rattle.typing.specs.declared.within.Within.{Within}
use Rattle.typing.specs.declared.within.Within.TheVariants as within
use Rattle.typing.specs.ExpressionLaws.{ArgumentsFit, Lower, Both, IsBranch, TypedAs}
use Rattle.typing.specs.Expressions.{branches_of, function_parameters, type_in}
use Rattle.typing.specs.Patterns.{parameters_of}
use Rattle.typing.specs.Scopes.{Bindings, entry_type, function_scope}
use Rattle.typing.proofs.ExpressionLaws.{inverts}
use Rattle.evaluation.specs.declared.refusal.EvaluationRefusal.{EvaluationRefusal}
use Rattle.evaluation.specs.declared.value.Value.{Value}
use Rattle.evaluation.specs.declared.value.Value.TheVariants as value
use Rattle.evaluation.specs.Arithmetic.{quotient}
use Rattle.evaluation.specs.Matching.{literal, fit_of}
use Rattle.evaluation.specs.Plans.{Environment, Task, Plan, done, ◌>>=◌, ask, give}
use Rattle.evaluation.specs.Refusals.{answered}
use Rattle.evaluation.specs.Rules.{gathered, all_of, operands, add, subtract, divide, less, equal, both_true, built, called, same_pairs, same_parts, same_data, pair_as, body_of, taken, next_branch, chosen, node_rule, rule}
use Rattle.evaluation.specs.Typed.{Referents, Has, CellsTyped, SlotsTyped, Serves, Worth, Worths, FunctionsTyped}
use Rattle.evaluation.specs.Values.{Data, HasParts, int_of, truth_of, cell_of, same_value}
use Rattle.evaluation.proofs.Meeting.{Meets, meets_then}
use Rattle.evaluation.proofs.TypedArguments.{arguments_bound}
use Rattle.evaluation.proofs.TypedPatterns.{Fitted, fit_kept}
use Rattle.evaluation.proofs.TypedTasks.{Later, later_same, later_then, later_worth, later_worths, has_later, slots_later, typing}
use Rattle.evaluation.proofs.TypedValues.{slice_last, arguments_map, cells_more}

-- an argument more
arguments_push : {A : Type 0} (m : Content) (has : A → ValueType → Type 0) (vs : List A) (ys : List ListRow) (v : A) (y : ListRow) →
    ArgumentsFit m has vs ys → (t : ValueType) × (entry_type m y ≡ Some t) × has v t → ArgumentsFit m has (vs ++ v ∷ []) (ys ++ y ∷ [])
arguments_push m has [] [] v y fit one = (one, tt)
arguments_push m has [] (x ∷ ys) v y fit one = absurd fit
arguments_push m has (u ∷ vs) [] v y fit one = absurd fit
arguments_push m has (u ∷ vs) (x ∷ ys) v y fit one = (fit.0, arguments_push m has vs ys v y fit.1 one)

no_parameters : {A : Type 0} (m : Content) (has : A → ValueType → Type 0) (xs : List ListRow) → ArgumentsFit m has [] xs → xs ≡ []
no_parameters m has [] fit = refl
no_parameters m has (x ∷ xs) fit = absurd fit

module _ (m : Content) (refs : Referents) (this : ℕ) where
  -- what is proved of a plan
  abbrev Keeps : {A : Type 0} → (A → List Data → Type 0) → List Data → Plan A → Type 0
  Keeps Q cells p = Meets (typing m refs this) Q cells p

  -- a value that needs no cells
  worth_by : {start later : List Data} (v : Value) (t : ValueType) → Later m refs start later → Has m refs later v t → Worth m refs t start v later
  worth_by v t later has = record { has = has; longer = later.longer; typed = later.typed }

  -- a value for an earlier beginning
  worth_from : {start cells later : List Data} {v : Value} {t : ValueType} → Later m refs start cells → Worth m refs t cells v later → Worth m refs t start v later
  worth_from {v} {t} older h = worth_by v t (later_then m refs older (later_worth m refs h)) h.has

  -- a Bool, with the cells as they are
  bool_worth : {cells : List Data} (b : Bool) → CellsTyped m refs cells → Worth m refs type.Bool cells (value.Bool b) cells
  bool_worth {cells} b store = worth_by (value.Bool b) type.Bool (later_same m refs cells store) refl

  -- two values that are compared
  pairs_kept : {start cells : List Data} (ps : List (Value × Value)) → Later m refs start cells → Keeps (Worth m refs type.Bool start) cells (same_pairs ps)
  pairs_kept [] later = worth_by (value.Bool true) type.Bool later refl
  pairs_kept {start} {cells} (p ∷ ps) later =
      (later.typed, λ b after worth. let more = later_then m refs later (later_worth m refs worth) in go (truth_of b) more (pairs_kept ps more))
    where
      go : {after : List Data} (same : Bool) → Later m refs start after → Keeps (Worth m refs type.Bool start) after (same_pairs ps) →
          Keeps (Worth m refs type.Bool start) after (cond same (same_pairs ps) (done (value.Bool false)))
      go true later' rest = rest
      go false later' rest = worth_by (value.Bool false) type.Bool later' refl

  parts_kept : {cells : List Data} (vs ws : List Value) (alike : Bool) → CellsTyped m refs cells →
      Keeps (Worth m refs type.Bool cells) cells (cond alike (same_pairs (zip vs ws)) (done (value.Bool false)))
  parts_kept {cells} vs ws true store = pairs_kept (zip vs ws) (later_same m refs cells store)
  parts_kept {cells} vs ws false store = bool_worth false store

  data_kept : {cells : List Data} (a b : Option Data) → CellsTyped m refs cells → Keeps (Worth m refs type.Bool cells) cells (same_data a b)
  data_kept {cells} None b store = bool_worth false store
  data_kept {cells} (Some a) None store = bool_worth false store
  data_kept {cells} (Some a) (Some b) store = go (a.constructor == b.constructor)
    where
      go : (same : Bool) → Keeps (Worth m refs type.Bool cells) cells (cond same (same_parts a.parts b.parts) (done (value.Bool false)))
      go true = parts_kept a.parts b.parts (length a.parts == length b.parts) store
      go false = bool_worth false store

  pair_kept : {cells : List Data} (v w : Value) (i j : Option ℕ) → CellsTyped m refs cells → Keeps (Worth m refs type.Bool cells) cells (pair_as v w i j)
  pair_kept {cells} v w None j store = bool_worth (same_value v w) store
  pair_kept {cells} v w (Some i) None store = bool_worth (same_value v w) store
  pair_kept {cells} v w (Some i) (Some j) store = data_kept (slice_get cells i) (slice_get cells j) store

  -- data of a constructor
  built_kept : {start cells : List Data} (c : ℕ) (k : ConstructorRow) (vs : List Value) → slice_get m.constructors c ≡ Some k → Later m refs start cells →
      ArgumentsFit m (Has m refs cells) vs (parameters_of m k) → Keeps (Worth m refs (type.Data k.number) start) cells (built c vs)
  built_kept {start} {cells} c k [] there later fit = worth_by (value.Constant c) (type.Data k.number) later (k, there, no_parameters m (Has m refs cells) (parameters_of m k) fit, refl)
  built_kept {start} {cells} c k (v ∷ vs) there later fit =
      let d : Data = record { constructor = c; parts = v ∷ vs } in
      let parts : HasParts d = omega arith in
      let more : Later m refs cells (cells ++ d ∷ []) = record { longer = (d ∷ [], refl); typed = cells_more m refs cells later.typed d (parts, (k, there, fit)) } in
      worth_by (value.Cell (length cells)) (type.Data k.number) (later_then m refs later more) (d, k, slice_last cells d, there, refl)

  -- a function's body
  called_kept : FunctionsTyped m → {start cells : List Data} (f : ℕ) (g : FunctionRow) (t : ValueType) (vs : List Value) → slice_get m.functions f ≡ Some g →
      type_at m g.result ≡ Some t → Later m refs start cells → ArgumentsFit m (Has m refs cells) vs (function_parameters m g) →
      Keeps (Worth m refs t start) cells (called (Some g) vs)
  called_kept functions {start} {cells} f g t vs there result later fit =
      let body = functions g (f, there) in
      let same : body.0 ≡ t = known (sym body.1 ∙ result) in (
        record {
          within = within.Function g;
          scope = function_scope m g;
          type = t;
          serves = tt;
          slots = arguments_bound m refs g cells vs fit;
          store = later.typed;
          typed = rw same at body.2;
        },
        λ v after worth. worth_from later worth,
      )

  -- Where expressions stand that serve the object.
  module _ (w : Within) (serves : Serves m refs w this) where
    abbrev InScope : List Data → Environment → Bindings → Type 0
    InScope = SlotsTyped m refs w

    -- an expression of this type in a scope
    abbrev pub Expression : Bindings → ℕ → ValueType → Type 0
    Expression b n t = type_in m w n b ≡ Some t

    ask_kept : {start cells : List Data} (s : Environment) (b : Bindings) (n : ℕ) (t : ValueType) → Expression b n t → Later m refs start cells → InScope cells s b →
        Keeps (Worth m refs t start) cells (ask n s)
    ask_kept s b n t typed later slots =
        (record { within = w; scope = b; type = t; serves = serves; slots = slots; store = later.typed; typed = typed }, λ v after worth. worth_from later worth)

    -- expressions, one after another, behind the worths that there are
    gathered_kept : {start cells : List Data} (s : Environment) (b : Bindings) (vs : List Value) (ys : List ListRow) (ns : List ℕ) (xs : List ListRow) →
        ArgumentsFit m (Expression b) ns xs → ArgumentsFit m (Has m refs cells) vs ys → Later m refs start cells → InScope cells s b →
        Keeps (Worths m refs (ys ++ xs) start) cells (gathered vs ns s)
    gathered_kept s b vs ys [] [] typed fit later slots = rw (append-nil ys) (record { fit = fit; longer = later.longer; typed = later.typed })
    gathered_kept s b vs ys [] (x ∷ xs) typed fit later slots = absurd typed
    gathered_kept s b vs ys (n ∷ ns) [] typed fit later slots = absurd typed
    gathered_kept {start} {cells} s b vs ys (n ∷ ns) (x ∷ xs) typed fit later slots =
        let t = typed.0.0 in
        let child = ask_kept s b n t typed.0.2 (later_same m refs cells later.typed) slots in (
          child.0,
          λ v after worth.
              let more = later_worth m refs (child.1 v after worth) in
              let fit' = arguments_map m (Has m refs cells) (Has m refs after) (has_later m refs more) vs ys fit in
              let P : List ListRow → Type 0 = λ zs. Keeps (Worths m refs zs start) after (gathered (vs ++ v ∷ []) ns s) in
              subst P (append_assoc ys (x ∷ []) xs)
              (gathered_kept s b (vs ++ v ∷ []) (ys ++ x ∷ []) ns xs typed.1 (arguments_push m (Has m refs after) vs ys v x fit' (t, typed.0.1, (child.1 v after worth).has))
              (later_then m refs later more) (slots_later m refs w more slots)),
        )

    -- Expressions that have the types of parameters make values of these types.
    pub arguments_kept : {start cells : List Data} (s : Environment) (b : Bindings) (ns : List ℕ) (xs : List ListRow) → ArgumentsFit m (Expression b) ns xs →
        Later m refs start cells → InScope cells s b → Keeps (Worths m refs xs start) cells (all_of ns s)
    arguments_kept s b ns xs typed later slots = gathered_kept s b [] [] ns xs typed tt later slots

    -- The rules of nodes.
    module _ (functions : FunctionsTyped m) (row : ℕ) where
      children_kept : {cells : List Data} (s : Environment) (b : Bindings) (ns : List ℕ) (xs : List ListRow) → ArgumentsFit m (Lower m w row b) ns xs →
          CellsTyped m refs cells → InScope cells s b → Keeps (Worths m refs xs cells) cells (all_of ns s)
      children_kept {cells} s b ns xs typed store slots =
          arguments_kept s b ns xs (arguments_map m (Lower m w row b) (Expression b) (λ n t lower. lower.1) ns xs typed) (later_same m refs cells store) slots

      -- two operands, and what an operator makes of them
      operator_kept : {cells : List Data} (s : Environment) (b : Bindings) (x y : ℕ) (t u result : ValueType) (f : Value × Value → Plan Value) →
          (t ≡ result) × Both m w row b u x y → CellsTyped m refs cells → InScope cells s b →
          ((p : Value × Value) (later : List Data) → Later m refs cells later → Keeps (Worth m refs result cells) later (f p)) →
          Keeps (Worth m refs t cells) cells (operands x y s >>= f)
      operator_kept {cells} s b x y t u result f typed store slots makes =
          let P : ValueType → Type 0 = λ z. Keeps (Worth m refs z cells) cells (operands x y s >>= f) in
          let first = ask_kept s b x u typed.1.0.1 (later_same m refs cells store) slots in
          subst P (sym typed.0) (
            first.0,
            λ v after worth.
                let more = later_worth m refs (first.1 v after worth) in
                let second = ask_kept s b y u typed.1.1.1 more (slots_later m refs w more slots) in
                (second.0, λ z last worth'. makes (v, z) last (later_worth m refs (second.1 z last worth'))),
          )

      -- what a branch comes to: a worth of the type, or nothing but cells
      abbrev Branched : List Data → ValueType → Option Value → List Data → Type 0
      Branched cells t None later = Later m refs cells later
      Branched cells t (Some v) later = Worth m refs t cells v later

      -- the branches of a case
      branch_kept : (f : FunctionRow) → w ≡ within.Function f → {cells : List Data} (s : Environment) (b : Bindings) (examined t : ValueType) (v : Value) (x : BranchRow) →
          IsBranch m w row f b examined t x → Has m refs cells v examined → CellsTyped m refs cells → InScope cells s b →
          Keeps (Branched cells t) cells (taken m this s v x)
      branch_kept f is {cells} s b examined t v x typed has store slots =
          let own : SlotsTyped m refs (within.Function f) cells s b = rw is at slots in
          meets_then (typing m refs this) (Fitted m refs this f typed.0 cells) (Branched cells t) (fit_of m x.pattern s v) (body_of m this x) cells
          (fit_kept m refs this f x.pattern s b typed.0 examined v cells typed.1 has store own)
          go
        where
          go : (o : Option Environment) (after : List Data) → Fitted m refs this f typed.0 cells o after → Keeps (Branched cells t) after (body_of m this x o)
          go None after fitted = fitted
          go (Some s') after fitted =
              let there : SlotsTyped m refs w after s' typed.0 = rw (← is) at fitted.1 in
              ask_kept s' typed.0 x.body t typed.2.1 fitted.0 there

      chosen_kept : (f : FunctionRow) → w ≡ within.Function f → {start cells : List Data} (s : Environment) (b : Bindings) (examined t : ValueType) (v : Value)
          (bs : List BranchRow) → All (IsBranch m w row f b examined t) bs → Has m refs cells v examined → Later m refs start cells → InScope cells s b →
          Keeps (Worth m refs t start) cells (chosen m this s v bs)
      chosen_kept f is s b examined t v [] typed has later slots = tt
      chosen_kept f is {start} {cells} s b examined t v (x ∷ bs) typed has later slots =
          meets_then (typing m refs this) (Branched cells t) (Worth m refs t start) (taken m this s v x) (next_branch m this (chosen m this s v bs)) cells
          (branch_kept f is s b examined t v x (All-head (IsBranch m w row f b examined t) x bs typed) has later.typed slots)
          (go (λ after more. chosen_kept f is s b examined t v bs (All-tail (IsBranch m w row f b examined t) x bs typed) (has_later m refs more v examined has)
          (later_then m refs later more) (slots_later m refs w more slots)))
        where
          go : ((after : List Data) → Later m refs cells after → Keeps (Worth m refs t start) after (chosen m this s v bs)) →
              (o : Option Value) (after : List Data) → Branched cells t o after → Keeps (Worth m refs t start) after (next_branch m this (chosen m this s v bs) o)
          go rest None after more = rest after more
          go rest (Some y) after worth = worth_from later worth

      -- what operators give: an Int, a Bool, and an Int or a refusal
      int_kept : {n : ℤ} {start : List Data} (later : List Data) → Later m refs start later → Worth m refs type.Int start (value.Int n) later
      int_kept later more = worth_by (value.Int _) type.Int more refl

      bool_kept : {x : Bool} {start : List Data} (later : List Data) → Later m refs start later → Worth m refs type.Bool start (value.Bool x) later
      bool_kept later more = worth_by (value.Bool _) type.Bool more refl

      given_kept : {start later : List Data} (r : Result ℤ EvaluationRefusal) → Later m refs start later → Keeps (Worth m refs type.Int start) later (give (answered value.Int r))
      given_kept (Ok n) later = worth_by (value.Int n) type.Int later refl
      given_kept (Err e) later = tt

      -- The rule of each kind.
      node_kept : {cells : List Data} (s : Environment) (b : Bindings) (n : Node) (t : ValueType) → TypedAs m w row b n t → CellsTyped m refs cells → InScope cells s b →
          Keeps (Worth m refs t cells) cells (node_rule m this s n)
      node_kept {cells} s b node.Unit t typed store slots = worth_by value.Unit t (later_same m refs cells store) typed
      node_kept {cells} s b node.False t typed store slots = worth_by (value.Bool false) t (later_same m refs cells store) typed
      node_kept {cells} s b node.True t typed store slots = worth_by (value.Bool true) t (later_same m refs cells store) typed
      node_kept {cells} s b (node.Int n) t typed store slots = worth_by (literal n) t (later_same m refs cells store) typed
      node_kept {cells} s b (node.Null r) t typed store slots = worth_by value.Null t (later_same m refs cells store) typed.1
      node_kept {cells} s b (node.Slot slot) t typed store slots =
          let p = slots.bound slot t typed in
          rw p.1 (worth_by p.0 t (later_same m refs cells store) p.2)
      node_kept {cells} s b (node.This r) t typed store slots =
          let is : Serves m refs (within.Class typed.0) this = rw typed.1 at serves in
          worth_by (value.Object this) t (later_same m refs cells store) (typed.0, is, typed.3)
      node_kept {cells} s b (node.Constructor c ps) t typed store slots =
          rw typed.2
          (meets_then (typing m refs this) (Worths m refs (parameters_of m typed.0) cells) (Worth m refs (type.Data typed.0.number) cells) (all_of (parts ps) s) (built c) cells
          (children_kept s b (parts ps) (parameters_of m typed.0) typed.3 store slots) (λ vs later h. built_kept c typed.0 vs typed.1 (later_worths m refs h) h.fit))
      node_kept {cells} s b (node.Function f ps) t typed store slots =
          rw typed.1
          (meets_then (typing m refs this) (Worths m refs (function_parameters m typed.0) cells) (Worth m refs t cells) (all_of (parts ps) s) (called (Some typed.0)) cells
          (children_kept s b (parts ps) (function_parameters m typed.0) typed.3 store slots)
          (λ vs later h. called_kept functions f typed.0 t vs typed.1 typed.2 (later_worths m refs h) h.fit))
      node_kept {cells} s b (node.Case e first) t typed store slots =
          let child = ask_kept s b e typed.1 typed.3.1 (later_same m refs cells store) slots in (
            child.0,
            λ v after worth.
                let h = child.1 v after worth in
                let more = later_worth m refs h in
                chosen_kept typed.0 typed.2 s b typed.1 t v (branches_of m first) typed.5 h.has more (slots_later m refs w more slots),
          )
      node_kept s b (node.Add x y) t typed store slots = operator_kept s b x y t type.Int type.Int add typed store slots (λ p. int_kept)
      node_kept s b (node.Subtract x y) t typed store slots = operator_kept s b x y t type.Int type.Int subtract typed store slots (λ p. int_kept)
      node_kept s b (node.Divide x y) t typed store slots =
          operator_kept s b x y t type.Int type.Int divide typed store slots (λ p later more. given_kept (quotient (int_of p.0) (int_of p.1)) more)
      node_kept s b (node.Less x y) t typed store slots = operator_kept s b x y t type.Int type.Bool less typed store slots (λ p. bool_kept)
      node_kept s b (node.Equal x y) t typed store slots =
          operator_kept s b x y t typed.1.0 type.Bool equal (typed.0, typed.1.1) store slots (λ p later more. (more.typed, λ z after worth. worth_from more worth))
      node_kept {cells} s b (node.Not x) t typed store slots =
          let child = ask_kept s b x type.Bool typed.1.1 (later_same m refs cells store) slots in
          rw typed.0 (child.0, λ v after worth. worth_by (value.Bool _) type.Bool (later_worth m refs (child.1 v after worth)) refl)
      node_kept s b (node.And x y) t typed store slots = operator_kept s b x y t type.Bool type.Bool both_true typed store slots (λ p. bool_kept)
      node_kept {cells} s b node.Wildcard t typed store slots = absurd typed
      node_kept {cells} s b (node.Variable slot) t typed store slots = absurd typed

  -- What a visit does makes what the task's claim says.
  pub kept : FunctionsTyped m → (task : Task) (cells : List Data) (asked : (typing m refs this).Asked cells task) →
      Keeps ((typing m refs this).Made cells task asked) cells (rule m this task)
  kept functions (Task.node row s) cells asked =
      let p = inverts m asked.within row asked.scope asked.type asked.typed in
      rw p.1 (node_kept asked.within asked.serves functions row s asked.scope p.0 asked.type p.2 asked.store asked.slots)
  kept functions (Task.pair v w) cells asked = pair_kept v w (cell_of v) (cell_of w) asked
