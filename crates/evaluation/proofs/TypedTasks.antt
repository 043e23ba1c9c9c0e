-- What the tasks of an evaluation ask, and what their worths make: values of the types of the expressions.
use Rattle.std.proofs.Common.{◌≡◌, ℕ, Bool, true, false, List, ◌∷◌, Some, refl, sym, ◌∙◌}
use Rattle.std.specs.Prelude.{◌==◌}
use Rattle.std.proofs.lemmas.Bool.{eqb-true}
use Rattle.tables.specs.declared.rows.FunctionRow.{FunctionRow}
use Rattle.tables.specs.declared.rows.ListRow.{ListRow}
use Rattle.tables.specs.Layout.{Content}
use Rattle.mapping.specs.Bindings.{lookup}
use Rattle.rules.proofs.Rows.{known}
use Rattle.syntax.specs.declared.types.ValueType.{ValueType}
use Rattle.syntax.specs.declared.types.ValueType.TheVariants as type
use Rattle.typing.specs.declared.within.Within.{Within}
use Rattle.typing.specs.declared.within.Within.TheVariants as within
use Rattle.typing.specs.Expressions.{type_in}
use Rattle.typing.specs.Scopes.{Bindings, declared}
use Rattle.evaluation.specs.declared.value.Value.{Value}
use Rattle.evaluation.specs.Plans.{Environment, Task}
use Rattle.evaluation.specs.Stores.{Longer}
use Rattle.evaluation.specs.Typed.{Referents, Has, CellsTyped, SlotsTyped, Serves, TypesLast, Worth, Worths}
use Rattle.evaluation.specs.Values.{Data}
use Rattle.evaluation.proofs.Growing.{longer_same, longer_then}
use Rattle.evaluation.proofs.Meeting.{Claim}
use Rattle.evaluation.proofs.TypedValues.{types_last}

module _ (m : Content) (refs : Referents) where
  -- later cells, that are typed
  pub record Later (earlier later : List Data) : Type 0 where
    pub longer : Longer earlier later
    pub typed : CellsTyped m refs later

  pub later_same : (cells : List Data) → CellsTyped m refs cells → Later cells cells
  later_same cells typed = record { longer = longer_same cells; typed = typed }

  pub later_then : {a b c : List Data} → Later a b → Later b c → Later a c
  later_then {a} {b} {c} h k = record { longer = longer_then a b c h.longer k.longer; typed = k.typed }

  pub later_worth : {t : ValueType} {earlier later : List Data} {v : Value} → Worth m refs t earlier v later → Later earlier later
  later_worth h = record { longer = h.longer; typed = h.typed }

  pub later_worths : {xs : List ListRow} {earlier later : List Data} {vs : List Value} → Worths m refs xs earlier vs later → Later earlier later
  later_worths h = record { longer = h.longer; typed = h.typed }

  last : TypesLast m refs refs
  last = types_last m refs refs (record { objects = λ o c e. e; calls = λ f r e. e })

  pub has_later : {earlier later : List Data} → Later earlier later → (v : Value) (t : ValueType) → Has m refs earlier v t → Has m refs later v t
  has_later {earlier} {later} h v t = last.values earlier later v t h.longer

  module _ (w : Within) where
    pub slots_later : {earlier later : List Data} {s : Environment} {b : Bindings} → Later earlier later → SlotsTyped m refs w earlier s b →
        SlotsTyped m refs w later s b
    slots_later {earlier} {later} {s} {b} h = last.slots w earlier later s b h.longer

    -- a slot that is bound anew, in the scope and in the environment
    pub slot_new : {cells : List Data} {s : Environment} {b : Bindings} (slot : ℕ) (v : Value) (t : ValueType) → Has m refs cells v t →
        ((f : FunctionRow) → w ≡ within.Function f → declared m f.slots_first f.slots slot ≡ Some t) → SlotsTyped m refs w cells s b →
        SlotsTyped m refs w cells (record { slot = slot; entry = v } ∷ s) (record { slot = slot; entry = t } ∷ b)
    slot_new {cells} {s} {b} slot v t has own h = record {
      bound = λ k u e. bound k u (slot == k) refl e;
      declared = λ f is k x u e e'. declares f is k x u (slot == k) refl e e';
    }
      where
        bound : (k : ℕ) (u : ValueType) (hit : Bool) → (slot == k) ≡ hit → lookup k (record { slot = slot; entry = t } ∷ b) ≡ Some u →
            (x : Value) × (lookup k (record { slot = slot; entry = v } ∷ s) ≡ Some x) × Has m refs cells x u
        bound k u true hit e = let same : t ≡ u = known (rw hit at e) in (v, rw hit refl, rw (← same) has)
        bound k u false miss e = rw miss (h.bound k u (rw miss at e))

        declares : (f : FunctionRow) → w ≡ within.Function f → (k : ℕ) (x : Value) (u : ValueType) (hit : Bool) → (slot == k) ≡ hit →
            lookup k (record { slot = slot; entry = v } ∷ s) ≡ Some x → declared m f.slots_first f.slots k ≡ Some u → Has m refs cells x u
        declares f is k x u true hit e e' =
            let at : slot ≡ k = eqb-true slot k hit in
            let same : v ≡ x = known (rw hit at e) in
            let type : t ≡ u = known (sym (own f is) ∙ rw (← at) at e') in
            rw (← same, ← type) has
        declares f is k x u false miss e e' = h.declared f is k x u (rw miss at e) e'

    -- a slot that is bound already, of which the type becomes known
    pub slot_seen : {cells : List Data} {s : Environment} {b : Bindings} (f : FunctionRow) → w ≡ within.Function f → (slot : ℕ) (v : Value) (t : ValueType) →
        lookup slot s ≡ Some v → declared m f.slots_first f.slots slot ≡ Some t → SlotsTyped m refs w cells s b →
        SlotsTyped m refs w cells s (record { slot = slot; entry = t } ∷ b)
    slot_seen {cells} {s} {b} f is slot v t found own h = record { bound = λ k u e. bound k u (slot == k) refl e; declared = h.declared }
      where
        bound : (k : ℕ) (u : ValueType) (hit : Bool) → (slot == k) ≡ hit → lookup k (record { slot = slot; entry = t } ∷ b) ≡ Some u →
            (x : Value) × (lookup k s ≡ Some x) × Has m refs cells x u
        bound k u true hit e =
            let at : slot ≡ k = eqb-true slot k hit in
            let same : t ≡ u = known (rw hit at e) in
            (v, rw (← at) found, rw (← same) (h.declared f is slot v t found own))
        bound k u false miss e = h.bound k u (rw miss at e)

  -- an expression of a type, in slots that are typed
  pub record Typed (this : ℕ) (cells : List Data) (row : ℕ) (s : Environment) : Type 0 where
    pub within : Within
    pub scope : Bindings
    pub type : ValueType
    pub serves : Serves m refs within this
    pub slots : SlotsTyped m refs within cells s scope
    pub store : CellsTyped m refs cells
    pub typed : type_in m within row scope ≡ Some type

  -- A node makes a value of its type, and a pair makes a Bool.
  abbrev TaskAsks : (this : ℕ) → List Data → Task → Type 0
  TaskAsks this cells (Task.node row s) = Typed this cells row s
  TaskAsks this cells (Task.pair v w) = CellsTyped m refs cells

  abbrev TaskMakes : (this : ℕ) (cells : List Data) (asker : Task) → TaskAsks this cells asker → Value → List Data → Type 0
  TaskMakes this cells (Task.node row s) asked v later = Worth m refs asked.type cells v later
  TaskMakes this cells (Task.pair v w) asked x later = Worth m refs type.Bool cells x later

  abbrev pub typing : ℕ → Claim
  typing this = record { Asked = TaskAsks this; Made = TaskMakes this }
