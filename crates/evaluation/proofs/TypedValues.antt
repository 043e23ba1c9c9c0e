-- Values keep their types when objects, calls and cells are added.
use Rattle.std.proofs.Common.{◌≡◌, ℕ, zero, suc, ◌+◌, List, [], ◌∷◌, ◌++◌, length, get_or, take, drop, Some, sym, ap, ◌∙◌, inl, inr, arith, append-nil}
use Rattle.std.proofs.lemmas.Bool.{cases_lt}
use Rattle.std.proofs.lemmas.List.{length-append, take-append-drop, take-append-le}
use Rattle.std.proofs.lemmas.Option.{none-some, slice_get_within, slice_get-get_or}
use Rattle.std.proofs.Math.Seq.{get_or-append_seam, take-append_seam}
use Rattle.std.specs.List.{slice_get}
use Rattle.tables.specs.declared.rows.ListRow.{ListRow}
use Rattle.tables.specs.Layout.{Content}
use Rattle.rules.proofs.Rows.{known, some_of}
use Rattle.syntax.specs.declared.types.ValueType.{ValueType}
use Rattle.typing.specs.declared.within.Within.{Within}
use Rattle.typing.specs.ExpressionLaws.{ArgumentsFit}
use Rattle.typing.specs.Scopes.{Bindings}
use Rattle.evaluation.specs.declared.value.Value.{Value}
use Rattle.evaluation.specs.declared.value.Value.TheVariants as value
use Rattle.evaluation.specs.Plans.{Environment}
use Rattle.evaluation.specs.Stores.{Longer}
use Rattle.evaluation.specs.Typed.{Referents, Extends, Has, DataTyped, CellsTyped, SlotsTyped, TypesLast}
use Rattle.evaluation.specs.Values.{Data, HasParts}

-- a row of a longer list
pub slice_left : {A : Type 0} (xs ys : List A) (i : ℕ) (x : A) → slice_get xs i ≡ Some x → slice_get (xs ++ ys) i ≡ Some x
slice_left [] ys i x e = absurd (none-some x e)
slice_left (y ∷ xs) ys zero x e = e
slice_left (y ∷ xs) ys (suc i) x e = slice_left xs ys i x e

pub slice_last : {A : Type 0} (xs : List A) (x : A) → slice_get (xs ++ x ∷ []) (length xs) ≡ Some x
slice_last xs x =
    let longer : length (xs ++ x ∷ []) ≡ length xs + 1 = length-append xs (x ∷ []) in
    slice_get-get_or (xs ++ x ∷ []) (length xs) x (omega arith) ∙ some_of (sym (get_or-append_seam xs x [] x))

-- arguments that have types in one sense and in another
pub arguments_map : {A : Type 0} (m : Content) (has has' : A → ValueType → Type 0) → ((a : A) (t : ValueType) → has a t → has' a t) →
    (as' : List A) (xs : List ListRow) → ArgumentsFit m has as' xs → ArgumentsFit m has' as' xs
arguments_map m has has' each [] [] h = tt
arguments_map m has has' each [] (x ∷ xs) h = h
arguments_map m has has' each (a ∷ as') [] h = h
arguments_map m has has' each (a ∷ as') (x ∷ xs) h = ((h.0.0, h.0.1, each a h.0.0 h.0.2), arguments_map m has has' each as' xs h.1)

module _ (m : Content) (refs more : Referents) (extends : Extends refs more) where
  has_more : (earlier later : List Data) (v : Value) (t : ValueType) → Longer earlier later → Has m refs earlier v t → Has m more later v t
  has_more earlier later value.Unit t longer h = h
  has_more earlier later (value.Bool b) t longer h = h
  has_more earlier later (value.Int n) t longer h = h
  has_more earlier later value.Null t longer h = h
  has_more earlier later (value.Object o) t longer h = (h.0, extends.objects o h.0 h.1, h.2)
  has_more earlier later (value.Future f) t longer h = (h.0, extends.calls f h.0 h.1, h.2)
  has_more earlier later (value.Constant c) t longer h = h
  has_more earlier later (value.Cell i) t longer h = (h.0, h.1, rw longer.1 (slice_left earlier longer.0 i h.0 h.2), h.3, h.4)

  data_more : (earlier later : List Data) (d : Data) → Longer earlier later → DataTyped m refs earlier d → DataTyped m more later d
  data_more earlier later d longer h =
      (h.0, h.1, arguments_map m (Has m refs earlier) (Has m more later) (λ v t. has_more earlier later v t longer) d.parts _ h.2)

  slots_more : (w : Within) (earlier later : List Data) (s : Environment) (b : Bindings) → Longer earlier later →
      SlotsTyped m refs w earlier s b → SlotsTyped m more w later s b
  slots_more w earlier later s b longer h = record {
    bound = λ slot t e. let p = h.bound slot t e in (p.0, p.1, has_more earlier later p.0 t longer p.2);
    declared = λ f is slot v t e e'. has_more earlier later v t longer (h.declared f is slot v t e e');
  }

  pub types_last : TypesLast m refs more
  types_last = record {
    values = has_more;
    cells = λ cells h i d e. let p = h i d e in (p.0, data_more (take i cells) (take i cells) d ([], sym (append-nil (take i cells))) p.1);
    slots = slots_more;
  }

-- a cell in use is typed over all cells
pub cell_typed : (m : Content) (refs : Referents) (cells : List Data) → CellsTyped m refs cells → (i : ℕ) (d : Data) → slice_get cells i ≡ Some d → DataTyped m refs cells d
cell_typed m refs cells typed i d found =
    data_more m refs refs (record { objects = λ o c e. e; calls = λ f r e. e }) (take i cells) cells d (drop i cells, sym (take-append-drop i cells)) (typed i d found).1

-- a new cell
pub cells_more : (m : Content) (refs : Referents) (cells : List Data) → CellsTyped m refs cells → (d : Data) → HasParts d × DataTyped m refs cells d →
    CellsTyped m refs (cells ++ d ∷ [])
cells_more m refs cells typed d new i e found = elim (cases_lt i (length cells)) [
  | inl earlier ↦ (
      let there = slice_get-get_or cells i d earlier in
      let same : e ≡ get_or cells i d = known (sym found ∙ slice_left cells (d ∷ []) i (get_or cells i d) there) in
      rw (take-append-le i cells (d ∷ []) (omega arith)) (typed i e (there ∙ some_of same))
      )
  | inr last ↦ (
      let within = slice_get_within (cells ++ d ∷ []) i e found in
      let longer : length (cells ++ d ∷ []) ≡ length cells + 1 = length-append cells (d ∷ []) in
      let at : i ≡ length cells = omega arith in
      let same : d ≡ e = known (sym (slice_last cells d) ∙ ap (slice_get (cells ++ d ∷ [])) (sym at) ∙ found) in
      rw (at, take-append_seam cells (d ∷ []), ← same) new
      )
]
