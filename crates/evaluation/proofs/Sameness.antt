-- Comparing answers whether two values are the same.
use Rattle.std.proofs.Common.{◌≡◌, ◌↔◌, ℕ, suc, Bool, true, false, cond, ◌⊎◌, List, [], ◌∷◌, length, zip, Some, None, Ok, Err, Option, Result, IfOk, refl, sym, ap, subst, ◌∙◌, inl, inr, arith}
use Rattle.std.specs.Prelude.{◌==◌, ⊤}
use Rattle.std.specs.List.{slice_get}
use Rattle.std.proofs.lemmas.Bool.{eqb-true, eq-eqb, true≢false, false≢true}
use Rattle.std.proofs.lemmas.Option.{none-some}
use Rattle.tables.specs.Layout.{Content}
use Rattle.rules.proofs.Rows.{known}
use Rattle.evaluation.specs.declared.refusal.EvaluationRefusal.{EvaluationRefusal}
use Rattle.evaluation.specs.declared.value.Value.{Value}
use Rattle.evaluation.specs.declared.value.Value.TheVariants as value
use Rattle.evaluation.specs.Carried.{Work, Ran}
use Rattle.evaluation.specs.Plans.{Task, done, compare}
use Rattle.evaluation.specs.Refusals.{answered}
use Rattle.evaluation.specs.Rules.{same_pairs, same_parts, same_data, pair_as, rule}
use Rattle.evaluation.specs.Sameness.{Same, empty, plain, cell, TellsSame}
use Rattle.evaluation.specs.Values.{Data, cell_of, same_value, truth_of}
use Rattle.evaluation.proofs.Meeting.{Claim, Meets, out_meets}

-- What is the same says of its first values, and of the others.
abbrev SameCells : List Data → Value → Value → Type 0
SameCells cells v w =
    (i : ℕ) × (j : ℕ) × (a : Data) × (b : Data) × (v ≡ value.Cell i) × (w ≡ value.Cell j) × (slice_get cells i ≡ Some a) × (slice_get cells j ≡ Some b)
    × (a.constructor ≡ b.constructor) × Same cells a.parts b.parts

abbrev First : List Data → Value → Value → Type 0
First cells v w = (((cell_of v ≡ None) ⊎ (cell_of w ≡ None)) × (same_value v w ≡ true)) ⊎ SameCells cells v w

same_first : {cells : List Data} (v w : Value) (vs ws : List Value) → Same cells (v ∷ vs) (w ∷ ws) → First cells v w
same_first v w vs ws (plain apart same rest) = inl (apart, same)
same_first v w vs ws (cell first second alike parts rest) = inr (_, _, _, _, refl, refl, first, second, alike, parts)

same_rest : {cells : List Data} (v w : Value) (vs ws : List Value) → Same cells (v ∷ vs) (w ∷ ws) → Same cells vs ws
same_rest v w vs ws (plain apart same rest) = rest
same_rest v w vs ws (cell first second alike parts rest) = rest

same_more : {cells : List Data} (v w : Value) (vs ws : List Value) → First cells v w → Same cells vs ws → Same cells (v ∷ vs) (w ∷ ws)
same_more v w vs ws (inl h) rest = plain h.0 h.1 rest
same_more {cells} v w vs ws (inr h) rest =
    let P : Value → Type 0 = λ x. Same cells (x ∷ vs) (w ∷ ws) in
    let Q : Value → Type 0 = λ y. Same cells (value.Cell h.0 ∷ vs) (y ∷ ws) in
    subst P (sym h.4) (subst Q (sym h.5) (cell h.6 h.7 h.8 h.9 rest))

same_length : {cells : List Data} {vs ws : List Value} → Same cells vs ws → length vs ≡ length ws
same_length empty = refl
same_length (plain apart same rest) = ap suc (same_length rest)
same_length (cell first second alike parts rest) = ap suc (same_length rest)

cell_is : (v : Value) (i : ℕ) → cell_of v ≡ Some i → v ≡ value.Cell i
cell_is value.Unit i e = absurd (none-some i e)
cell_is (value.Bool b) i e = absurd (none-some i e)
cell_is (value.Int n) i e = absurd (none-some i e)
cell_is value.Null i e = absurd (none-some i e)
cell_is (value.Object o) i e = absurd (none-some i e)
cell_is (value.Future f) i e = absurd (none-some i e)
cell_is (value.Constant c) i e = absurd (none-some i e)
cell_is (value.Cell j) i e = ap (λ k. value.Cell k) (known e)

-- What a comparison makes: a Bool that tells whether they are the same, and no cell.
abbrev Tells : List Data → List Value → List Value → Value → List Data → Type 0
Tells cells vs ws x later = (later ≡ cells) × ((b : Bool) × (x ≡ value.Bool b) × ((b ≡ true) ↔ Same cells vs ws))

abbrev PairAsks : List Data → Task → Type 0
PairAsks cells (Task.node row s) = ⊥
PairAsks cells (Task.pair v w) = ⊤

abbrev PairMakes : (cells : List Data) (task : Task) → PairAsks cells task → Value → List Data → Type 0
PairMakes cells (Task.node row s) asked x later = ⊥
PairMakes cells (Task.pair v w) asked x later = Tells cells (v ∷ []) (w ∷ []) x later

abbrev comparing : Claim
comparing = record { Asked = PairAsks; Made = PairMakes }

-- lists of values, over what follows from the Bool that tells whether they are the same
pairs_told : {cells : List Data} (Q : Value → List Data → Type 0) (vs ws : List Value) → length vs ≡ length ws →
    ((b : Bool) → (b ≡ true) ↔ Same cells vs ws → Q (value.Bool b) cells) → Meets comparing Q cells (same_pairs (zip vs ws))
pairs_told Q [] [] alike each = each true (λ e. empty, λ h. refl)
pairs_told Q [] (w ∷ ws) alike each = absurd (omega (arith, alike))
pairs_told Q (v ∷ vs) [] alike each = absurd (omega (arith, alike))
pairs_told {cells} Q (v ∷ vs) (w ∷ ws) alike each = (
  tt,
  λ x later told.
      let P : Value → List Data → Type 0 = λ y cs. Meets comparing Q cs (cond (truth_of y) (same_pairs (zip vs ws)) (done (value.Bool false))) in
      subst (P x) (sym told.0) (subst (λ y. P y cells) (sym told.1.1)
      (go told.1.0 told.1.2 (λ first. pairs_told Q vs ws (omega (arith, alike)) (λ b h. each b (λ e. same_more v w vs ws (alone first) (h.0 e), λ k. h.1 (same_rest v w vs ws k)))))),
)
  where
    alone : Same cells (v ∷ []) (w ∷ []) → First cells v w
    alone h = same_first v w [] [] h

    go : (b : Bool) → (b ≡ true) ↔ Same cells (v ∷ []) (w ∷ []) → (Same cells (v ∷ []) (w ∷ []) → Meets comparing Q cells (same_pairs (zip vs ws))) →
        Meets comparing Q cells (cond b (same_pairs (zip vs ws)) (done (value.Bool false)))
    go true first rest = rest (first.0 refl)
    go false first rest = each false (λ e. absurd (false≢true e), λ h. absurd (false≢true (first.1 (same_more v w [] [] (same_first v w vs ws h) empty))))

-- it is told that these two are not the same
abbrev Differs : List Data → Value → Value → Type 0
Differs cells v w = Same cells (v ∷ []) (w ∷ []) → ⊥

differs_told : {cells : List Data} (v w : Value) → Differs cells v w → Tells cells (v ∷ []) (w ∷ []) (value.Bool false) cells
differs_told v w differs = (refl, (false, refl, (λ e. absurd (false≢true e), λ h. absurd (differs h))))

-- two cells, by what they hold
module _ (cells : List Data) (i j : ℕ) where
  abbrev Told : Value → List Data → Type 0
  Told = Tells cells (value.Cell i ∷ []) (value.Cell j ∷ [])

  -- what two cells hold that are the same
  cells_same : Same cells (value.Cell i ∷ []) (value.Cell j ∷ []) → (a : Data) × (b : Data) × (slice_get cells i ≡ Some a) × (slice_get cells j ≡ Some b)
      × (a.constructor ≡ b.constructor) × Same cells a.parts b.parts
  cells_same (plain apart same rest) = elim apart [ inl missing ↦ absurd (none-some i (sym missing)) | inr missing ↦ absurd (none-some j (sym missing)) ]
  cells_same (cell first second alike parts rest) = (_, _, first, second, alike, parts)

  data_told : (o p : Option Data) → slice_get cells i ≡ o → slice_get cells j ≡ p → Meets comparing Told cells (same_data o p)
  data_told None p first second =
      differs_told (value.Cell i) (value.Cell j) (λ h. let q = cells_same h in none-some q.0 (sym first ∙ q.2))
  data_told (Some a) None first second =
      differs_told (value.Cell i) (value.Cell j) (λ h. let q = cells_same h in none-some q.1 (sym second ∙ q.3))
  data_told (Some a) (Some b) first second = constructors (a.constructor == b.constructor) refl
    where
      held : Same cells (value.Cell i ∷ []) (value.Cell j ∷ []) → (a.constructor ≡ b.constructor) × Same cells a.parts b.parts
      held h =
          let q = cells_same h in
          let at : q.0 ≡ a = known (sym q.2 ∙ first) in
          let at' : q.1 ≡ b = known (sym q.3 ∙ second) in
          (rw (at, at') at q.4, rw (at, at') at q.5)

      lengths : (alike : Bool) → (length a.parts == length b.parts) ≡ alike → a.constructor ≡ b.constructor →
          Meets comparing Told cells (cond alike (same_pairs (zip a.parts b.parts)) (done (value.Bool false)))
      lengths true alike same =
          pairs_told Told a.parts b.parts (eqb-true (length a.parts) (length b.parts) alike)
          (λ x h. (refl, (x, refl, (λ e. cell first second same (h.0 e) empty, λ k. h.1 (held k).1))))
      lengths false alike same =
          differs_told (value.Cell i) (value.Cell j) (λ h. true≢false (sym (eq-eqb (length a.parts) (length b.parts) (same_length (held h).1)) ∙ alike))

      constructors : (same : Bool) → (a.constructor == b.constructor) ≡ same →
          Meets comparing Told cells (cond same (same_parts a.parts b.parts) (done (value.Bool false)))
      constructors true same = lengths (length a.parts == length b.parts) refl (eqb-true a.constructor b.constructor same)
      constructors false same =
          differs_told (value.Cell i) (value.Cell j) (λ h. true≢false (sym (eq-eqb a.constructor b.constructor (held h).0) ∙ same))

-- two values, of which one is no cell
plain_told : {cells : List Data} (v w : Value) → (cell_of v ≡ None) ⊎ (cell_of w ≡ None) → Tells cells (v ∷ []) (w ∷ []) (value.Bool (same_value v w)) cells
plain_told {cells} v w apart = (refl, (same_value v w, refl, (λ e. plain apart e empty, λ h. go (same_first v w [] [] h) apart)))
  where
    go : First cells v w → (cell_of v ≡ None) ⊎ (cell_of w ≡ None) → same_value v w ≡ true
    go (inl h) apart = h.1
    go (inr h) (inl missing) = absurd (none-some h.0 (sym missing ∙ ap cell_of h.4))
    go (inr h) (inr missing) = absurd (none-some h.1 (sym missing ∙ ap cell_of h.5))

pair_told : (cells : List Data) (v w : Value) (o p : Option ℕ) → cell_of v ≡ o → cell_of w ≡ p → Meets comparing (Tells cells (v ∷ []) (w ∷ [])) cells (pair_as v w o p)
pair_told cells v w None p first second = plain_told v w (inl first)
pair_told cells v w (Some i) None first second = plain_told v w (inr second)
pair_told cells v w (Some i) (Some j) first second =
    rw (cell_is v i first, cell_is w j second) (data_told cells i j (slice_get cells i) (slice_get cells j) refl refl)

module _ (m : Content) (this : ℕ) where
  told : (task : Task) (cells : List Data) (asked : comparing.Asked cells task) → Meets comparing (comparing.Made cells task asked) cells (rule m this task)
  told (Task.node row s) cells asked = absurd asked
  told (Task.pair v w) cells asked = pair_told cells v w (cell_of v) (cell_of w) refl refl

  answer_told : (v w : Value) (cells later : List Data) (r : Result Bool EvaluationRefusal) →
      IfOk (answered value.Bool r) (λ x. Tells cells (v ∷ []) (w ∷ []) x later) → TellsSame cells v w r
  answer_told v w cells later (Ok b) h = let is : h.1.0 ≡ b = cc in rw is at h.1.2
  answer_told v w cells later (Err e) h = tt

  pub comparison_told : (v w : Value) (r : Result Bool EvaluationRefusal) {before after : Work} → Ran m this (compare v w) before (answered value.Bool r) after →
      TellsSame before.state.cells v w r
  comparison_told v w r {before} {after} ran =
      let h = out_meets comparing m this told (Tells before.state.cells (v ∷ []) (w ∷ [])) (compare v w) before.state (tt, λ x later made. made) in
      answer_told v w before.state.cells after.state.cells r (rw ran.ends at h)
