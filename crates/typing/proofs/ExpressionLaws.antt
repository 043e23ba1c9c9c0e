-- Expressions: what a type says of the parts.
use Rattle.std.proofs.Common.{◌≡◌, ℕ, suc, ◌<◌, Bool, true, false, cond, ltb, All, List, [], ◌∷◌, length, get_or, Some, Option, refl, sym, ap, subst, ◌∙◌, ltb-true, arith}
use Rattle.std.proofs.lemmas.Bool.{and_from, and_parts, lt-ltb, false≢true}
use Rattle.std.proofs.lemmas.List.Elements.{All-cons}
use Rattle.std.proofs.lemmas.List.Sums.{AllPass-from_list_all, list_all-from_AllPass}
use Rattle.std.proofs.lemmas.Option.{none-some}
use Rattle.tables.specs.declared.rows.BranchRow.{BranchRow}
use Rattle.tables.specs.declared.rows.FunctionRow.{FunctionRow}
use Rattle.tables.specs.declared.rows.ListRow.{ListRow}
use Rattle.tables.specs.Layout.{Content}
use Rattle.rules.proofs.Rows.{known, some_of}
use Rattle.syntax.specs.declared.nodes.Node.{Node}
use Rattle.syntax.specs.declared.nodes.Node.TheVariants as node
use Rattle.syntax.specs.declared.nodes.Parts.{Parts}
use Rattle.syntax.specs.declared.types.ValueType.{ValueType}
use Rattle.syntax.specs.declared.types.ValueType.TheVariants as type
use Rattle.syntax.specs.Descent.{below}
use Rattle.syntax.specs.Rows.{when}
use Rattle.syntax.specs.Types.{nullable, agree}
use Rattle.syntax.proofs.Parts.{given_parts, when_parts, filter_parts, agree_parts, agree_known, agreed}
use Rattle.typing.specs.declared.within.Within.{Within}
use Rattle.typing.specs.declared.within.Within.TheVariants as within
use Rattle.typing.specs.ExpressionLaws.{ArgumentsFit, Lower, Both, IsThis, IsConstructed, IsResult, IsBranch, IsCase, TypedAs, Inverts}
use Rattle.typing.specs.Expressions.{no_type, branches_of, arguments_fit, this_type, constructor_type, function_type, branch_type, all_have, common_type, case_type, both, lists_type, type_rule, type_in}
use Rattle.typing.specs.Scopes.{Bindings, entry_type}
use Rattle.typing.proofs.Typings.{type_step_lem}

-- arguments, over whatever tells the type of one
pub arguments_parts : (m : Content) (w : Within) (child : ℕ → Bindings → Option ValueType) (s : Bindings) (has : ℕ → ValueType → Type 0) →
    ((n : ℕ) (t : ValueType) → child n s ≡ Some t → has n t) → (ns : List ℕ) (xs : List ListRow) →
    arguments_fit m w child s ns xs ≡ true → ArgumentsFit m has ns xs
arguments_parts m w child s has each [] [] e = tt
arguments_parts m w child s has each [] (x ∷ xs) e = absurd (false≢true e)
arguments_parts m w child s has each (n ∷ ns) [] e = absurd (false≢true e)
arguments_parts m w child s has each (n ∷ ns) (x ∷ xs) e =
    let p = and_parts _ _ e in
    let q = agree_parts _ _ p.0 in
    ((q.0, q.2, each n q.0 q.1), arguments_parts m w child s has each ns xs p.1)

pub arguments_made : (m : Content) (w : Within) (child : ℕ → Bindings → Option ValueType) (s : Bindings) (has : ℕ → ValueType → Type 0) →
    ((n : ℕ) (t : ValueType) → has n t → child n s ≡ Some t) → (ns : List ℕ) (xs : List ListRow) →
    ArgumentsFit m has ns xs → arguments_fit m w child s ns xs ≡ true
arguments_made m w child s has each [] [] h = refl
arguments_made m w child s has each [] (x ∷ xs) h = absurd h
arguments_made m w child s has each (n ∷ ns) [] h = absurd h
arguments_made m w child s has each (n ∷ ns) (x ∷ xs) h =
    and_from _ _ (agreed (child n s) (entry_type m x) h.0.0 (each n h.0.0 h.0.2) h.0.1) (arguments_made m w child s has each ns xs h.1)

module _ (m : Content) (w : Within) (row : ℕ) where
  abbrev lower : ℕ → Bindings → Option ValueType
  lower = below no_type row (type_in m w)

  lower_typed : (s : Bindings) (n : ℕ) (t : ValueType) → lower n s ≡ Some t → Lower m w row s n t
  lower_typed s n t e = go (ltb n row) refl e
    where
      go : (b : Bool) → ltb n row ≡ b → cond b (type_in m w n) no_type s ≡ Some t → (n < row) × (type_in m w n s ≡ Some t)
      go true lt e = (ltb-true n row lt, e)
      go false lt e = absurd (none-some t e)

  has_type : (s : Bindings) (n : ℕ) (t : ValueType) → agree (lower n s) (Some t) ≡ true → Lower m w row s n t
  has_type s n t e = lower_typed s n t (agree_known (lower n s) t e)

  both_typed : (s : Bindings) (t : ValueType) (a b : ℕ) → both m w lower s t a b ≡ true → Both m w row s t a b
  both_typed s t a b e = let p = and_parts _ _ e in (has_type s a t p.0, has_type s b t p.1)

  operator_typed : (s : Bindings) (t u result : ValueType) (a b : ℕ) → when (both m w lower s t a b) (Some result) ≡ Some u → (u ≡ result) × Both m w row s t a b
  operator_typed s t u result a b e = let p = when_parts _ _ u e in (sym (known p.1), both_typed s t a b p.0)

  arguments_typed : (s : Bindings) (ns : List ℕ) (xs : List ListRow) → arguments_fit m w lower s ns xs ≡ true → ArgumentsFit m (Lower m w row s) ns xs
  arguments_typed s = arguments_parts m w lower s (Lower m w row s) (lower_typed s)

  constructed : (s : Bindings) (c : ℕ) (ps : Parts) (t : ValueType) → constructor_type m w lower s c ps ≡ Some t → IsConstructed m w row s c ps t
  constructed s c ps t e =
      let p = given_parts _ _ t e in
      let q = when_parts _ _ t p.2 in
      (p.0, p.1, sym (known q.1), arguments_typed s _ _ q.0)

  is_result : (s : Bindings) (f : ℕ) (ps : Parts) (t : ValueType) → function_type m w lower s f ps ≡ Some t → IsResult m w row s f ps t
  is_result s f ps t e =
      let p = given_parts _ _ t e in
      let q = when_parts _ _ t p.2 in
      (p.0, p.1, q.1, arguments_typed s _ _ q.0)

  is_branch : (f : FunctionRow) (s : Bindings) (examined t : ValueType) (b : BranchRow) → branch_type m w lower f s examined b ≡ Some t →
      IsBranch m w row f s examined t b
  is_branch f s examined t b e = let p = given_parts _ _ t e in (p.0, p.1, lower_typed p.0 b.body t p.2)

  all_branches : (f : FunctionRow) (s : Bindings) (examined t : ValueType) (bs : List BranchRow) → all_have m w lower f s examined t bs ≡ true →
      All (IsBranch m w row f s examined t) bs
  all_branches f s examined t bs e k d lt =
      let have = AllPass-from_list_all _ bs e in
      is_branch f s examined t (get_or bs k d) (agree_known _ t (have k d lt))

  branches : (f : FunctionRow) (s : Bindings) (examined t : ValueType) (bs : List BranchRow) → common_type m w lower f s examined bs ≡ Some t →
      (0 < length bs) × All (IsBranch m w row f s examined t) bs
  branches f s examined t [] e = absurd (none-some t e)
  branches f s examined t (b ∷ bs) e =
      let p = given_parts _ _ t e in
      let q = when_parts _ _ t p.2 in
      let same = known q.1 in
      let first : branch_type m w lower f s examined b ≡ Some t = p.1 ∙ ap (λ (u : ValueType). Some u) same in
      let rest : all_have m w lower f s examined t bs ≡ true = rw (← same) q.0 in
      (omega arith, All-cons (IsBranch m w row f s examined t) b bs (is_branch f s examined t b first) (all_branches f s examined t bs rest))

  is_case : (w' : Within) → w ≡ w' → (s : Bindings) (e first : ℕ) (t : ValueType) → case_type m w lower w' s e first ≡ Some t → IsCase m w row s e first t
  is_case (within.Function f) same s e first t typed =
      let p = given_parts _ _ t typed in
      let q = branches f s p.0 t _ p.2 in
      (f, p.0, same, lower_typed s e p.0 p.1, q.0, q.1)
  is_case (within.Class c) same s e first t typed = absurd (none-some t typed)

  is_this : (w' : Within) → w ≡ w' → (r : ℕ) (t : ValueType) → this_type m w' r ≡ Some t → IsThis m w row r t
  is_this (within.Function f) same r t e = absurd (none-some t e)
  is_this (within.Class c) same r t e =
      let p = filter_parts _ (lists_type m c) t e in
      (c, same, p.0, p.1)

  -- the rule of each kind
  typed_as : (s : Bindings) (n : Node) (t : ValueType) → type_rule m w lower s n ≡ Some t → TypedAs m w row s n t
  typed_as s node.Unit t e = sym (known e)
  typed_as s node.False t e = sym (known e)
  typed_as s node.True t e = sym (known e)
  typed_as s (node.Int n) t e = sym (known e)
  typed_as s (node.Null r) t e = filter_parts _ nullable t e
  typed_as s (node.Slot slot) t e = e
  typed_as s (node.This r) t e = is_this w refl r t e
  typed_as s (node.Constructor c ps) t e = constructed s c ps t e
  typed_as s (node.Function f ps) t e = is_result s f ps t e
  typed_as s (node.Case x first) t e = is_case w refl s x first t e
  typed_as s (node.Add a b) t e = operator_typed s type.Int t type.Int a b e
  typed_as s (node.Subtract a b) t e = operator_typed s type.Int t type.Int a b e
  typed_as s (node.Divide a b) t e = operator_typed s type.Int t type.Int a b e
  typed_as s (node.Less a b) t e = operator_typed s type.Int t type.Bool a b e
  typed_as s (node.Equal a b) t e =
      let p = when_parts _ _ t e in
      let q = agree_parts _ _ p.0 in
      (sym (known p.1), (q.0, (lower_typed s a q.0 q.1, lower_typed s b q.0 q.2)))
  typed_as s (node.Not a) t e = let p = when_parts _ _ t e in (sym (known p.1), has_type s a type.Bool p.0)
  typed_as s (node.And a b) t e = operator_typed s type.Bool t type.Bool a b e
  typed_as s node.Wildcard t e = none-some t e
  typed_as s (node.Variable slot) t e = none-some t e

  -- The other way: parts as a kind says make its type.
  lower_is : (s : Bindings) (n : ℕ) (t : ValueType) → Lower m w row s n t → lower n s ≡ Some t
  lower_is s n t h = rw (lt-ltb n row h.0) h.1

  lower_agrees : (s : Bindings) (n : ℕ) (t : ValueType) → Lower m w row s n t → agree (lower n s) (Some t) ≡ true
  lower_agrees s n t h = agreed (lower n s) (Some t) t (lower_is s n t h) refl

  both_made : (s : Bindings) (t : ValueType) (a b : ℕ) → Both m w row s t a b → both m w lower s t a b ≡ true
  both_made s t a b h = and_from _ _ (lower_agrees s a t h.0) (lower_agrees s b t h.1)

  operator_made : (s : Bindings) (t u result : ValueType) (a b : ℕ) → (u ≡ result) × Both m w row s t a b →
      when (both m w lower s t a b) (Some result) ≡ Some u
  operator_made s t u result a b h = rw (both_made s t a b h.1) (some_of h.0)

  arguments_lower : (s : Bindings) (ns : List ℕ) (xs : List ListRow) → ArgumentsFit m (Lower m w row s) ns xs → arguments_fit m w lower s ns xs ≡ true
  arguments_lower s = arguments_made m w lower s (Lower m w row s) (lower_is s)

  branch_made : (f : FunctionRow) (s : Bindings) (examined t : ValueType) (b : BranchRow) → IsBranch m w row f s examined t b →
      branch_type m w lower f s examined b ≡ Some t
  branch_made f s examined t b h = rw h.1 (lower_is h.0 b.body t h.2)

  branches_made : (f : FunctionRow) (s : Bindings) (examined t : ValueType) (bs : List BranchRow) → 0 < length bs →
      All (IsBranch m w row f s examined t) bs → common_type m w lower f s examined bs ≡ Some t
  branches_made f s examined t [] some all = absurd (omega arith)
  branches_made f s examined t (b ∷ bs) some all =
      let first : branch_type m w lower f s examined b ≡ Some t = branch_made f s examined t b (all 0 b (omega arith)) in
      let rest : all_have m w lower f s examined t bs ≡ true = list_all-from_AllPass _ bs
      (λ k d lt. agreed _ (Some t) t (branch_made f s examined t (get_or bs k d) (all (suc k) d (omega arith))) refl) in
      rw (first, rest) refl

  case_made : (s : Bindings) (e first : ℕ) (t : ValueType) → IsCase m w row s e first t → case_type m w lower w s e first ≡ Some t
  case_made s e first t h =
      let P : Within → Type 0 = λ w'. case_type m w lower w' s e first ≡ Some t in
      subst P (sym h.2) (rw (lower_is s e h.1 h.3) (branches_made h.0 s h.1 t (branches_of m first) h.4 h.5))

  this_made : (r : ℕ) (t : ValueType) → IsThis m w row r t → this_type m w r ≡ Some t
  this_made r t h =
      let P : Within → Type 0 = λ w'. this_type m w' r ≡ Some t in
      subst P (sym h.1) (rw (h.2, h.3) refl)

  made : (s : Bindings) (n : Node) (t : ValueType) → TypedAs m w row s n t → type_rule m w lower s n ≡ Some t
  made s node.Unit t h = some_of h
  made s node.False t h = some_of h
  made s node.True t h = some_of h
  made s (node.Int n) t h = some_of h
  made s (node.Null r) t h = rw (h.0, h.1) refl
  made s (node.Slot slot) t h = h
  made s (node.This r) t h = this_made r t h
  made s (node.Constructor c ps) t h = rw (h.1, arguments_lower s _ _ h.3) (some_of h.2)
  made s (node.Function f ps) t h = rw (h.1, arguments_lower s _ _ h.3) h.2
  made s (node.Case x first) t h = case_made s x first t h
  made s (node.Add a b) t h = operator_made s type.Int t type.Int a b h
  made s (node.Subtract a b) t h = operator_made s type.Int t type.Int a b h
  made s (node.Divide a b) t h = operator_made s type.Int t type.Int a b h
  made s (node.Less a b) t h = operator_made s type.Int t type.Bool a b h
  made s (node.Equal a b) t h =
      rw (agreed (lower a s) (lower b s) h.1.0 (lower_is s a h.1.0 h.1.1.0) (lower_is s b h.1.0 h.1.1.1)) (some_of h.0)
  made s (node.Not a) t h = rw (lower_agrees s a type.Bool h.1) (some_of h.0)
  made s (node.And a b) t h = operator_made s type.Bool t type.Bool a b h
  made s node.Wildcard t h = absurd h
  made s (node.Variable slot) t h = absurd h

pub inverts : (m : Content) (w : Within) (row : ℕ) (s : Bindings) (t : ValueType) → type_in m w row s ≡ Some t → Inverts m w row s t
inverts m w row s t e =
    let p = given_parts _ _ t (sym (type_step_lem m w row s) ∙ e) in
    (p.0, p.1, typed_as m w row s p.0 t p.2)

pub typed_by : (m : Content) (w : Within) (row : ℕ) (s : Bindings) (t : ValueType) → Inverts m w row s t → type_in m w row s ≡ Some t
typed_by m w row s t h = type_step_lem m w row s ∙ rw h.1 (made m w row s h.0 t h.2)
