-- Patterns: what a fit says of the parts.
use Rattle.std.proofs.Common.{◌≡◌, ℕ, ◌<◌, Bool, true, false, cond, ltb, List, [], ◌∷◌, Some, Option, refl, sym, ◌∙◌, ltb-true}
use Rattle.std.proofs.lemmas.Bool.{lt-ltb}
use Rattle.std.proofs.lemmas.Option.{none-some}
use Rattle.tables.specs.declared.rows.FunctionRow.{FunctionRow}
use Rattle.tables.specs.declared.rows.ListRow.{ListRow}
use Rattle.tables.specs.Layout.{Content}
use Rattle.rules.proofs.Rows.{known, some_of}
use Rattle.syntax.specs.declared.nodes.Node.{Node}
use Rattle.syntax.specs.declared.nodes.Node.TheVariants as node
use Rattle.syntax.specs.declared.nodes.Parts.{Parts}
use Rattle.syntax.specs.declared.types.ValueType.{ValueType}
use Rattle.syntax.specs.declared.types.ValueType.TheVariants as type
use Rattle.syntax.specs.Descent.{below}
use Rattle.syntax.specs.Rows.{when}
use Rattle.syntax.specs.Types.{same, nullable}
use Rattle.syntax.proofs.Parts.{given_parts, when_parts, filter_parts, same_type, same_self, agree_known}
use Rattle.typing.specs.PatternLaws.{LowerFits, ChildrenFit, ConstructorFits, FitsAs, InvertsPattern}
use Rattle.typing.specs.Patterns.{no_scope, null_type, children_scope, constructor_scope, pattern_rule, pattern_scope}
use Rattle.typing.specs.Scopes.{Bindings}
use Rattle.typing.proofs.Matches.{pattern_step_lem}

module _ (m : Content) (f : FunctionRow) (row : ℕ) where
  abbrev lower : ℕ → Bindings → ValueType → Option Bindings
  lower = below no_scope row (pattern_scope m f)

  lower_fits : (s : Bindings) (n : ℕ) (t : ValueType) (s' : Bindings) → lower n s t ≡ Some s' → LowerFits m f row s n t s'
  lower_fits s n t s' e = go (ltb n row) refl e
    where
      go : (b : Bool) → ltb n row ≡ b → cond b (pattern_scope m f n) no_scope s t ≡ Some s' → (n < row) × (pattern_scope m f n s t ≡ Some s')
      go true lt e = (ltb-true n row lt, e)
      go false lt e = absurd (none-some s' e)

  children_fit : (s : Bindings) (ns : List ℕ) (xs : List ListRow) (s' : Bindings) → children_scope m f lower s ns xs ≡ Some s' → ChildrenFit m f row s ns xs s'
  children_fit s [] [] s' e = sym (known e)
  children_fit s [] (x ∷ xs) s' e = none-some s' e
  children_fit s (n ∷ ns) [] s' e = none-some s' e
  children_fit s (n ∷ ns) (x ∷ xs) s' e =
      let p = given_parts _ _ s' e in
      let q = given_parts _ _ p.0 p.1 in
      (q.0, p.0, q.1, lower_fits s n q.0 p.0 q.2, children_fit p.0 ns xs s' p.2)

  constructor_fits : (s : Bindings) (c : ℕ) (ps : Parts) (t : ValueType) (s' : Bindings) → constructor_scope m f lower s c ps t ≡ Some s' →
      ConstructorFits m f row s c ps t s'
  constructor_fits s c ps t s' e =
      let p = given_parts _ _ s' e in
      let q = when_parts _ _ s' p.2 in
      (p.0, p.1, same_type t _ q.0, children_fit s _ _ s' q.1)

  -- a pattern without variables
  literal : (s : Bindings) (t u : ValueType) (s' : Bindings) (e : (same t u ≡ true) × (Some s ≡ Some s')) → (t ≡ u) × (s' ≡ s)
  literal s t u s' e = (same_type t u e.0, sym (known e.1))

  fits_as : (s : Bindings) (n : Node) (t : ValueType) (s' : Bindings) → pattern_rule m f lower s n t ≡ Some s' → FitsAs m f row s n t s'
  fits_as s node.Unit t s' e = literal s t type.Unit s' (when_parts _ _ s' e)
  fits_as s node.False t s' e = literal s t type.Bool s' (when_parts _ _ s' e)
  fits_as s node.True t s' e = literal s t type.Bool s' (when_parts _ _ s' e)
  fits_as s (node.Int n) t s' e = literal s t type.Int s' (when_parts _ _ s' e)
  fits_as s (node.Null r) t s' e =
      let p = when_parts _ _ s' e in
      let q = filter_parts _ nullable t (agree_known (null_type m r) t p.0) in
      (q.0, q.1, sym (known p.1))
  fits_as s (node.Slot slot) t s' e = none-some s' e
  fits_as s (node.This r) t s' e = none-some s' e
  fits_as s (node.Constructor c ps) t s' e = constructor_fits s c ps t s' e
  fits_as s (node.Function g ps) t s' e = none-some s' e
  fits_as s (node.Case x b) t s' e = none-some s' e
  fits_as s (node.Add a b) t s' e = none-some s' e
  fits_as s (node.Subtract a b) t s' e = none-some s' e
  fits_as s (node.Divide a b) t s' e = none-some s' e
  fits_as s (node.Less a b) t s' e = none-some s' e
  fits_as s (node.Equal a b) t s' e = none-some s' e
  fits_as s (node.Not a) t s' e = none-some s' e
  fits_as s (node.And a b) t s' e = none-some s' e
  fits_as s node.Wildcard t s' e = sym (known e)
  fits_as s (node.Variable slot) t s' e =
      let p = when_parts _ _ s' e in
      (agree_known _ t p.0, sym (known p.1))

  -- The other way: children as a kind says make its fit.
  lower_is : (s : Bindings) (n : ℕ) (t : ValueType) (s' : Bindings) → LowerFits m f row s n t s' → lower n s t ≡ Some s'
  lower_is s n t s' h = rw (lt-ltb n row h.0) h.1

  children_made : (s : Bindings) (ns : List ℕ) (xs : List ListRow) (s' : Bindings) → ChildrenFit m f row s ns xs s' → children_scope m f lower s ns xs ≡ Some s'
  children_made s [] [] s' h = some_of h
  children_made s [] (x ∷ xs) s' h = absurd h
  children_made s (n ∷ ns) [] s' h = absurd h
  children_made s (n ∷ ns) (x ∷ xs) s' h = rw (h.2, lower_is s n h.0 h.1 h.3) (children_made h.1 ns xs s' h.4)

  literal_made : (s : Bindings) (t u : ValueType) (s' : Bindings) → (t ≡ u) × (s' ≡ s) → when (same t u) (Some s) ≡ Some s'
  literal_made s t u s' h = rw (h.0, same_self u) (some_of h.1)

  made : (s : Bindings) (n : Node) (t : ValueType) (s' : Bindings) → FitsAs m f row s n t s' → pattern_rule m f lower s n t ≡ Some s'
  made s node.Unit t s' h = literal_made s t type.Unit s' h
  made s node.False t s' h = literal_made s t type.Bool s' h
  made s node.True t s' h = literal_made s t type.Bool s' h
  made s (node.Int n) t s' h = literal_made s t type.Int s' h
  made s (node.Null r) t s' h = rw (h.0, h.1, same_self t) (some_of h.2)
  made s (node.Slot slot) t s' h = absurd h
  made s (node.This r) t s' h = absurd h
  made s (node.Constructor c ps) t s' h = rw (h.1, h.2, same_self (type.Data h.0.number)) (children_made s _ _ s' h.3)
  made s (node.Function g ps) t s' h = absurd h
  made s (node.Case x b) t s' h = absurd h
  made s (node.Add a b) t s' h = absurd h
  made s (node.Subtract a b) t s' h = absurd h
  made s (node.Divide a b) t s' h = absurd h
  made s (node.Less a b) t s' h = absurd h
  made s (node.Equal a b) t s' h = absurd h
  made s (node.Not a) t s' h = absurd h
  made s (node.And a b) t s' h = absurd h
  made s node.Wildcard t s' h = some_of h
  made s (node.Variable slot) t s' h = rw (h.0, same_self t) (some_of h.1)

pub inverts_pattern : (m : Content) (f : FunctionRow) (row : ℕ) (s : Bindings) (t : ValueType) (s' : Bindings) →
    pattern_scope m f row s t ≡ Some s' → InvertsPattern m f row s t s'
inverts_pattern m f row s t s' e =
    let p = given_parts _ _ s' (sym (pattern_step_lem m f row s t) ∙ e) in
    (p.0, p.1, fits_as m f row s p.0 t s' p.2)

pub fits_by : (m : Content) (f : FunctionRow) (row : ℕ) (s : Bindings) (t : ValueType) (s' : Bindings) →
    InvertsPattern m f row s t s' → pattern_scope m f row s t ≡ Some s'
fits_by m f row s t s' h = pattern_step_lem m f row s t ∙ rw h.1 (made m f row s h.0 t s' h.2)
