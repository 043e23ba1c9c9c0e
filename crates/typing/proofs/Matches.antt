-- Patterns: the rules tied together, and children one after another.
use Rattle.std.proofs.Common.{◌≡◌, ℕ, suc, Bool, true, false, cond, List, [], ◌∷◌, ◌++◌, length, is_some, Some, None, Option, sym, refl, ap, ◌∙◌, append_assoc}
use Rattle.tables.specs.declared.rows.FunctionRow.{FunctionRow}
use Rattle.tables.specs.declared.rows.ListRow.{ListRow}
use Rattle.tables.specs.Layout.{Content}
use Rattle.syntax.specs.declared.types.ValueType.{ValueType}
use Rattle.syntax.specs.Descent.{below}
use Rattle.syntax.specs.Rows.{given}
use Rattle.syntax.specs.Types.{agree}
use Rattle.syntax.proofs.Descents.{descend_step}
use Rattle.mapping.specs.Bindings.{lookup}
use Rattle.typing.specs.Matching.{Matched}
use Rattle.typing.specs.Patterns.{no_scope, pattern_scope, pattern_step, child_scope, children_scope, variable_scope}
use Rattle.typing.specs.Scopes.{Bindings, declared, bind_free}

-- the scope behind a pattern, by the rule of its kind over the patterns below it
pub pattern_step_lem : (m : Content) (f : FunctionRow) (row : ℕ) (s : Bindings) (t : ValueType) →
    pattern_scope m f row s t ≡ pattern_step m f row (below no_scope row (pattern_scope m f)) s t
unfolding pattern_scope
pattern_step_lem m f row s t = ap (λ (scope : Bindings → ValueType → Option Bindings). scope s t) (descend_step no_scope (pattern_step m f) row)

-- nothing is bound where nothing fits
pub matched_none : (before : Bindings) → Matched None before false before
matched_none before = record { scope = refl; grows = ([], refl) }

module _ (m : Content) (f : FunctionRow) (child : ℕ → Bindings → ValueType → Option Bindings) where
  -- as many children as parameters
  unequal : (s : Bindings) (ns : List ℕ) (xs : List ListRow) → (length ns ≡ length xs → ⊥) → children_scope m f child s ns xs ≡ None
  unequal s [] [] ne = absurd (ne refl)
  unequal s [] (x ∷ xs) ne = refl
  unequal s (n ∷ ns) [] ne = refl
  unequal s (n ∷ ns) (x ∷ xs) ne = go (child_scope m f child s n x) (λ s'. unequal s' ns xs (λ e. ne (ap suc e)))
    where
      go : (o : Option Bindings) → ((s' : Bindings) → children_scope m f child s' ns xs ≡ None) → given o (λ s'. children_scope m f child s' ns xs) ≡ None
      go None none = refl
      go (Some s') none = none s'

  pub matched_unequal : (s : Bindings) (ns : List ℕ) (xs : List ListRow) → (length ns ≡ length xs → ⊥) → Matched (children_scope m f child s ns xs) s false s
  matched_unequal s ns xs ne = rw (unequal s ns xs ne) (matched_none s)

  -- a child, against the parameter at its place, with those behind them
  module _ (start s s' : Bindings) (n : ℕ) (x : ListRow) (ns : List ℕ) (xs : List ListRow) (all : Option Bindings) (fits : Bool)
      (behind : children_scope m f child s (n ∷ ns) (x ∷ xs) ≡ all) (grows : (newer : Bindings) × (s ≡ newer ++ start))
      (tried : Matched (child_scope m f child s n x) s fits s') where
    grown : (newer : Bindings) × (s' ≡ newer ++ start)
    grown = (tried.grows.0 ++ grows.0, tried.grows.1 ∙ ap (λ (z : Bindings). tried.grows.0 ++ z) grows.1 ∙ sym (append_assoc tried.grows.0 grows.0 start))

    whole : all ≡ given (cond fits (Some s') None) (λ z. children_scope m f child z ns xs)
    whole = sym behind ∙ rw tried.scope

    -- it fits: one child more
    pub child_more : fits ≡ true → (children_scope m f child s' ns xs ≡ all) × ((newer : Bindings) × (s' ≡ newer ++ start))
    child_more hit = (sym (rw hit at whole), grown)

    -- it does not fit
    pub child_stops : fits ≡ false → Matched all start false s'
    child_stops miss = record { scope = rw miss at whole; grows = grown }

-- a variable that fits
pub variable_fits : (m : Content) (f : FunctionRow) (s s' : Bindings) (slot : ℕ) (t : ValueType) →
    true ≡ agree (declared m f.slots_first f.slots slot) (Some t) → s' ≡ bind_free slot t s → Matched (variable_scope m f s slot t) s true s'
variable_fits m f s s' slot t fits e = record { scope = rw (← fits, e) refl; grows = rw e (go (is_some (lookup slot s))) }
  where
    go : (b : Bool) → (newer : Bindings) × (cond b s (record { slot = slot; entry = t } ∷ s) ≡ newer ++ s)
    go true = ([], refl)
    go false = (record { slot = slot; entry = t } ∷ [], refl)
