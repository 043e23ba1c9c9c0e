-- Types of expressions: the rules tied together, and arguments and branches one after another.
use Rattle.std.proofs.Common.{◌≡◌, ℕ, suc, ◌<◌, Bool, true, false, List, [], ◌∷◌, length, get_or, Some, Option, sym, refl, ap, ◌∙◌}
use Rattle.std.proofs.lemmas.Bool.{and_right, lt-ltb}
use Rattle.std.specs.Bool.{then_some}
use Rattle.tables.specs.declared.rows.BranchRow.{BranchRow}
use Rattle.tables.specs.declared.rows.FunctionRow.{FunctionRow}
use Rattle.tables.specs.declared.rows.ListRow.{ListRow}
use Rattle.tables.specs.Layout.{Content}
use Rattle.syntax.specs.declared.types.ValueType.{ValueType}
use Rattle.syntax.specs.Descent.{below}
use Rattle.syntax.specs.Rows.{when}
use Rattle.syntax.proofs.Descents.{descend_step}
use Rattle.typing.specs.declared.within.Within.{Within}
use Rattle.typing.specs.Expressions.{no_type, type_in, type_step, arguments_fit, branch_type, all_have, common_type}
use Rattle.typing.specs.Giving.{Gives}
use Rattle.typing.specs.Scopes.{Bindings}

-- the type of an expression, by the rule of its kind over the expressions below it
pub type_step_lem : (m : Content) (w : Within) (row : ℕ) (s : Bindings) → type_in m w row s ≡ type_step m w row (below no_type row (type_in m w)) s
unfolding type_in
type_step_lem m w row s = ap (λ (types : Bindings → Option ValueType). types s) (descend_step no_type (type_step m w) row)

some_when : (b : Bool) (u : ValueType) → then_some b u ≡ when b (Some u)
some_when true u = refl
some_when false u = refl

module _ (m : Content) (w : Within) (child : ℕ → Bindings → Option ValueType) where
  -- one argument after another
  unequal : (s : Bindings) (ns : List ℕ) (xs : List ListRow) → (length ns ≡ length xs → ⊥) → false ≡ arguments_fit m w child s ns xs
  unequal s [] [] ne = absurd (ne refl)
  unequal s [] (x ∷ xs) ne = refl
  unequal s (n ∷ ns) [] ne = refl
  unequal s (n ∷ ns) (x ∷ xs) ne = sym (and_right _ _ (sym (unequal s ns xs (λ e. ne (ap suc e)))))

  pub arguments_unequal : (s : Bindings) (ns : List ℕ) (xs : List ListRow) → (length ns ≡ length xs → ⊥) → Gives (arguments_fit m w child s ns xs) s false s
  arguments_unequal s ns xs ne = record { value = unequal s ns xs ne; same = refl }

  -- the type of the first branch, and whether the others have it
  pub common : (f : FunctionRow) (t u : ValueType) (s s' s'' : Bindings) (b : BranchRow) (bs all : List BranchRow) (others : Bool) → all ≡ b ∷ bs →
      Gives (branch_type m w child f s t b) s (Some u) s' → Gives (all_have m w child f s' t u bs) s' others s'' →
      Gives (common_type m w child f s t all) s (then_some others u) s''
  common f t u s s' s'' b bs all others e first rest = record {
    value = rw (e, ← first.value, ← first.same, ← rest.value) (some_when others u);
    same = rest.same ∙ first.same;
  }

-- every row stands below 65,536
above_all : (ty : ℕ → Bindings → Option ValueType) (s : Bindings) (n : ℕ) → n < 65536 → below no_type 65536 ty n s ≡ ty n s
above_all ty s n lt = rw (lt-ltb n 65536 lt)

pub arguments_above : (m : Content) (w : Within) (ty : ℕ → Bindings → Option ValueType) (s : Bindings) (ns : List ℕ) (xs : List ListRow) →
    ((i : ℕ) → get_or ns i 0 < 65536) → arguments_fit m w (below no_type 65536 ty) s ns xs ≡ arguments_fit m w ty s ns xs
arguments_above m w ty s [] [] fits = refl
arguments_above m w ty s [] (x ∷ xs) fits = refl
arguments_above m w ty s (n ∷ ns) [] fits = refl
arguments_above m w ty s (n ∷ ns) (x ∷ xs) fits = rw (above_all ty s n (fits 0), arguments_above m w ty s ns xs (λ i. fits (suc i)))
