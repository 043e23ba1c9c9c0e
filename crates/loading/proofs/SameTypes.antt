-- Rows and lists that the rules take for the same types.
use Rattle.std.proofs.Common.{◌≡◌, ℕ, true, not, eqb, ◌||◌, List, [], ◌∷◌, length, map, Some, None, Option, refl, sym, ap, ◌∙◌, arith}
use Rattle.std.proofs.lemmas.Bool.{and_from, and_parts, eqb-true, eq-eqb}
use Rattle.std.specs.List.{slice_get}
use Rattle.tables.specs.declared.kinds.TypeKind.{TypeKind}
use Rattle.tables.specs.declared.kinds.TypeKind.TheVariants as kind
use Rattle.tables.specs.declared.rows.ListRow.{ListRow}
use Rattle.tables.specs.declared.rows.TypeRow.{TypeRow}
use Rattle.tables.specs.Kinds.{type_kind}
use Rattle.tables.specs.Layout.{Content}
use Rattle.rules.specs.Types.{refers, same_type}
use Rattle.rules.specs.Words.{at}
use Rattle.shape.specs.Methods.{same_type_at, same_types}
use Rattle.syntax.specs.declared.types.ValueType.{ValueType}
use Rattle.syntax.specs.Rows.{given}
use Rattle.syntax.specs.Types.{type_as, type_of, type_at}
use Rattle.syntax.proofs.Parts.{passes_parts}
use Rattle.typing.specs.Scopes.{entry_type}

-- equal rows are the same type
same_named : (k : Option TypeKind) (a b : ℕ) → (not (refers k) || eqb a b) ≡ true → type_as a k ≡ type_as b k
same_named None a b e = refl
same_named (Some kind.Unit) a b e = refl
same_named (Some kind.Bool) a b e = refl
same_named (Some kind.Int) a b e = refl
same_named (Some kind.Data) a b e = ap (λ n. type_as n (Some kind.Data)) (eqb-true a b e)
same_named (Some kind.Interface) a b e = ap (λ n. type_as n (Some kind.Interface)) (eqb-true a b e)
same_named (Some kind.Future) a b e = ap (λ n. type_as n (Some kind.Future)) (eqb-true a b e)

same_rows : (x y : TypeRow) → same_type x y ≡ true → type_of x ≡ type_of y
same_rows x y e =
    let p = and_parts _ _ e in
    same_named (type_kind x.kind) x.reference y.reference p.1 ∙ ap (λ k. type_as y.reference (type_kind k)) (eqb-true x.kind y.kind p.0)

-- what a row says, if it is there
abbrev says : Option TypeRow → Option ValueType
says o = given o type_of

module _ (m : Content) where
  pub same_at : (i j : ℕ) → same_type_at m i j ≡ true → type_at m i ≡ type_at m j
  same_at i j e =
      let p = passes_parts (slice_get m.types i) (λ x. at m.types j (same_type x)) e in
      let q = passes_parts (slice_get m.types j) (same_type p.0) p.2 in
      ap says p.1 ∙ same_rows p.0 q.0 q.2 ∙ sym (ap says q.1)

  pub same_lists : (xs ys : List ListRow) → same_types m xs ys ≡ true → map (entry_type m) xs ≡ map (entry_type m) ys
  same_lists [] [] e = refl
  same_lists [] (y ∷ ys) e = absurd (let p = and_parts _ _ e in let l = eqb-true 0 (length (y ∷ ys)) p.0 in omega arith)
  same_lists (x ∷ xs) [] e = absurd (let p = and_parts _ _ e in let l = eqb-true (length (x ∷ xs)) 0 p.0 in omega arith)
  same_lists (x ∷ xs) (y ∷ ys) e =
      let p = and_parts _ _ e in
      let q = and_parts _ _ p.1 in
      let l = eqb-true (length (x ∷ xs)) (length (y ∷ ys)) p.0 in
      rw (same_at x.entry y.entry q.0, same_lists xs ys (and_from _ _ (eq-eqb (length xs) (length ys) (omega arith)) q.1)) refl
