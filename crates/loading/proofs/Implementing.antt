-- A class of an accepted model implements its interfaces.
use Rattle.std.proofs.Common.{◌≡◌, ℕ, ◌+◌, ◌<◌, Bool, true, false, eqb, List, take, Some, None, Option, refl, sym, ap, subst, ◌∙◌, inl, inr, arith}
use Rattle.std.proofs.lemmas.Bool.{and_parts, and_from, eqb-true, eq-eqb, not-false, true≢false, cases_lt, le-leb, lt-ltb}
use Rattle.std.proofs.lemmas.Option.{none-some, slice_get_within}
use Rattle.std.specs.List.{list_any, slice_get}
use Rattle.std.specs.Option.{option_map}
use Rattle.tables.specs.declared.kinds.TypeKind.{TypeKind}
use Rattle.tables.specs.declared.kinds.TypeKind.TheVariants as kind
use Rattle.tables.specs.declared.place.Table.TheVariants as table
use Rattle.tables.specs.declared.place.TableRule.TheVariants.{Method}
use Rattle.tables.specs.declared.rows.ClassRow.{ClassRow}
use Rattle.tables.specs.declared.rows.InterfaceRow.{InterfaceRow}
use Rattle.tables.specs.declared.rows.MethodRow.{MethodRow}
use Rattle.tables.specs.declared.rows.SignatureRow.{SignatureRow}
use Rattle.tables.specs.Kinds.{type_kind}
use Rattle.tables.specs.Layout.{Content}
use Rattle.rules.specs.Types.{is_interface_kind}
use Rattle.rules.specs.Words.{at, part}
use Rattle.rules.proofs.Rows.{known, at_kept, any_kept, any_row, row_any, find_row, find_some, take_row, row_of_part}
use Rattle.placement.specs.Holders.{in_range}
use Rattle.shape.specs.Methods.{fits, lacks_signature, lacks_interface, lacks_type, lacks_listed, class_method}
use Rattle.model.specs.Rules.{NoPlaceBreaks}
use Rattle.syntax.specs.declared.types.ValueType.{ValueType}
use Rattle.syntax.specs.declared.types.ValueType.TheVariants as type
use Rattle.syntax.specs.Types.{type_as}
use Rattle.syntax.proofs.Parts.{given_parts, agree_known}
use Rattle.typing.specs.declared.calls.Heading.{Heading}
use Rattle.typing.specs.Expressions.{lists_type}
use Rattle.typing.specs.Scopes.{entry_type}
use Rattle.typing.specs.Statements.{method_heading, signature_heading, signature_named}
use Rattle.loading.specs.Laws.{IsClass, IsMethod, SameTypes, Implements}
use Rattle.loading.proofs.SameTypes.{same_at, same_lists}
use Rattle.loading.proofs.Shapes.{names_apart}
use Rattle.loading.proofs.Typed.{class_asked}

pub mapped_parts : {A B : Type 0} (f : A → B) (o : Option A) (y : B) → option_map f o ≡ Some y → (x : A) × (o ≡ Some x) × (f x ≡ y)
mapped_parts f None y e = absurd (none-some y e)
mapped_parts f (Some x) y e = (x, refl, known e)

-- a row that says an interface
interface_as : (k : Option TypeKind) (ref n : ℕ) → type_as ref k ≡ Some (type.Interface n) → (is_interface_kind k ≡ true) × (ref ≡ n)
interface_as None ref n e = absurd (none-some _ e)
interface_as (Some kind.Unit) ref n e = let z : ◌≡◌ {A = ℕ} 0 1 = cc in absurd (omega arith)
interface_as (Some kind.Bool) ref n e = let z : ◌≡◌ {A = ℕ} 0 1 = cc in absurd (omega arith)
interface_as (Some kind.Int) ref n e = let z : ◌≡◌ {A = ℕ} 0 1 = cc in absurd (omega arith)
interface_as (Some kind.Data) ref n e = let z : ◌≡◌ {A = ℕ} 0 1 = cc in absurd (omega arith)
interface_as (Some kind.Interface) ref n e = (refl, cc)
interface_as (Some kind.Future) ref n e = let z : ◌≡◌ {A = ℕ} 0 1 = cc in absurd (omega arith)

-- a row that passes a test at one place, and none before another
not_before : {A : Type 0} (p : A → Bool) (xs : List A) (a b : ℕ) (y : A) → list_any p (take a xs) ≡ false → slice_get xs b ≡ Some y → p y ≡ true → b < a → ⊥
not_before p xs a b y none row hit lt = true≢false (sym hit ∙ any_kept p (take a xs) b y none (take_row xs a b lt ∙ row))

-- a method that is as a signature says
fit_parts : (m : Content) (g : SignatureRow) (x : MethodRow) → fits m g x ≡ true → (x.name ≡ g.name) × SameTypes m (signature_heading g) (method_heading x)
fit_parts m g x e =
    let p = and_parts _ _ e in
    let q = and_parts _ _ p.0 in
    (eqb-true x.name g.name q.0, record { parameters = same_lists m _ _ p.1; result = same_at m g.result x.result q.1 })

module _ (m : Content) (keeps : NoPlaceBreaks m) (i : ℕ) (c : ClassRow) (class : slice_get m.classes i ≡ Some c) where
  -- the methods of the class
  abbrev own : List MethodRow
  own = part c.methods_first c.methods_count m.methods

  inside : (a : ℕ) → a < c.methods_count → in_range (c.methods_first + a) c.methods_first c.methods_count ≡ true
  inside a lt = and_from _ _ (le-leb c.methods_first (c.methods_first + a) (omega arith)) (lt-ltb (c.methods_first + a) (c.methods_first + c.methods_count) (omega arith))

  is_method : (a : ℕ) (x : MethodRow) → slice_get own a ≡ Some x → IsMethod m c x
  is_method a x e =
      let p = row_of_part m.methods c.methods_first c.methods_count a x e in
      (c.methods_first + a, p.1, inside a p.0)

  -- no earlier method of the class has the name of a later one
  own_name : (a b : ℕ) (x y : MethodRow) → slice_get own a ≡ Some x → slice_get own b ≡ Some y → a < b → x.name ≡ y.name → ⊥
  own_name a b x y first later lt same =
      let p = row_of_part m.methods c.methods_first c.methods_count a x first in
      let q = row_of_part m.methods c.methods_first c.methods_count b y later in
      names_apart m keeps c (c.methods_first + a) (c.methods_first + b) x y (i, class) p.1 q.1 (inside a p.0) (inside b q.0) (omega arith) same

  -- the first method of a name is the one
  only_one : (name a b : ℕ) (x y : MethodRow) → slice_get own a ≡ Some x → x.name ≡ name → list_any (λ z. eqb z.name name) (take a own) ≡ false →
      slice_get own b ≡ Some y → y.name ≡ name → x ≡ y
  only_one name a b x y first named none later also = elim (cases_lt b a) [
    | inl lt ↦ absurd (not_before (λ z. eqb z.name name) own a b y none later (eq-eqb y.name name also) lt)
    | inr ge ↦ elim (cases_lt a b) [
      | inl lt ↦ absurd (own_name a b x y first later lt (named ∙ sym also))
      | inr le ↦ (let same : a ≡ b = omega arith in known (sym first ∙ rw (← same) at later))
    ]
  ]

  -- the class lacks no signature of an interface that it lists
  lacks_none : (n k : ℕ) (face : InterfaceRow) (g : SignatureRow) → lists_type m c (type.Interface n) ≡ true → slice_get m.interfaces n ≡ Some face →
      slice_get (part face.first face.count m.signatures) k ≡ Some g → list_any (fits m g) own ≡ true
  lacks_none n k face g lists there signature =
      let e = any_row _ _ lists in
      let row = given_parts _ _ _ (agree_known (entry_type m e.1) (type.Interface n) e.3) in
      let says = interface_as (type_kind row.0.kind) row.0.reference n row.2 in
      let all = at_kept m.classes i (class_method m) c (keeps Method table.Classes i (class_asked m.classes i (slice_get_within m.classes i c class))) class in
      let listed = any_kept (lacks_listed m c) _ e.0 e.1 all e.2 in
      let typed : lacks_type m c row.0 ≡ false = at_kept m.types e.1.entry (lacks_type m c) row.0 listed row.1 in
      let face_kept : at m.interfaces n (lacks_interface m c) ≡ false = rw (says.0, says.1) at typed in
      let signatures = at_kept m.interfaces n (lacks_interface m c) face face_kept there in
      not-false _ (any_kept (lacks_signature m c) _ k g signatures signature)

  -- the method that a signature asks for
  of_signature : (g : SignatureRow) → list_any (fits m g) own ≡ true → Implements m c g.name (signature_heading g)
  of_signature g e =
      let y = any_row (fits m g) own e in
      let fit = fit_parts m g y.1 y.3 in
      let named = eq-eqb y.1.name g.name fit.0 in
      let x = find_some (λ z. eqb z.name g.name) own (row_any (λ z. eqb z.name g.name) own y.0 y.1 y.2 named) in
      let first = find_row (λ z. eqb z.name g.name) own x.0 x.1 in
      let one = only_one g.name first.0 y.0 x.0 y.1 first.1 (eqb-true x.0.name g.name first.2) first.3 y.2 fit.0 in
      (y.1, is_method y.0 y.1 y.2, ap (option_map method_heading) x.1 ∙ ap (λ (z : MethodRow). Some (method_heading z)) one, fit.1)

  implemented : (n name : ℕ) (h : Heading) → lists_type m c (type.Interface n) ≡ true → signature_named m (type.Interface n) name ≡ Some h → Implements m c name h
  implemented n name h lists named =
      let face = given_parts _ _ h named in
      let g = mapped_parts signature_heading _ h face.2 in
      let k = find_row (λ z. eqb z.name name) _ g.0 g.1 in
      let found = of_signature g.0 (lacks_none n k.0 face.0 g.0 lists face.1 k.1) in
      let P : ℕ → Heading → Type 0 = λ name h. Implements m c name h in
      subst (P name) g.2 (subst (λ (name : ℕ). P name (signature_heading g.0)) (eqb-true g.0.name name k.2) found)

pub signatures : (m : Content) → NoPlaceBreaks m → (c : ClassRow) (t : ValueType) (name : ℕ) (h : Heading) → IsClass m c → lists_type m c t ≡ true →
    signature_named m t name ≡ Some h → Implements m c name h
signatures m keeps c type.Unit name h class lists e = absurd (none-some h e)
signatures m keeps c type.Bool name h class lists e = absurd (none-some h e)
signatures m keeps c type.Int name h class lists e = absurd (none-some h e)
signatures m keeps c (type.Data d) name h class lists e = absurd (none-some h e)
signatures m keeps c (type.Interface n) name h class lists e = implemented m keeps class.0 c class.1 n name h lists e
signatures m keeps c (type.Future r) name h class lists e = absurd (none-some h e)
