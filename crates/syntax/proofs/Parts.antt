-- What is there under conditions, taken apart; and types that agree.
use Rattle.std.proofs.Common.{◌≡◌, ℕ, Bool, true, false, cond, ◌==◌, Some, None, Option, refl, ap, sym, ◌∙◌}
use Rattle.std.proofs.lemmas.Bool.{and_from, and_parts, eq-eqb, eqb-true, false≢true}
use Rattle.std.proofs.lemmas.Option.{none-some}
use Rattle.rules.specs.Words.{passes}
use Rattle.rules.proofs.Rows.{known}
use Rattle.syntax.specs.declared.types.ValueType.{ValueType}
use Rattle.syntax.specs.declared.types.ValueType.TheVariants as type
use Rattle.syntax.specs.Rows.{given, when}
use Rattle.syntax.specs.Types.{kind_number, named, same, agree}

pub given_parts : {A B : Type 0} (o : Option A) (f : A → Option B) (y : B) → given o f ≡ Some y → (x : A) × (o ≡ Some x) × (f x ≡ Some y)
given_parts None f y e = absurd (none-some y e)
given_parts (Some x) f y e = (x, refl, e)

pub when_parts : {A : Type 0} (b : Bool) (o : Option A) (y : A) → when b o ≡ Some y → (b ≡ true) × (o ≡ Some y)
when_parts true o y e = (refl, e)
when_parts false o y e = absurd (none-some y e)

pub filter_parts : {A : Type 0} (o : Option A) (p : A → Bool) (y : A) → given o (λ x. when (p x) (Some x)) ≡ Some y → (o ≡ Some y) × (p y ≡ true)
filter_parts o p y e =
    let q = given_parts o (λ x. when (p x) (Some x)) y e in
    let r = when_parts (p q.0) (Some q.0) y q.2 in
    let same : q.0 ≡ y = known r.1 in
    (rw same at q.1, rw same at r.0)

pub passes_parts : {A : Type 0} (o : Option A) (p : A → Bool) → passes o p ≡ true → (x : A) × (o ≡ Some x) × (p x ≡ true)
passes_parts None p e = absurd (false≢true e)
passes_parts (Some x) p e = (x, refl, e)

-- the type of a kind, by its number, that names this
type_by : ℕ → ℕ → ValueType
type_by k n = cond (k == 0) type.Unit (cond (k == 1) type.Bool (cond (k == 2) type.Int (cond (k == 3) (type.Data n) (cond (k == 4) (type.Interface n) (type.Future n)))))

by_number : (t : ValueType) → type_by (kind_number t) (named t) ≡ t
unfolding type_by
by_number type.Unit = refl
by_number type.Bool = refl
by_number type.Int = refl
by_number (type.Data d) = refl
by_number (type.Interface i) = refl
by_number (type.Future r) = refl

pub same_type : (a b : ValueType) → same a b ≡ true → a ≡ b
same_type a b e =
    let p = and_parts _ _ e in
    let kinds = eqb-true (kind_number a) (kind_number b) p.0 in
    let names = eqb-true (named a) (named b) p.1 in
    sym (by_number a) ∙ rw (kinds, names) (by_number b)

pub agree_parts : (a b : Option ValueType) → agree a b ≡ true → (t : ValueType) × (a ≡ Some t) × (b ≡ Some t)
agree_parts None b e = absurd (false≢true e)
agree_parts (Some a) None e = absurd (false≢true e)
agree_parts (Some a) (Some b) e = (a, refl, ap (λ (t : ValueType). Some t) (sym (same_type a b e)))

-- an expression of a known type
pub agree_known : (a : Option ValueType) (t : ValueType) → agree a (Some t) ≡ true → a ≡ Some t
agree_known a t e = let p = agree_parts a (Some t) e in p.1 ∙ sym p.2

pub same_self : (t : ValueType) → same t t ≡ true
same_self t = and_from _ _ (eq-eqb (kind_number t) (kind_number t) refl) (eq-eqb (named t) (named t) refl)

pub agreed : (a b : Option ValueType) (t : ValueType) → a ≡ Some t → b ≡ Some t → agree a b ≡ true
agreed a b t e e' = rw (e, e') (same_self t)
