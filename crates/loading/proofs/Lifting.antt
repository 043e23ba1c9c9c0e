-- Rules among other rules: what is judged under some rules is judged the same where more rules are.
use Rattle.std.proofs.Common.{◌≡◌, ℕ, zero, suc, Bool, true, false, cond, List, [], ◌∷◌, ◌++◌, map, Some, None, Option, sym, refl, ap, ◌∙◌}
use Rattle.tables.specs.declared.place.Fault.{Fault}
use Rattle.tables.specs.declared.place.Table.{Table}
use Rattle.tables.proofs.First.{or_else_assoc}
use Rattle.tables.specs.Least.{Case, fault, first_below, first_in, or_else, in_row, in_table, under_rule, all_tables}

pub first_append : {A B : Type 0} (f : A → Option B) (xs ys : List A) → first_in f (xs ++ ys) ≡ or_else (first_in f xs) (first_in f ys)
first_append f [] ys = refl
first_append f (x ∷ xs) ys = ap (λ (o : Option _). or_else (f x) o) (first_append f xs ys) ∙ sym (or_else_assoc (f x) (first_in f xs) (first_in f ys))

-- a fault under a rule's other name
abbrev pub lifted : {R K : Type 0} → (R → K) → Option (Fault R) → Option (Fault K)
lifted f None = None
lifted f (Some x) = Some (fault (f x.rule) x.table x.row)

lifted_or : {R K : Type 0} (f : R → K) (a b : Option (Fault R)) → lifted f (or_else a b) ≡ or_else (lifted f a) (lifted f b)
lifted_or f None b = refl
lifted_or f (Some x) b = refl

module _ {R K : Type 0} (f : R → K) (c : Case R) (d : Case K) (rows : (t : Table) → d.rows t ≡ c.rows t)
    (same : (rule : R) (t : Table) (r : ℕ) → d.broken (f rule) t r ≡ c.broken rule t r) where
  row_lifted : (rule : R) (t : Table) (r : ℕ) → in_row d (f rule) t r ≡ lifted f (in_row c rule t r)
  row_lifted rule t r = rw (same rule t r) (go (c.broken rule t r))
    where
      go : (b : Bool) → cond b (Some (fault (f rule) t r)) None ≡ lifted f (cond b (Some (fault rule t r)) None)
      go true = refl
      go false = refl

  below_lifted : (rule : R) (t : Table) (n : ℕ) → first_below (in_row d (f rule) t) n ≡ lifted f (first_below (in_row c rule t) n)
  below_lifted rule t zero = refl
  below_lifted rule t (suc n) = rw (below_lifted rule t n, row_lifted rule t n) (sym (lifted_or f (first_below (in_row c rule t) n) (in_row c rule t n)))

  table_lifted : (rule : R) (t : Table) → in_table d (f rule) t ≡ lifted f (in_table c rule t)
  table_lifted rule t = rw (rows t) (below_lifted rule t (c.rows t))

  first_lifted : {A : Type 0} (g : A → Option (Fault R)) (h : A → Option (Fault K)) → ((x : A) → h x ≡ lifted f (g x)) → (xs : List A) →
      first_in h xs ≡ lifted f (first_in g xs)
  first_lifted g h each [] = refl
  first_lifted g h each (x ∷ xs) = rw (each x, first_lifted g h each xs) (sym (lifted_or f (g x) (first_in g xs)))

  rule_lifted : (rule : R) → under_rule d (f rule) ≡ lifted f (under_rule c rule)
  rule_lifted rule = first_lifted (in_table c rule) (in_table d (f rule)) (table_lifted rule) all_tables

  -- the first fault under these rules
  pub rules_lifted : (rules : List R) → first_in (under_rule d) (map f rules) ≡ lifted f (first_in (under_rule c) rules)
  rules_lifted [] = refl
  rules_lifted (x ∷ xs) = rw (rule_lifted x, rules_lifted xs) (sym (lifted_or f (under_rule c x) (first_in (under_rule c) xs)))
