-- Who claims a thing first holds it: claims lead to the holders.
use Rattle.std.proofs.Common.{◌≡◌, ℕ, zero, suc, ◌+◌, ◌<◌, Bool, true, false, cond, ◌||◌, eqb, List, [], ◌∷◌, map, length, get_or, set, replicate, Some, None, Option, sym, refl, ap, ◌∙◌, arith}
use Rattle.std.proofs.lemmas.Grind.{common_steps}
use Rattle.std.proofs.lemmas.List.FromFn.{fill_by_all}
use Rattle.std.proofs.lemmas.List.{get_or-replicate, length-set, length-replicate}
use Rattle.std.proofs.lemmas.Bool.Decides.{nat_tests}
use Rattle.std.specs.List.{range_with_len}
use Rattle.tables.specs.declared.place.Place.{Place}
use Rattle.tables.specs.declared.place.Table.{Table}
use Rattle.tables.specs.declared.place.Table.TheVariants.{Functions, Classes, Methods, Nodes, Branches, Statements}
use Rattle.tables.specs.Layout.{Content}
use Rattle.rules.specs.Uses.{function_uses, node_uses, branch_uses, statement_uses}
use Rattle.tables.proofs.First.{none_after, or_else_assoc}
use Rattle.tables.specs.Least.{or_else}
use Rattle.placement.specs.Claims.{if_free, claim, claim_all, claim_range, claim_rows, claim_uses, claim_branches, claim_methods, claim_statements, claim_nodes}
use Rattle.placement.specs.Holders.{Holders, place, first_row, among, in_range, extent, reach, reaches, has_method, has_statement, node_users, branch_cases, method_classes, statement_methods}

-- in `next` the holders are those of `held`, and things that nobody held have the holders `new`
record Gains (held next : Holders) (new : ℕ → Option Place) : Type 0 where
  pub long : length next ≡ length held
  pub each : (k : ℕ) → k < length held → get_or next k None ≡ or_else (get_or held k None) (new k)

nothing : (held : Holders) → Gains held held (λ k. None)
nothing held = record { long = refl; each = λ k lt. sym (none_after (get_or held k None)) }

both : {held next last : Holders} {f g new : ℕ → Option Place} → Gains held next f → Gains next last g →
    ((k : ℕ) → or_else (f k) (g k) ≡ new k) → Gains held last new
both {held} {g = g} first second e = record {
  long = second.long ∙ first.long;
  each = λ k lt.
      let more = first.long in
      second.each k (omega arith) ∙ ap (λ (o : Option Place). or_else o (g k)) (first.each k lt)
      ∙ or_else_assoc (get_or held k None) _ (g k) ∙ ap (or_else (get_or held k None)) (e k);
}

-- what one place gains of a thing
abbrev gains : Bool → Place → Option Place
gains b by = cond b (Some by) None

either : (a b : Bool) (by : Place) → or_else (gains a by) (gains b by) ≡ gains (a || b) by
either true b by = refl
either false b by = refl

claimed_one : (by : Place) (h : Holders) (i : ℕ) → Gains h (claim by h i) (λ k. gains (eqb k i) by)
claimed_one by h i = go (get_or h i (Some by)) refl
  where
    go : (o : Option Place) → get_or h i (Some by) ≡ o → Gains h (if_free o (set h i (Some by)) h) (λ k. gains (eqb k i) by)
    go None e = record {
      long = length-set h i (Some by);
      each = λ k lt. grind (arith, common_steps, nat_tests, none_after);
    }
    go (Some p) e = record { long = refl; each = λ k lt. grind (arith, common_steps, nat_tests, none_after) }

claimed_all : (by : Place) (h : Holders) (is : List ℕ) → Gains h (claim_all by h is) (λ k. gains (among k is) by)
claimed_all by h [] = nothing h
claimed_all by h (i ∷ is) =
    both (claimed_one by h i) (claimed_all by (claim by h i) is) (λ k. either (eqb k i) (among k is) by)

range_none : (k first : ℕ) → in_range k first 0 ≡ false
range_none k first = grind (arith, nat_tests)

range_step : (k first count : ℕ) → (eqb k first || in_range k (first + 1) count) ≡ in_range k first (suc count)
range_step k first count = grind (arith, nat_tests)

claimed_range : (by : Place) (h : Holders) (first count : ℕ) → Gains h (claim_range by h first count) (λ k. gains (in_range k first count) by)
claimed_range by h first zero = both (nothing h) (nothing h) (λ k. rw (range_none k first) refl)
claimed_range by h first (suc count) =
    both (claimed_one by h first) (claimed_range by (claim by h first) (first + 1) count)
    (λ k. rw (← range_step k first count) (either (eqb k first) (in_range k (first + 1) count) by))

claimed_extent : (by : Place) (h : Holders) (first count n : ℕ) → length h ≡ n →
    Gains h (claim_range by h first (extent first count (length h))) (λ k. gains (in_range k first (extent first count n)) by)
claimed_extent by h first count n e = rw (← e) (claimed_range by h first (extent first count (length h)))

-- rows that claim what they name, of `n` things
module _ {A : Type 0} (table : Table) (n : ℕ) (names : ℕ → A → Bool) (claims : Holders → ℕ → A → Holders)
    (one : (h : Holders) (r : ℕ) (x : A) → length h ≡ n → Gains h (claims h r x) (λ k. gains (names k x) (place table r))) where
  first_step : (b : Bool) (p : Place) (rest : Option Place) → or_else (gains b p) rest ≡ cond b (Some p) rest
  first_step true p rest = refl
  first_step false p rest = refl

  claimed_rows : (h : Holders) (r : ℕ) (xs : List A) → length h ≡ n → Gains h (claim_rows claims h r xs) (λ k. first_row (names k) table r xs)
  claimed_rows h r [] e = nothing h
  claimed_rows h r (x ∷ xs) e =
      let first = one h r x e in
      both first (claimed_rows (claims h r x) (r + 1) xs (first.long ∙ e))
      (λ k. first_step (names k x) (place table r) (first_row (names k) table (r + 1) xs))

-- where nobody held anything before
all_hold : (n : ℕ) {next : Holders} {new : ℕ → Option Place} → Gains (replicate n None) next new → next ≡ map new (range_with_len 0 n)
all_hold n {next} {new} g =
    let count : length (replicate {A = Option Place} n None) ≡ n = length-replicate n None in
    fill_by_all new next n None (g.long ∙ count)
    (λ k lt. g.each k (omega arith) ∙ ap (λ (o : Option Place). or_else o (new k)) (get_or-replicate n k None None lt))

-- the users of nodes
claimed_uses : {A : Type 0} (table : Table) (uses : A → List ℕ) (h : Holders) (xs : List A) →
    Gains h (claim_rows (claim_uses table uses) h 0 xs) (λ k. first_row (λ x. among k (uses x)) table 0 xs)
claimed_uses table uses h xs =
    claimed_rows table (length h) (λ k x. among k (uses x)) (claim_uses table uses) (λ h r x e. claimed_all (place table r) h (uses x)) h 0 xs refl

pub users_hold : (m : Content) → claim_nodes m (replicate (length m.nodes) None) ≡ node_users m
unfolding node_users
users_hold m =
    all_hold _
    (both (claimed_uses Functions function_uses _ m.functions)
    (both (claimed_uses Nodes node_uses _ m.nodes)
    (both (claimed_uses Branches branch_uses _ m.branches) (claimed_uses Statements statement_uses _ m.statements) (λ k. refl))
    (λ k. refl))
    (λ k. refl))

-- the cases of branches, the classes of methods and the methods of statements
pub cases_hold : (m : Content) → claim_rows (claim_branches m.branches) (replicate (length m.branches) None) 0 m.nodes ≡ branch_cases m
unfolding branch_cases
cases_hold m =
    all_hold _
    (claimed_rows Nodes _ (reaches m.branches) (claim_branches m.branches)
    (λ h r x e. claimed_range (place Nodes r) h x.reference (reach m.branches x)) _ 0 m.nodes refl)

pub classes_hold : (m : Content) → claim_rows claim_methods (replicate (length m.methods) None) 0 m.classes ≡ method_classes m
unfolding method_classes
classes_hold m =
    let n : ℕ = length m.methods in
    all_hold _
    (claimed_rows Classes n (has_method n) claim_methods
    (λ h r x e. claimed_extent (place Classes r) h x.methods_first x.methods_count n e) _ 0 m.classes (length-replicate n None))

pub methods_hold : (m : Content) → claim_rows claim_statements (replicate (length m.statements) None) 0 m.methods ≡ statement_methods m
unfolding statement_methods
methods_hold m =
    let n : ℕ = length m.statements in
    all_hold _
    (claimed_rows Methods n (has_statement n) claim_statements
    (λ h r x e. claimed_extent (place Methods r) h x.statements_first x.statements_count n e) _ 0 m.methods (length-replicate n None))
