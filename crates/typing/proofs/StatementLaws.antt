-- Statements: what a kept rule says of the parts.
use Rattle.std.proofs.Common.{◌≡◌, ℕ, true, All, List, [], ◌∷◌, Some, None, Option, refl, arith}
use Rattle.std.proofs.lemmas.Bool.{and_from, and_parts, false≢true}
use Rattle.std.proofs.lemmas.List.Elements.{All-cons}
use Rattle.std.proofs.lemmas.List.Sums.{AllPass-from_list_all, list_all-from_AllPass}
use Rattle.tables.specs.declared.rows.ClassRow.{ClassRow}
use Rattle.tables.specs.declared.rows.MethodRow.{MethodRow}
use Rattle.tables.specs.Layout.{Content}
use Rattle.syntax.specs.declared.statements.Call.{Call}
use Rattle.syntax.specs.declared.statements.Creation.{Creation}
use Rattle.syntax.specs.declared.statements.Statement.{Statement}
use Rattle.syntax.specs.declared.statements.Statement.TheVariants as statement
use Rattle.syntax.specs.declared.types.ValueType.{ValueType}
use Rattle.syntax.specs.declared.types.ValueType.TheVariants as type
use Rattle.syntax.specs.Types.{agree}
use Rattle.syntax.proofs.Parts.{given_parts, passes_parts, agree_parts, agree_known, agreed, same_self}
use Rattle.typing.specs.declared.within.Within.TheVariants as within
use Rattle.typing.specs.Expressions.{type_in}
use Rattle.typing.specs.Scopes.{Bindings}
use Rattle.typing.specs.StatementLaws.{Takes, TakesObject, IsAwaitable, Here, IsCreated, IsCalled, InvertsStatement}
use Rattle.typing.specs.Statements.{takes, takes_object, all_awaitable, goes_on, type_here, new_rule, call_rule, statement_rule}
use Rattle.typing.proofs.ExpressionLaws.{arguments_parts, arguments_made}

none : (P : ℕ → Type 0) → All P []
none P k d lt = absurd (omega arith)

-- a target that takes what there is
taken : (s : Bindings) (target : Option ℕ) (of : Option ValueType) → takes s target of ≡ true → (t : ValueType) × (of ≡ Some t) × Takes s target t
taken s target None e = absurd (false≢true e)
taken s None (Some t) e = (t, refl, tt)
taken s (Some slot) (Some t) e = (t, refl, agree_known _ t e)

object_taken : (m : Content) (s : Bindings) (target : Option ℕ) (k : ClassRow) → takes_object m s target k ≡ true → TakesObject m s target k
object_taken m s None k e = tt
object_taken m s (Some slot) k e = passes_parts _ _ e

slots_awaitable : (s : Bindings) (slots : List ℕ) → all_awaitable s slots ≡ true → All (IsAwaitable s) slots
slots_awaitable s slots e k d lt = passes_parts _ _ (AllPass-from_list_all _ slots e k d lt)

-- and the other way
target_made : (s : Bindings) (target : Option ℕ) (of : Option ValueType) (t : ValueType) → of ≡ Some t → Takes s target t → takes s target of ≡ true
target_made s None of t e h = rw e refl
target_made s (Some slot) of t e h = rw (e, h) (same_self t)

object_made : (m : Content) (s : Bindings) (target : Option ℕ) (k : ClassRow) → TakesObject m s target k → takes_object m s target k ≡ true
object_made m s None k h = refl
object_made m s (Some slot) k h = rw h.1 h.2

awaitable_made : (s : Bindings) (slots : List ℕ) → All (IsAwaitable s) slots → all_awaitable s slots ≡ true
awaitable_made s slots all = list_all-from_AllPass _ slots (λ k d lt. let h = all k d lt in rw h.1 h.2)

module _ (m : Content) (c : ClassRow) (x : MethodRow) (s : Bindings) where
  created : (target : Option ℕ) (n : Creation) → new_rule m c s target n ≡ true → IsCreated m c x s target n
  created target n e =
      let p = passes_parts _ _ e in
      let q = and_parts _ _ p.2 in
      (p.0, p.1, arguments_parts m (within.Class c) (type_in m (within.Class c)) s (Here m c x s) (λ n t e. e) _ _ q.0, object_taken m s target p.0 q.1)

  called : (target : Option ℕ) (n : Call) → call_rule m c s target n ≡ true → IsCalled m c x s target n
  called target n e =
      let p = passes_parts _ _ e in
      let q = and_parts _ _ p.2 in
      let t = taken s target _ q.1 in
      (p.0, t.0, p.1, arguments_parts m (within.Class c) (type_in m (within.Class c)) s (Here m c x s) (λ n t e. e) _ _ q.0, t.1, t.2)

  -- a statement of the method
  abbrev Own : ℕ → Type 0
  Own r = goes_on x r ≡ true

  one : (next : ℕ) → Own next → All Own (next ∷ [])
  one next e = All-cons Own next [] e (none Own)

  pub inverts_statement : (y : Statement) → statement_rule m c s x y ≡ true → InvertsStatement m c x s y
  inverts_statement (statement.Skip next) e = record { kind = tt; within = one next e }
  inverts_statement (statement.Assign target value next) e =
      let p = and_parts _ _ e in
      record { kind = taken s target _ p.0; within = one next p.1 }
  inverts_statement (statement.Branch test next other) e =
      let p = and_parts _ _ e in
      let q = and_parts _ _ p.0 in
      record { kind = agree_known _ type.Bool q.0; within = All-cons Own next (other ∷ []) q.1 (one other p.1) }
  inverts_statement (statement.Suspend next) e = record { kind = tt; within = one next e }
  inverts_statement (statement.Await slots next) e =
      let p = and_parts _ _ e in
      record { kind = slots_awaitable s _ p.0; within = one next p.1 }
  inverts_statement (statement.Get target future next) e =
      let p = and_parts _ _ e in
      let t = taken s target _ p.0 in
      let f = given_parts _ _ t.0 t.1 in
      record { kind = (f.0, t.0, f.1, f.2, t.2); within = one next p.1 }
  inverts_statement (statement.New target creation next) e =
      let p = and_parts _ _ e in
      record { kind = created target creation p.0; within = one next p.1 }
  inverts_statement (statement.Call target call next) e =
      let p = and_parts _ _ e in
      record { kind = called target call p.0; within = one next p.1 }
  inverts_statement (statement.Return value) e = record { kind = agree_parts _ _ e; within = none Own }

  -- The other way: parts as a kind says make its rule kept.
  here_made : (n : ℕ) (t : ValueType) → Here m c x s n t → agree (type_here m c s n) (Some t) ≡ true
  here_made n t h = agreed (type_here m c s n) (Some t) t h refl

  created_made : (target : Option ℕ) (n : Creation) → IsCreated m c x s target n → new_rule m c s target n ≡ true
  created_made target n h =
      rw h.1 (and_from _ _ (arguments_made m (within.Class c) (type_in m (within.Class c)) s (Here m c x s) (λ n t e. e) _ _ h.2) (object_made m s target h.0 h.3))

  called_made : (target : Option ℕ) (n : Call) → IsCalled m c x s target n → call_rule m c s target n ≡ true
  called_made target n h =
      rw h.2 (and_from _ _ (arguments_made m (within.Class c) (type_in m (within.Class c)) s (Here m c x s) (λ n t e. e) _ _ h.3) (target_made s target _ h.1 h.4 h.5))

  goes : (next : ℕ) → All Own (next ∷ []) → Own next
  goes next all = all 0 next (omega arith)

  pub keeps_by : (y : Statement) → InvertsStatement m c x s y → statement_rule m c s x y ≡ true
  keeps_by (statement.Skip next) h = goes next h.within
  keeps_by (statement.Assign target value next) h = and_from _ _ (target_made s target _ h.kind.0 h.kind.1 h.kind.2) (goes next h.within)
  keeps_by (statement.Branch test next other) h =
      and_from _ _ (and_from _ _ (here_made test type.Bool h.kind) (h.within 0 next (omega arith))) (h.within 1 other (omega arith))
  keeps_by (statement.Suspend next) h = goes next h.within
  keeps_by (statement.Await slots next) h = and_from _ _ (awaitable_made s _ h.kind) (goes next h.within)
  keeps_by (statement.Get target future next) h =
      and_from _ _ (target_made s target _ h.kind.1 (rw h.kind.2 h.kind.3) h.kind.4) (goes next h.within)
  keeps_by (statement.New target creation next) h = and_from _ _ (created_made target creation h.kind) (goes next h.within)
  keeps_by (statement.Call target call next) h = and_from _ _ (called_made target call h.kind) (goes next h.within)
  keeps_by (statement.Return value) h = agreed _ _ h.kind.0 h.kind.1 h.kind.2
