-- The verdict is the least broken place, over any rules that are listed in the order of their numbers.
use Rattle.std.proofs.Common.{◌≡◌, ℕ, ◌<◌, Bool, true, false, cond, Some, None, Option, sym, refl, subst, inl, inr, arith, lit≤}
use Rattle.std.proofs.lemmas.Bool.{cases_Bool}
use Rattle.tables.specs.declared.place.Fault.{Fault}
use Rattle.tables.specs.declared.place.Table.{Table}
use Rattle.tables.specs.declared.place.Table.TheVariants as table
use Rattle.tables.specs.Places.{table_number}
use Rattle.tables.specs.Least.{Case, fault, first_below, all_tables, in_row, in_table, under_rule, verdict_of, Broken, Before, Least, Judges}
use Rattle.tables.proofs.First.{In, Rising, some_none, in_none, none_in, first_in_lem, some_in, below_none, below_some, none_below, some_below}

tables_complete : (t : Table) → In t all_tables
tables_complete table.Header = inl refl
tables_complete table.Types = inr (inl refl)
tables_complete table.Lists = inr (inr (inl refl))
tables_complete table.Constructors = inr (inr (inr (inl refl)))
tables_complete table.Functions = inr (inr (inr (inr (inl refl))))
tables_complete table.Interfaces = inr (inr (inr (inr (inr (inl refl)))))
tables_complete table.Signatures = inr (inr (inr (inr (inr (inr (inl refl))))))
tables_complete table.Classes = inr (inr (inr (inr (inr (inr (inr (inl refl)))))))
tables_complete table.Methods = inr (inr (inr (inr (inr (inr (inr (inr (inl refl))))))))
tables_complete table.Nodes = inr (inr (inr (inr (inr (inr (inr (inr (inr (inl refl)))))))))
tables_complete table.Branches = inr (inr (inr (inr (inr (inr (inr (inr (inr (inr (inl refl))))))))))
tables_complete table.Statements = inr (inr (inr (inr (inr (inr (inr (inr (inr (inr (inr (inl refl)))))))))))

tables_rising : Rising table_number 0 all_tables
tables_rising = (lit≤ tt, (lit≤ tt, (lit≤ tt, (lit≤ tt, (lit≤ tt, (lit≤ tt, (lit≤ tt, (lit≤ tt, (lit≤ tt, (lit≤ tt, (lit≤ tt, (lit≤ tt, tt))))))))))))

told : {A : Type 0} (b : Bool) (x y : A) → cond b (Some x) None ≡ Some y → (b ≡ true) × (x ≡ y)
told true x y e = (refl, cc)
told false x y e = cc

quiet : {A : Type 0} (b : Bool) (x : A) → (b ≡ true → ⊥) → cond b (Some x) None ≡ None
quiet true x no_hit = absurd (no_hit refl)
quiet false x no_hit = refl

module _ {R : Type 0} (c : Case R) where
  clean_table : (x : R) (t : Table) (r : ℕ) → in_table c x t ≡ None → r < c.rows t → c.broken x t r ≡ true → ⊥
  clean_table x t r h lt e = some_none (fault x t r) (rw e at (none_below (in_row c x t) (c.rows t) h r lt))

  clean_rule : (x : R) (t : Table) (r : ℕ) → under_rule c x ≡ None → r < c.rows t → c.broken x t r ≡ true → ⊥
  clean_rule x t r h = clean_table x t r (in_none (in_table c x) all_tables h t (tables_complete t))

  none_table : (x : R) (t : Table) → ((r : ℕ) → r < c.rows t → c.broken x t r ≡ true → ⊥) → in_table c x t ≡ None
  none_table x t h = below_none (in_row c x t) (c.rows t) (λ r lt. quiet (c.broken x t r) (fault x t r) (h r lt))

  pub none_rule : (x : R) → ((t : Table) (r : ℕ) → r < c.rows t → c.broken x t r ≡ true → ⊥) → under_rule c x ≡ None
  none_rule x h = none_in (in_table c x) all_tables (λ t at. none_table x t (h t))

module _ {R : Type 0} (number : R → ℕ) (c : Case R) (complete : (x : R) → In x c.rules) (rising : Rising number 0 c.rules) where
  least_found : (f : Fault R) → Least number c f → verdict_of c ≡ Some f
  least_found f l =
      let x = f.rule in let t = f.table in let r = f.row in
      first_in_lem (under_rule c) number 0 c.rules rising x (complete x) f
      (first_in_lem (in_table c x) table_number 0 all_tables tables_rising t (tables_complete t) f
      (below_some (in_row c x t) (c.rows t) r f
      (below_none (in_row c x t) r (λ r' lt. quiet (c.broken x t r') (fault x t r') (λ e. l.first (fault x t r') (inr (refl, inr (refl, lt)))
      (record { row = omega (arith, l.broken.row); test = e }))))
      (rw l.broken.test)
      l.broken.row)
      (λ t' at lt. none_table c x t' (λ r' ltr e. l.first (fault x t' r') (inr (refl, inl lt)) (record { row = ltr; test = e }))))
      (λ x' at lt. none_rule c x' (λ t' r' ltr e. l.first (fault x' t' r') (inl lt) (record { row = ltr; test = e })))

  least_at : (x : R) (t : Table) (r : ℕ) → Broken c (fault x t r) →
      ((x' : R) → In x' c.rules → number x' < number x → under_rule c x' ≡ None) →
      ((t' : Table) → In t' all_tables → table_number t' < table_number t → in_table c x t' ≡ None) →
      first_below (in_row c x t) r ≡ None → Least number c (fault x t r)
  least_at x t r b hx ht hr = record { broken = b; first = lower }
    where
      lower : (g : Fault R) → Before number g (fault x t r) → Broken c g → ⊥
      lower g (inl lt) h = clean_rule c g.rule g.table g.row (hx g.rule (complete g.rule) lt) h.row h.test
      lower g (inr (e, inl lt)) h = clean_table c x g.table g.row (ht g.table (tables_complete g.table) lt) h.row (rw e at h.test)
      lower g (inr (e, inr (e', lt))) h =
          some_none (fault x t g.row) (rw (rw (e, e') at h.test) at (none_below (in_row c x t) r hr g.row lt))

  found_least : (f : Fault R) → verdict_of c ≡ Some f → Least number c f
  found_least f h =
      let px = some_in (under_rule c) number 0 c.rules rising f h in
      let pt = some_in (in_table c px.0) table_number 0 all_tables tables_rising f px.2 in
      let pr = some_below (in_row c px.0 pt.0) (c.rows pt.0) f pt.2 in
      let hit = told (c.broken px.0 pt.0 pr.0) (fault px.0 pt.0 pr.0) f pr.2 in
      let P : Fault R → Type 0 = λ x. Least number c x in
      subst P hit.1 (least_at px.0 pt.0 pr.0 (record { row = pr.1; test = hit.0 }) px.3 pt.3 pr.3)

  pub judged : Judges number c (verdict_of c)
  judged = record {
    least = found_least;
    found = least_found;
    clean = λ h f b. clean_rule c f.rule f.table f.row (in_none (under_rule c) c.rules h f.rule (complete f.rule)) b.row b.test;
    passes = λ h. none_in (under_rule c) c.rules (λ x at. none_rule c x (λ t r lt e. h (fault x t r) (record { row = lt; test = e })));
  }

  -- the law of a verdict that is known to be the definition's
  pub judges : (v : Option (Fault R)) → v ≡ verdict_of c → Judges number c v
  judges v e = let P : Option (Fault R) → Type 0 = λ x. Judges number c x in subst P (sym e) judged

  -- where there is no verdict, no place breaks a rule
  pub unbroken : verdict_of c ≡ None → (x : R) (t : Table) (r : ℕ) → r < c.rows t → c.broken x t r ≡ false
  unbroken h x t r lt = elim (cases_Bool (c.broken x t r)) [
    | inl hit ↦ absurd (judged.clean h (fault x t r) (record { row = lt; test = hit }))
    | inr miss ↦ miss
  ]
