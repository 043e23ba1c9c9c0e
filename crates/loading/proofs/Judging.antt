-- The verdicts of typing and of loading are the least faults.
use Rattle.std.proofs.Common.{◌≡◌, ℕ, true, List, [], ◌∷◌, map, Some, None, Ok, Err, Option, Result, sym, refl, ◌∙◌, inl, inr, lit≤}
use Rattle.tables.specs.declared.place.Fault.{Fault}
use Rattle.tables.specs.declared.place.TableRule.TheVariants as tables
use Rattle.tables.specs.declared.check.CheckError.{CheckError}
use Rattle.tables.specs.declared.check.CheckError.TheVariants as check
use Rattle.tables.specs.Layout.{Content, content_of}
use Rattle.tables.specs.Least.{or_else, under_rule, verdict_of, Judges}
use Rattle.tables.proofs.First.{In, Rising}
use Rattle.tables.proofs.Least.{judges}
use Rattle.model.specs.Rules.{all_rules, case_of, verdict_in}
use Rattle.typing.specs.declared.rule.TypingRule.{TypingRule}
use Rattle.typing.specs.declared.rule.TypingRule.TheVariants as typing
use Rattle.typing.specs.Typing.{typing_number, typing_case, typing_verdict}
use Rattle.loading.specs.declared.accepted.AcceptedModel.{AcceptedModel}
use Rattle.loading.specs.declared.load.LoadError.{LoadError}
use Rattle.loading.specs.declared.load.LoadError.TheVariants.{NoMemory, Refused}
use Rattle.loading.specs.declared.load.LoadFault.{LoadFault}
use Rattle.loading.specs.declared.load.LoadFault.TheVariants.{Reading, Typing}
use Rattle.loading.specs.Accepting.{ChecksTypes, JudgesTypes}
use Rattle.loading.specs.Loading.{ModelRule, of_tables, of_typing, model_number, model_rules, model_case, whole_fault, LoadRefuses, Loads, JudgesModel}
use Rattle.loading.specs.Types.{keeps_types}
use Rattle.loading.proofs.Lifting.{lifted, first_append, rules_lifted}

-- Typing.
pub typing_complete : (m : Content) (rule : TypingRule) → In rule (typing_case m).rules
typing_complete m typing.Function = inl refl
typing_complete m typing.Statement = inr (inl refl)

pub typing_rising : Rising typing_number 0 (typing.Function ∷ typing.Statement ∷ [])
typing_rising = (lit≤ tt, (lit≤ tt, tt))

pub typing_judged : (m : Content) (v : Option (Fault TypingRule)) → typing_verdict m ≡ v → Judges typing_number (typing_case m) v
unfolding typing_verdict
typing_judged m v e = judges typing_number (typing_case m) (typing_complete m) typing_rising v (sym e)

pub judge_types : (m : Content) (r : Result (Unit {0}) (CheckError TypingRule)) → ChecksTypes m r → JudgesTypes m r
judge_types m (Ok done) h = typing_judged m None h
judge_types m (Err (check.Refused f)) h = typing_judged m (Some f) h
judge_types m (Err check.NoMemory) h = tt

pub types_kept : (m : Content) → typing_verdict m ≡ None → keeps_types m ≡ true
unfolding keeps_types
types_kept m e = rw e

-- All rules together.
model_complete : (rule : ModelRule) → In rule model_rules
model_complete (of_tables tables.Length) = inl refl
model_complete (of_tables tables.Counts) = inr (inl refl)
model_complete (of_tables tables.Range) = inr (inr (inl refl))
model_complete (of_tables tables.Placement) = inr (inr (inr (inl refl)))
model_complete (of_tables tables.Shape) = inr (inr (inr (inr (inl refl))))
model_complete (of_tables tables.Method) = inr (inr (inr (inr (inr (inl refl)))))
model_complete (of_typing typing.Function) = inr (inr (inr (inr (inr (inr (inl refl))))))
model_complete (of_typing typing.Statement) = inr (inr (inr (inr (inr (inr (inr (inl refl)))))))

model_rising : Rising model_number 0 model_rules
model_rising = (lit≤ tt, (lit≤ tt, (lit≤ tt, (lit≤ tt, (lit≤ tt, (lit≤ tt, (lit≤ tt, (lit≤ tt, tt))))))))

-- the fault of the tables, else that of typing
verdict_splits : (bs : List ℕ) → verdict_of (model_case bs) ≡ or_else (lifted of_tables (verdict_in bs)) (lifted of_typing (typing_verdict (content_of bs)))
unfolding verdict_in typing_verdict
verdict_splits bs =
    let m = content_of bs in
    first_append (under_rule (model_case bs)) (map of_tables all_rules) (map of_typing (typing_case m).rules)
    ∙ rw (rules_lifted of_tables (case_of bs) (model_case bs) (λ t. refl) (λ rule t r. refl) all_rules, rules_lifted of_typing (typing_case m) (model_case bs) (λ t. refl) (λ rule t r. refl) (typing_case m).rules)

model_judged : (bs : List ℕ) (v : Option (Fault ModelRule)) → verdict_of (model_case bs) ≡ v → Judges model_number (model_case bs) v
model_judged bs v e = judges model_number (model_case bs) model_complete model_rising v (sym e)

module _ (bs : List ℕ) where
  pub judge_accepted : verdict_in bs ≡ None → typing_verdict (content_of bs) ≡ None → Judges model_number (model_case bs) None
  judge_accepted none none' = model_judged bs None (verdict_splits bs ∙ rw (none, none'))

  pub judge_refused : (f : LoadFault) → LoadRefuses bs f → Judges model_number (model_case bs) (Some (whole_fault f))
  judge_refused (Reading f) h = model_judged bs (Some (whole_fault (Reading f))) (verdict_splits bs ∙ rw h)
  judge_refused (Typing f) h = model_judged bs (Some (whole_fault (Typing f))) (verdict_splits bs ∙ rw (h.0, h.1))

pub judge_load : (bs : List ℕ) (r : Result AcceptedModel LoadError) → Loads bs r → JudgesModel bs r
judge_load bs (Ok a) h = judge_accepted bs h.0 h.1
judge_load bs (Err (Refused f)) h = judge_refused bs f h
judge_load bs (Err NoMemory) h = tt
