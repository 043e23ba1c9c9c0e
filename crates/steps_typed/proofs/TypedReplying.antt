-- Replies keep types.
use Rattle.std.proofs.Common.{◌≡◌, ◌+◌, Bool, true, false, cond, List, Some, None, Err, Option, refl, sym, ap, ◌∙◌}
use Rattle.std.proofs.lemmas.Bool.{and_parts, false≢true}
use Rattle.std.proofs.lemmas.Option.{none-some}
use Rattle.tables.specs.declared.rows.MethodRow.{MethodRow}
use Rattle.tables.specs.Layout.{Content}
use Rattle.syntax.specs.declared.types.ValueType.{ValueType}
use Rattle.syntax.specs.declared.types.ValueType.TheVariants as type
use Rattle.syntax.specs.Rows.{given}
use Rattle.syntax.specs.Types.{type_at}
use Rattle.outside.specs.declared.value.PlainValue.{PlainValue}
use Rattle.outside.specs.declared.value.PlainValue.TheVariants as plain
use Rattle.outside.specs.declared.value.Reply.{Reply}
use Rattle.outside.specs.Values.{sort_of}
use Rattle.evaluation.specs.Typed.{Referents, Has}
use Rattle.evaluation.specs.Values.{Data}
use Rattle.steps.specs.declared.records.CallRecord.{CallRecord}
use Rattle.steps.specs.declared.refusal.Refusal.TheVariants as refusal
use Rattle.steps.specs.Rules as rule
use Rattle.steps.specs.Changes.{as_ended, with_call}
use Rattle.steps.specs.Configurations.{Configuration, call_at, result_type}
use Rattle.steps.specs.Crossing.{known_sort, result_sort, same_sort, sort_of_type, value_of_plain}
use Rattle.steps.specs.Outcomes.{Request, transition}
use Rattle.steps.specs.Sound.{referents}
use Rattle.steps.specs.States.{is_outside}
use Rattle.steps.specs.Steps.{expects, reply_step, reply_to}
use Rattle.steps_typed.proofs.Endings.{OutcomeTyped}
use Rattle.steps_typed.proofs.Keeping.{with_call_typed}
use Rattle.steps_typed.proofs.TypedReturning.{as_ended_typed, counters_typed}
use Rattle.steps_typed.proofs.Typings.{ConfigurationTyped}
use Rattle.syntax.specs.Types.{is_plain_type}

module _ (m : Content) where
  -- a plain value of the sort of a plain type
  plain_typed : (refs : Referents) (cells : List Data) (v : PlainValue) (u : ValueType) → is_plain_type u ≡ true → same_sort (sort_of_type u) (sort_of v) ≡ true →
      Has m refs cells (value_of_plain v) u
  plain_typed refs cells plain.Unit type.Unit p e = refl
  plain_typed refs cells (plain.Bool b) type.Bool p e = refl
  plain_typed refs cells (plain.Int z) type.Int p e = refl
  plain_typed refs cells plain.Unit type.Bool p e = absurd (false≢true e)
  plain_typed refs cells plain.Unit type.Int p e = absurd (false≢true e)
  plain_typed refs cells (plain.Bool b) type.Unit p e = absurd (false≢true e)
  plain_typed refs cells (plain.Bool b) type.Int p e = absurd (false≢true e)
  plain_typed refs cells (plain.Int z) type.Unit p e = absurd (false≢true e)
  plain_typed refs cells (plain.Int z) type.Bool p e = absurd (false≢true e)
  plain_typed refs cells v (type.Data d) p e = absurd (false≢true p)
  plain_typed refs cells v (type.Interface i) p e = absurd (false≢true p)
  plain_typed refs cells v (type.Future r) p e = absurd (false≢true p)

  module _ (c : Configuration) (h : ConfigurationTyped m c) (r : Reply) where
    reply_if_expected_typed : (x : CallRecord) → call_at c r.call ≡ Some x → (fits : Bool) → expects m x r.value ≡ fits →
        OutcomeTyped m (cond fits (transition (rule.reply c r.call x (value_of_plain r.value)) (Request.deliver r.call)) (Err refusal.StrangeReply))
    reply_if_expected_typed x there false e = tt
    reply_if_expected_typed x there true e =
        let p = and_parts (is_outside x.state) (same_sort (result_sort m x) (sort_of r.value)) e in
        let t = h.calls r.call x there in
        let q = t.plain p.0 in
        let row : result_type m x ≡ Some q.0 = ap (λ (o : Option MethodRow). given o (λ y. type_at m y.result)) t.called ∙ q.1 in
        let sort : result_sort m x ≡ sort_of_type q.0 = ap known_sort row in
        let has = plain_typed (referents m c) c.cells r.value q.0 q.2 (ap (λ (s : _). same_sort s (sort_of r.value)) (sym sort) ∙ p.1) in
        counters_typed m (with_call c r.call (as_ended x (value_of_plain r.value))) c.returned (c.answered + 1)
        (with_call_typed m c h r.call x (as_ended x (value_of_plain r.value)) there refl (as_ended_typed m x t (value_of_plain r.value) q.0 q.1 has)
        (λ k l. absurd (none-some k l)))

    reply_to_typed : (o : Option CallRecord) → call_at c r.call ≡ o → OutcomeTyped m (reply_to m c r o)
    reply_to_typed None e = tt
    reply_to_typed (Some x) e = reply_if_expected_typed x e (expects m x r.value) refl

  pub reply_step_typed : (c : Configuration) → ConfigurationTyped m c → (o : Option Reply) → OutcomeTyped m (reply_step m c o)
  reply_step_typed c h None = tt
  reply_step_typed c h (Some r) = reply_to_typed c h r (call_at c r.call) refl
