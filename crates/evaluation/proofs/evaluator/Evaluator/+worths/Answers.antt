use Rattle.std.proofs.Common.{◌≡◌, ℕ, suc, Bool, true, false, cond, ◌==◌, List, take, sym, subst, ◌+◌, ◌<◌, [], ◌∷◌, ◌++◌, length, get_or, drop, Some, None, Ok, Err, Option, Result, refl, ap, ◌∙◌, inl, inr, arith, length-append}
use Rattle.std.proofs.lemmas.Bool.{lt-ltb, eq-eqb, ne_eqb}
use Rattle.std.proofs.lemmas.List.{drop_more}
use Rattle.std.proofs.lemmas.Result.{err_from_is_err_and}
use Rattle.std.proofs.Math.ListN.{drop_of_length-le}
use Rattle.std.specs.List.{slice_get}
use Rattle.tables.specs.declared.kinds.NodeKind.{NodeKind}
use Rattle.tables.specs.declared.kinds.UnknownKind.{UnknownKind}
use Rattle.placement.specs.Holders.{run_length}
use Rattle.tables.specs.declared.rows.BranchRow.{BranchRow}
use Rattle.tables.specs.declared.rows.NodeRow.{NodeRow}
use Rattle.tables.specs.Kinds.{known, node_kind}
use Rattle.tables.specs.Layout.{Content, content}
use Rattle.syntax.specs.Nodes.{node_as, node_of}
use Rattle.typing.specs.Expressions.{branches_of}
use Rattle.evaluation.specs.declared.refusal.EvaluationRefusal.{EvaluationRefusal}
use Rattle.evaluation.specs.declared.refusal.EvaluationRefusal.TheVariants.{NoBranch}
use Rattle.evaluation.specs.declared.value.Value.{Value}
use Rattle.evaluation.specs.declared.value.Value.TheVariants as value
use Rattle.evaluation.specs.Carried.{Ran, Work, environment}
use Rattle.evaluation.specs.Evaluation.{State}
use Rattle.evaluation.specs.Plans.{Environment, node, ask}
use Rattle.evaluation.specs.Rules.{add, subtract, divide, less, equal, both_true, negated, right, built, called, chosen, known_rule, some_worth, gathered}
use Rattle.evaluation.specs.Values.{values_of}
use Rattle.typing.proofs.Room.{free_most}
use Rattle.evaluation.proofs.RowKinds.{known_kind, unknown_kind}
use Rattle.evaluation.proofs.Carrying.{ran_done, ran_refuse, ran_then, ran_stop, ran_unpaid, ran_paid, ran_here, ran_beside, ran_beside_refused, ran_called, bound_longer, ran_branch_refused, ran_branch_taken, ran_branch_passed, adds_refused, adds_none, adds_body}
use Rattle.evaluation.proofs.evaluator.Evaluator.+worths.Goals as goal

pub sum-returns-in_err-x : goal.sum-returns-in_err-x
sum-returns-in_err-x t c =
    let p = err_from_is_err_and c.from_residual.result c.from_residual.ensures.1 in
    rw (p.1, p.2) (record { ran = ran_stop _ _ add c.in_err-x.ensures.ran })

pub sum-returns : goal.sum-returns
sum-returns t c =
    rw (c.give.ensures.ok, c.give.ensures.given, c.added.ensures.value) (record { ran = ran_then _ _ add c.in_ok-x.ensures.ran (ran_done _ _ _ c.operands.new.work) })

pub difference-returns-in_err-x : goal.difference-returns-in_err-x
difference-returns-in_err-x t c =
    let p = err_from_is_err_and c.from_residual.result c.from_residual.ensures.1 in
    rw (p.1, p.2) (record { ran = ran_stop _ _ subtract c.in_err-x.ensures.ran })

pub difference-returns : goal.difference-returns
difference-returns t c =
    rw (c.give.ensures.ok, c.give.ensures.given, c.subtracted.ensures.value) (record { ran = ran_then _ _ subtract c.in_ok-x.ensures.ran (ran_done _ _ _ c.operands.new.work) })

pub comparison-returns-in_err-x : goal.comparison-returns-in_err-x
comparison-returns-in_err-x t c =
    let p = err_from_is_err_and c.from_residual.result c.from_residual.ensures.1 in
    rw (p.1, p.2) (record { ran = ran_stop _ _ less c.in_err-x.ensures.ran })

pub comparison-returns : goal.comparison-returns
comparison-returns t c =
    rw (c.give.ensures.ok, c.give.ensures.given, c.less.ensures.value) (record { ran = ran_then _ _ less c.in_ok-x.ensures.ran (ran_done _ _ _ c.operands.new.work) })

pub conjunction-returns-in_err-x : goal.conjunction-returns-in_err-x
conjunction-returns-in_err-x t c =
    let p = err_from_is_err_and c.from_residual.result c.from_residual.ensures.1 in
    rw (p.1, p.2) (record { ran = ran_stop _ _ both_true c.in_err-x.ensures.ran })

pub conjunction-returns : goal.conjunction-returns
conjunction-returns t c =
    rw (c.give.ensures.ok, c.give.ensures.given, c.both_true.ensures.value) (record { ran = ran_then _ _ both_true c.in_ok-x.ensures.ran (ran_done _ _ _ c.operands.new.work) })

pub quotient-returns-in_err-x : goal.quotient-returns-in_err-x
quotient-returns-in_err-x t c =
    let p = err_from_is_err_and c.from_residual.result c.from_residual.ensures.1 in
    rw (p.1, p.2) (record { ran = ran_stop _ _ divide c.in_err-x.ensures.ran })

pub quotient-returns-in_err-divided : goal.quotient-returns-in_err-divided
quotient-returns-in_err-divided t c =
    let p = err_from_is_err_and c.from_residual-in_err-divided.result c.from_residual-in_err-divided.ensures.1 in
    let given = c.in_err-divided.ensures.value in
    rw (p.1, p.2) (record { ran = ran_then _ _ divide c.in_ok-x.ensures.ran (rw (← given) (ran_refuse _ _ _ c.operands.new.work)) })

pub quotient-returns : goal.quotient-returns
quotient-returns t c =
    let given = c.in_ok-divided.ensures.value in
    rw (c.give.ensures.ok, c.give.ensures.given) (record { ran = ran_then _ _ divide c.in_ok-x.ensures.ran (rw (← given) (ran_done _ _ _ c.operands.new.work)) })

pub equality-returns-in_err-x : goal.equality-returns-in_err-x
equality-returns-in_err-x t c =
    let p = err_from_is_err_and c.from_residual.result c.from_residual.ensures.1 in
    rw (p.1, p.2) (record { ran = ran_stop _ _ equal c.in_err-x.ensures.ran })

pub equality-returns-in_err-same : goal.equality-returns-in_err-same
equality-returns-in_err-same t c =
    let p = err_from_is_err_and c.from_residual-in_err-same.result c.from_residual-in_err-same.ensures.1 in
    rw (p.1, p.2) (record { ran = ran_then _ _ equal c.in_ok-x.ensures.ran c.in_err-same.ensures.ran })

pub equality-returns : goal.equality-returns
equality-returns t c = rw (c.give.ensures.ok, c.give.ensures.given) (record { ran = ran_then _ _ equal c.in_ok-x.ensures.ran c.in_ok-same.ensures.ran })

pub negation-returns-in_err-worth : goal.negation-returns-in_err-worth
negation-returns-in_err-worth t c =
    let p = err_from_is_err_and c.from_residual.result c.from_residual.ensures.1 in
    rw (p.1, p.2) (record { ran = ran_stop _ _ negated c.in_err-worth.ensures.ran })

pub negation-returns : goal.negation-returns
negation-returns t c =
    rw (c.give.ensures.ok, c.give.ensures.given, c.negated.ensures.value) (record { ran = ran_then _ _ negated c.in_ok-worth.ensures.ran (ran_done _ _ _ c.worth.new.work) })

pub operands-returns-in_err-worth : goal.operands-returns-in_err-worth
operands-returns-in_err-worth t c =
    let p = err_from_is_err_and c.from_residual.result c.from_residual.ensures.1 in
    rw (p.1, p.2) (record { ran = ran_stop _ _ (right c.args.b (environment c.args.base c.args.work.now)) c.in_err-worth.ensures.ran })

pub operands-returns-in_err-worth-2 : goal.operands-returns-in_err-worth-2
operands-returns-in_err-worth-2 t c =
    let p = err_from_is_err_and c.from_residual-in_err-worth-2.result c.from_residual-in_err-worth-2.ensures.1 in
    rw (p.1, p.2) (record { ran = ran_beside_refused _ _ c.args.base c.in_ok-worth.ensures.ran c.in_err-worth-2.ensures.ran })

pub operands-returns : goal.operands-returns
operands-returns t c = record { ran = ran_beside _ _ c.args.base c.in_ok-worth.ensures.ran c.in_ok-worth-2.ensures.ran }

module _ (m : Content) (this : ℕ) (s : Environment) (row : NodeRow) {r : Result Value EvaluationRefusal} {w w' : Work} where
  -- what a row comes to, by its kind
  by_kind : {kind k : NodeKind} → Ok kind ≡ known row.kind (node_kind row.kind) → kind ≡ k → Ran m this (known_rule m this s (node_as row (Some k))) w r w' →
      Ran m this (known_rule m this s (node_of row)) w r w'
  by_kind e is h =
      let P : Option NodeKind → Type 0 = λ k. Ran m this (known_rule m this s (node_as row k)) w r w' in
      subst P (sym (known_kind row.kind (node_kind row.kind) e ∙ ap (λ (x : NodeKind). Some x) is)) h

  by_none : {e : UnknownKind} → Err e ≡ known row.kind (node_kind row.kind) → Ran m this (known_rule m this s None) w r w' → Ran m this (known_rule m this s (node_of row)) w r w'
  by_none e h =
      let P : Option NodeKind → Type 0 = λ k. Ran m this (known_rule m this s (node_as row k)) w r w' in
      subst P (sym (unknown_kind row.kind (node_kind row.kind) e)) h

pub node_worth-returns-in_default : goal.node_worth-returns-in_default
node_worth-returns-in_default t c =
    rw (c.give.ensures.ok, c.give.ensures.given) (record { ran = by_none _ _ _ c.args.row.now c.in_default.ensures (ran_done _ _ value.Unit c.args.work.now) })

-- the kinds of nodes
pub node_worth-returns-in-Unit : goal.node_worth-returns-in-Unit
node_worth-returns-in-Unit t c =
    let said = c.in-Ok.ensures in
    let came = ran_done (content c.args.self.now.t.now) c.args.self.now.this value.Unit c.args.work.now in
    rw (c.give-in-Unit.ensures.ok, c.give-in-Unit.ensures.given) (record {
      ran = elim c.in-Unit.is [
        | inl is ↦ by_kind _ _ _ c.args.row.now said is came
        | inr other ↦ elim other [ inl is ↦ by_kind _ _ _ c.args.row.now said is came | inr is ↦ by_kind _ _ _ c.args.row.now said is came ]
      ];
    })

pub node_worth-returns-in-False : goal.node_worth-returns-in-False
node_worth-returns-in-False t c =
    rw (c.give-in-False.ensures.ok, c.give-in-False.ensures.given) (record { ran = by_kind _ _ _ c.args.row.now c.in-Ok.ensures c.in-False.is (ran_done _ _ _ c.args.work.now) })

pub node_worth-returns-in-True : goal.node_worth-returns-in-True
node_worth-returns-in-True t c =
    rw (c.give-in-True.ensures.ok, c.give-in-True.ensures.given) (record { ran = by_kind _ _ _ c.args.row.now c.in-Ok.ensures c.in-True.is (ran_done _ _ _ c.args.work.now) })

pub node_worth-returns-in-Int : goal.node_worth-returns-in-Int
node_worth-returns-in-Int t c =
    rw (c.give-in-Int.ensures.ok, c.give-in-Int.ensures.given, c.literal.ensures.literal) (record { ran = by_kind _ _ _ c.args.row.now c.in-Ok.ensures c.in-Int.is (ran_done _ _ _ c.args.work.now) })

pub node_worth-returns-in-Null : goal.node_worth-returns-in-Null
node_worth-returns-in-Null t c =
    rw (c.give-in-Null.ensures.ok, c.give-in-Null.ensures.given) (record { ran = by_kind _ _ _ c.args.row.now c.in-Ok.ensures c.in-Null.is (ran_done _ _ _ c.args.work.now) })

pub node_worth-returns-in-This : goal.node_worth-returns-in-This
node_worth-returns-in-This t c =
    rw (c.give-in-This.ensures.ok, c.give-in-This.ensures.given) (record { ran = by_kind _ _ _ c.args.row.now c.in-Ok.ensures c.in-This.is (ran_done _ _ _ c.args.work.now) })

pub node_worth-returns-in-Slot : goal.node_worth-returns-in-Slot
node_worth-returns-in-Slot t c =
    rw (c.slot_worth.ensures.ok, c.slot_worth.ensures.given) (record { ran = by_kind _ _ _ c.args.row.now c.in-Ok.ensures c.in-Slot.is (ran_done _ _ _ c.args.work.now) })

pub node_worth-returns-in-Constructor : goal.node_worth-returns-in-Constructor
node_worth-returns-in-Constructor t c = record { ran = by_kind _ _ _ c.args.row.now c.in-Ok.ensures c.in-Constructor.is c.data.ensures.ran }

pub node_worth-returns-in-Function : goal.node_worth-returns-in-Function
node_worth-returns-in-Function t c = record { ran = by_kind _ _ _ c.args.row.now c.in-Ok.ensures c.in-Function.is c.call.ensures.ran }

pub node_worth-returns-in-Case : goal.node_worth-returns-in-Case
node_worth-returns-in-Case t c = record { ran = by_kind _ _ _ c.args.row.now c.in-Ok.ensures c.in-Case.is c.case.ensures.ran }

pub node_worth-returns-in-Add : goal.node_worth-returns-in-Add
node_worth-returns-in-Add t c = record { ran = by_kind _ _ _ c.args.row.now c.in-Ok.ensures c.in-Add.is c.sum.ensures.ran }

pub node_worth-returns-in-Subtract : goal.node_worth-returns-in-Subtract
node_worth-returns-in-Subtract t c = record { ran = by_kind _ _ _ c.args.row.now c.in-Ok.ensures c.in-Subtract.is c.difference.ensures.ran }

pub node_worth-returns-in-Divide : goal.node_worth-returns-in-Divide
node_worth-returns-in-Divide t c = record { ran = by_kind _ _ _ c.args.row.now c.in-Ok.ensures c.in-Divide.is c.quotient.ensures.ran }

pub node_worth-returns-in-Less : goal.node_worth-returns-in-Less
node_worth-returns-in-Less t c = record { ran = by_kind _ _ _ c.args.row.now c.in-Ok.ensures c.in-Less.is c.comparison.ensures.ran }

pub node_worth-returns-in-Equal : goal.node_worth-returns-in-Equal
node_worth-returns-in-Equal t c = record { ran = by_kind _ _ _ c.args.row.now c.in-Ok.ensures c.in-Equal.is c.equality.ensures.ran }

pub node_worth-returns-in-Not : goal.node_worth-returns-in-Not
node_worth-returns-in-Not t c = record { ran = by_kind _ _ _ c.args.row.now c.in-Ok.ensures c.in-Not.is c.negation.ensures.ran }

pub node_worth-returns-in-And : goal.node_worth-returns-in-And
node_worth-returns-in-And t c = record { ran = by_kind _ _ _ c.args.row.now c.in-Ok.ensures c.in-And.is c.conjunction.ensures.ran }

pub worth-returns-in_err-spend-clause-ran : goal.worth-returns-in_err-spend-clause-ran
worth-returns-in_err-spend-clause-ran t c =
    let p = err_from_is_err_and c.from_residual.result c.from_residual.ensures.1 in
    rw (p.1, p.2) (ran_unpaid _ _ (node c.args.row (environment c.args.base c.args.work.now)) c.spend.ensures.pays c.in_err-spend.was)

pub worth-returns-in_default-clause-ran : goal.worth-returns-in_default-clause-ran
worth-returns-in_default-clause-ran t c =
    rw (c.give.ensures.ok, c.give.ensures.given) (ran_paid _ _ (node c.args.row (environment c.args.base c.args.work.now)) c.spend.ensures.pays c.in_ok-spend.was
    (rw (← c.in_default.ensures.found) (ran_done _ _ value.Unit c.spend.new.self)))

pub worth-returns-clause-ran : goal.worth-returns-clause-ran
worth-returns-clause-ran t c =
    let m = content c.args.self.now.t.now in
    ran_paid _ _ (node c.args.row (environment c.args.base c.args.work.now)) c.spend.ensures.pays c.in_ok-spend.was
    (rw (← c.in-Some.ensures.found)
    (ran_here _ _ c.args.base (λ s. known_rule m c.args.self.now.this s (node_of c.in-Some.row.now)) c.args.work.now c.spend.ensures.pays.same c.node_worth.ensures.ran))

pub data-returns-in_err-worths : goal.data-returns-in_err-worths
data-returns-in_err-worths t c =
    let p = err_from_is_err_and c.from_residual.result c.from_residual.ensures.1 in
    let h = c.in_err-worths.ensures.ran in
    rw (p.1, p.2) (record { ran = ran_stop _ _ (built c.args.row.now.reference) (rw (c.as_slice.ensures.parts, c.children_of.ensures.children, c.new-parts.ensures.none) at h) })

pub data-returns-in_err-built : goal.data-returns-in_err-built
data-returns-in_err-built t c =
    let p = err_from_is_err_and c.from_residual-in_err-built.result c.from_residual-in_err-built.ensures.1 in
    let h = c.in_ok-worths.ensures.ran in
    rw (p.1, p.2) (record {
      ran = ran_then _ _ (built c.args.row.now.reference) (rw (c.as_slice.ensures.parts, c.children_of.ensures.children, c.new-parts.ensures.none) at h) c.in_err-built.ensures.ran;
    })

pub data-returns : goal.data-returns
data-returns t c =
    let h = c.in_ok-worths.ensures.ran in
    rw (c.give.ensures.ok, c.give.ensures.given) (record {
      ran = ran_then _ _ (built c.args.row.now.reference) (rw (c.as_slice.ensures.parts, c.children_of.ensures.children, c.new-parts.ensures.none) at h) c.in_ok-built.ensures.ran;
    })

pub call-returns-in_err-worths : goal.call-returns-in_err-worths
call-returns-in_err-worths t c =
    let p = err_from_is_err_and c.from_residual.result c.from_residual.ensures.1 in
    let h = c.in_err-worths.ensures.ran in
    rw (p.1, p.2) (record {
      ran = ran_stop _ _ (called (slice_get (content c.args.self.now.t.now).functions c.args.row.now.reference))
          (rw (c.as_slice.ensures.parts, c.children_of.ensures.children, c.new-arguments.ensures.none) at h);
    })

pub call-returns-in-Some : goal.call-returns-in-Some
call-returns-in-Some t c =
    let h = c.in_ok-worths.ensures.ran in
    let k = c.called.ensures.ran in
    record {
      ran = ran_then _ _ (called (slice_get (content c.args.self.now.t.now).functions c.args.row.now.reference))
          (rw (c.as_slice.ensures.parts, c.children_of.ensures.children, c.new-arguments.ensures.none) at h)
          (rw (← c.in-Some.ensures.found) (rw c.as_slice-in-Some.ensures.values at k));
    }

pub call-returns-in-None : goal.call-returns-in-None
call-returns-in-None t c =
    let h = c.in_ok-worths.ensures.ran in
    rw (c.give.ensures.ok, c.give.ensures.given) (record {
      ran = ran_then _ _ (called (slice_get (content c.args.self.now.t.now).functions c.args.row.now.reference))
          (rw (c.as_slice.ensures.parts, c.children_of.ensures.children, c.new-arguments.ensures.none) at h)
          (rw (← c.in-None.ensures.found) (ran_done _ _ value.Unit c.worths.new.work));
    })

pub called-returns : goal.called-returns
called-returns t c =
    let own = c.length-earlier.ensures.length in
    let h = c.worth-ran.ensures.ran in
    let cut = c.cut.ensures.oldest in
    record {
      ran = ran_called _ _ c.args.function.body c.args.arguments.now c.bind_all.ensures.bound c.bind_all.ensures.state c.bind_all.ensures.capacity
          (rw own at h) (rw own at cut) c.cut.ensures.state c.cut.ensures.capacity;
    }

pub case-returns-in_err-worth : goal.case-returns-in_err-worth
case-returns-in_err-worth t c =
    let p = err_from_is_err_and c.from_residual.result c.from_residual.ensures.1 in
    let m = content c.args.self.now.t.now in
    rw (p.1, p.2) (record {
      ran = ran_stop _ _ (λ v. chosen m c.args.self.now.this (environment c.args.base c.args.work.now) v (branches_of m c.args.first)) c.in_err-worth.ensures.ran;
    })

pub case-returns : goal.case-returns
case-returns t c =
    let m = content c.args.self.now.t.now in
    let k = c.chosen.ensures.ran in
    record {
      ran = ran_then _ _ (λ v. chosen m c.args.self.now.this (environment c.args.base c.args.work.now) v (branches_of m c.args.first)) c.in_ok-worth.ensures.ran
          (ran_here _ _ c.args.base (λ s. chosen m c.args.self.now.this s c.worth.new.worth (branches_of m c.args.first)) c.args.work.now c.in_ok-worth.ensures.ran.same
          (rw c.branches_from.ensures.branches at k));
    }

-- the nodes that are left: the next one and those behind it
pub worths-returns-in_err-worth : goal.worths-returns-in_err-worth
worths-returns-in_err-worth t c =
    let p = err_from_is_err_and c.from_residual.result c.from_residual.ensures.1 in
    let i = c.loop-row.invariant in
    let s = environment c.args.base c.args.work.now in
    let rows = c.args.rows.now in
    let n = c.loop-row.row-index in
    let h = ran_here _ _ c.args.base (ask (get_or rows n 0)) c.args.work.now i.same c.in_err-worth.ensures.ran in
    rw (p.1, p.2) (record {
      ran = i.rest _ c.worth.new.work
          (rw (drop_more rows n 0 c.loop-row-test.true) (ran_stop _ _ (λ v. gathered (values_of c.loop-row.worths ++ v ∷ []) (drop (n + 1) rows) s) h));
    })

pub worths-loop-row-preserved : goal.worths-loop-row-preserved
worths-loop-row-preserved t c =
    let i = c.loop-row.invariant in
    let s = environment c.args.base c.args.work.now in
    let rows = c.args.rows.now in
    let n = c.loop-row.row-index in
    let h = ran_here _ _ c.args.base (ask (get_or rows n 0)) c.args.work.now i.same c.in_ok-worth.ensures.ran in
    let low = i.falls in
    let lower = h.falls in
    let few = i.few in
    let room : length (values_of c.loop-row.worths) < 4 = omega (arith, c.requires.few, c.loop-row-test.true) in
    let more : values_of c.push.new.self ≡ values_of c.loop-row.worths ++ c.worth.new.worth ∷ [] = c.push.ensures.more ∙ rw (lt-ltb _ 4 room) refl in
    record {
      rest = λ r after k. i.rest r after
          (rw (drop_more rows n 0 c.loop-row-test.true)
          (ran_then _ _ (λ v. gathered (values_of c.loop-row.worths ++ v ∷ []) (drop (n + 1) rows) s) h (rw more at k)));
      same = h.same ∙ i.same;
      falls = omega arith;
      few = ap length more ∙ simp length-append (omega arith);
    }

pub worths-returns : goal.worths-returns
worths-returns t c =
    let i = c.loop-row.invariant in
    let none : drop c.loop-row.row-index c.args.rows.now ≡ [] = drop_of_length-le c.args.rows.now (omega arith) in
    record { ran = i.rest (Ok (values_of c.loop-row.worths)) c.loop-row.work (rw none (ran_done _ _ (values_of c.loop-row.worths) c.loop-row.work)) }

-- the branches of a case: the next one, and those behind it
none_there : BranchRow
none_there = record { pattern = 0; body = 0; more = 0 }

abbrev run : List BranchRow → List BranchRow
run bs = take (run_length bs) bs

behind : (b : BranchRow) (bs : List BranchRow) → run (b ∷ bs) ≡ b ∷ cond (b.more == 1) (run bs) []
behind b bs =
    let P : Bool → Type 0 = λ x. take (cond x (suc (run_length bs)) 1) (b ∷ bs) ≡ b ∷ cond x (run bs) [] in
    elim (b.more == 1) as P [ true ↦ refl | false ↦ refl ]

next_one : (bs : List BranchRow) (i : ℕ) → i < length bs →
    run (drop i bs) ≡ get_or bs i none_there ∷ cond ((get_or bs i none_there).more == 1) (run (drop (i + 1) bs)) []
next_one bs i lt = ap run (drop_more bs i none_there lt) ∙ behind (get_or bs i none_there) (drop (i + 1) bs)

-- the branches that are left
pub chosen-returns-in_err-branch_worth : goal.chosen-returns-in_err-branch_worth
unfolding none_there
chosen-returns-in_err-branch_worth t c =
    let p = err_from_is_err_and c.from_residual.result c.from_residual.ensures.1 in
    let i = c.loop-branch.invariant in
    let bs = c.args.branches.now in
    let n = c.loop-branch.branch-index in
    let b = get_or bs n none_there in
    let rest = cond (b.more == 1) (run (drop (n + 1) bs)) [] in
    rw (p.1, p.2) (record {
      ran = i.rest _ c.branch_worth.new.work (rw (next_one bs n c.loop-branch-test.true)
          (ran_branch_refused _ _ c.args.base c.args.work.now (b ∷ rest) 0 none_there c.args.value.now c.loop-branch.work c.branch_worth.new.work (omega arith) i.same c.in_err-branch_worth.ensures.ran));
    })

pub chosen-returns-then-branch : goal.chosen-returns-then-branch
unfolding none_there
chosen-returns-then-branch t c =
    let i = c.loop-branch.invariant in
    let h = c.in_ok-branch_worth.ensures.ran in
    let bs = c.args.branches.now in
    let n = c.loop-branch.branch-index in
    let b = get_or bs n none_there in
    let rest = cond (b.more == 1) (run (drop (n + 1) bs)) [] in
    record {
      ran = i.rest _ c.branch_worth.new.work (rw (next_one bs n c.loop-branch-test.true)
          (ran_branch_taken _ _ c.args.base c.args.work.now (b ∷ rest) 0 none_there c.args.value.now c.loop-branch.work c.branch_worth.new.work (omega arith) i.same (rw c.if-branch.true at h)));
    }

pub chosen-returns-then-branch-ne1 : goal.chosen-returns-then-branch-ne1
unfolding none_there
chosen-returns-then-branch-ne1 t c =
    let i = c.loop-branch.invariant in
    let h = c.in_ok-branch_worth.ensures.ran in
    let bs = c.args.branches.now in
    let n = c.loop-branch.branch-index in
    let b = get_or bs n none_there in
    record {
      ran = i.rest _ c.branch_worth.new.work (rw (next_one bs n c.loop-branch-test.true, ne_eqb b.more 1 c.if-branch-ne1.true)
          (ran_branch_passed _ _ c.args.base c.args.work.now (b ∷ []) 0 none_there c.args.value.now c.loop-branch.work c.branch_worth.new.work (omega arith) i.same (rw c.if-branch.false at h)
          (ran_refuse _ _ NoBranch c.branch_worth.new.work)));
    }

pub chosen-loop-branch-preserved : goal.chosen-loop-branch-preserved
unfolding none_there
chosen-loop-branch-preserved t c =
    let i = c.loop-branch.invariant in
    let h = c.in_ok-branch_worth.ensures.ran in
    let low = i.falls in
    let lower = h.falls in
    let bs = c.args.branches.now in
    let n = c.loop-branch.branch-index in
    let b = get_or bs n none_there in
    record {
      rest = λ r after k. i.rest r after (rw (next_one bs n c.loop-branch-test.true, eq-eqb b.more 1 c.if-branch-ne1.false)
          (ran_branch_passed _ _ c.args.base c.args.work.now (b ∷ run (drop (n + 1) bs)) 0 none_there c.args.value.now c.loop-branch.work c.branch_worth.new.work (omega arith) i.same (rw c.if-branch.false at h) k));
      same = h.same ∙ i.same;
      room = h.room ∙ i.room;
      falls = omega arith;
    }

pub chosen-returns : goal.chosen-returns
chosen-returns t c =
    let i = c.loop-branch.invariant in
    let none : drop c.loop-branch.branch-index c.args.branches.now ≡ [] = drop_of_length-le c.args.branches.now (omega arith) in
    record { ran = i.rest (Err NoBranch) c.loop-branch.work (rw none (ran_refuse _ _ NoBranch c.loop-branch.work)) }

pub taken-fits-requires-clause-room : goal.taken-fits-requires-clause-room
taken-fits-requires-clause-room t c =
    let slack = c.requires.slack in
    let most = free_most 8 (environment c.args.base c.args.work.now) in
    omega arith

pub taken-returns-in_err-fits : goal.taken-returns-in_err-fits
taken-returns-in_err-fits t c =
    let p = err_from_is_err_and c.from_residual.result c.from_residual.ensures.1 in
    rw (p.1, p.2) (record { adds = adds_refused _ _ c.args.branch c.args.base c.in_err-fits.ensures.tried })

pub taken-returns-then-not-branch : goal.taken-returns-then-not-branch
taken-returns-then-not-branch t c =
    let h = c.in_ok-fits.ensures.tried in
    record { adds = adds_none _ _ c.args.branch c.args.base (rw c.if-not-branch.true at h) }

pub taken-returns-in_err-worth : goal.taken-returns-in_err-worth
taken-returns-in_err-worth t c =
    let p = err_from_is_err_and c.from_residual-in_err-worth.result c.from_residual-in_err-worth.ensures.1 in
    let h = c.in_ok-fits.ensures.tried in
    rw (p.1, p.2) (record {
      adds = adds_body _ _ c.args.branch c.args.base (rw c.if-not-branch.false at h)
          (ran_stop _ _ (some_worth (content c.args.self.now.t.now) c.args.self.now.this) c.in_err-worth.ensures.ran);
    })

pub taken-returns : goal.taken-returns
taken-returns t c =
    let h = c.in_ok-fits.ensures.tried in
    record {
      adds = adds_body _ _ c.args.branch c.args.base (rw c.if-not-branch.false at h)
          (ran_then _ _ (some_worth (content c.args.self.now.t.now) c.args.self.now.this) c.in_ok-worth.ensures.ran (ran_done _ _ (Some c.worth.new.worth) c.worth.new.work));
    }

pub called-worth-ran-requires : goal.called-worth-ran-requires
called-worth-ran-requires t c =
    let own = c.length-earlier.ensures.length in
    let longer = bound_longer 0 c.args.arguments.now c.args.work.now.bindings in
    let left = ap (λ (s : State). s.left) c.bind_all.ensures.state in
    (omega arith, rw (own, c.bind_all.ensures.bound) longer)
