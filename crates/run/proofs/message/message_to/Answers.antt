use Rattle.std.proofs.Common.{Some}
use Rattle.tables.specs.Layout.{content}
use Rattle.evaluation.specs.Rules.{all_of}
use Rattle.evaluation.specs.Plans.{done}
use Rattle.run.proofs.Sequences.{mapped, seq_err}
use Rattle.run.proofs.message.message_to.Goals as goal

pub returns-in-Ok : goal.returns-in-Ok
returns-in-Ok c = record { evaluates = mapped (content c.args.evaluator.now.t.now) c.args.evaluator.now.this (all_of c.args.rows.now c.args.work.now.bindings) (λ vs. Some (record { object = c.args.object; arguments = vs })) c.args.work.now c.evaluate_all.new.work _ c.in-Ok.ensures.evaluates }

pub returns-in-Err : goal.returns-in-Err
returns-in-Err c = record { evaluates = seq_err (content c.args.evaluator.now.t.now) c.args.evaluator.now.this (all_of c.args.rows.now c.args.work.now.bindings) (λ vs. done (Some (record { object = c.args.object; arguments = vs }))) c.args.work.now c.evaluate_all.new.work c.in-Err.refusal c.in-Err.ensures.evaluates }
