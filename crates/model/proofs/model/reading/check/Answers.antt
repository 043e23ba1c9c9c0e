use Rattle.std.proofs.Common.{Some, None, Ok, Err, sym, ◌∙◌}
use Rattle.std.proofs.lemmas.Result.{err_from_is_err_and}
use Rattle.tables.specs.declared.check.CheckError.TheVariants.{Refused}
use Rattle.tables.specs.Layout.{content}
use Rattle.model.specs.Reading.{Checks}
use Rattle.model.proofs.Decides.{checked, unread, judge_bytes}
use Rattle.model.proofs.model.reading.check.Goals as goal

pub returns-in_err-tables : goal.returns-in_err-tables
returns-in_err-tables c =
    let bytes = c.args.bytes.now in
    let error = c.in_err-tables.field-0.0 in
    let p = err_from_is_err_and c.from_residual.result c.from_residual.ensures.1 in
    let told : Checks bytes (Err error) = unread bytes error c.in_err-tables.ensures.reads in
    rw (p.1, p.2) (record { checked = told; least = judge_bytes bytes (Err error) told })

pub returns-in-Some : goal.returns-in-Some
returns-in-Some c =
    let bytes = c.args.bytes.now in
    let told = checked bytes (content c.in_ok-tables.tables) (Some c.in-Some.fault) c.in_ok-tables.ensures.reads (sym c.in-Some.is ∙ c.in_ok-found.ensures.first) in
    record { checked = told; least = judge_bytes bytes (Err (Refused c.in-Some.fault)) told }

pub returns-in-None : goal.returns-in-None
returns-in-None c =
    let bytes = c.args.bytes.now in
    let read = c.in_ok-tables.ensures.reads in
    let told = checked bytes (content c.in_ok-tables.tables) None read (sym c.in-None.is ∙ c.in_ok-found.ensures.first) in
    record { checked = (told, read.1); least = judge_bytes bytes (Ok c.in_ok-tables.tables) (told, read.1) }
