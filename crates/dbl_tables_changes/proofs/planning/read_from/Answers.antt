use Rattle.std.proofs.Common.{◌∙◌, ap}
use Rattle.std.proofs.lemmas.Result.{err_from_is_err_and}
use Rattle.dbl_tables_rows.specs.SourceLog.Texts.{key_from}
use Rattle.dbl_tables_rows.specs.Sending.{raw_of}
use Rattle.dbl_tables_changes.proofs.planning.read_from.Goals as goal

pub returns-in_err-texts-clause-reads : goal.returns-in_err-texts-clause-reads
returns-in_err-texts-clause-reads c has =
    let p = err_from_is_err_and c.from_residual.result c.from_residual.ensures.1 in
    rw (p.1, p.2) (c.in_err-texts.ensures.reads has)

pub returns-clause-reads : goal.returns-clause-reads
returns-clause-reads c has = c.in_ok-texts.ensures.reads has

pub returns-clause-key : goal.returns-clause-key
returns-clause-key c = c.in_ok-key_from.ensures ∙ ap (key_from (raw_of c.args.rows.now.table)) (c.as_slice.ensures.value ∙ c.in_ok-texts.ensures.key)
