use Rattle.std.proofs.lemmas.Result.{err_from_is_err_and}
use Rattle.dbl_tables_rows.specs.Sending.{raw_of}
use Rattle.dbl_tables_altered.proofs.ColumnLemmas.{unplaced, info_made}
use Rattle.dbl_tables_altered.proofs.columns.info_after.Goals as goal

pub returns-in_err-judge : goal.returns-in_err-judge
returns-in_err-judge c columns =
    let p = err_from_is_err_and c.from_residual.result c.from_residual.ensures.1 in
    rw (p.1, p.2) (unplaced c.args.alteration.now (raw_of c.args.rows.now.table) c.in_err-judge.field-0.0 (c.in_err-judge.ensures columns))

pub returns : goal.returns
returns c columns =
    info_made c.args.alteration.now c.args.rows.now.table.info c.in_ok-raw.raw c.made.result (c.in_ok-judge.ensures columns) c.in_ok-raw.ensures c.made.ensures
