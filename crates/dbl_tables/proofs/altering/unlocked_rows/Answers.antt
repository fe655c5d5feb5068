use Rattle.std.proofs.lemmas.Result.{err_from_is_err_and}
use Rattle.std.specs.Prelude.{option_copied}
use Rattle.dbl_tables.proofs.AlterLemmas.{unlocked_made, unlocked_refused, passed_on}
use Rattle.dbl_tables.proofs.altering.unlocked_rows.Goals as goal

pub returns-in_err-altered : goal.returns-in_err-altered
returns-in_err-altered c columns =
    let p = err_from_is_err_and c.from_residual.result c.from_residual.ensures.1 in
    rw (p.1, p.2) (passed_on c.args.session.now c.args.alteration.now c.args.oid c.args.rows.now c.in_err-altered.field-0.0 (c.in_err-altered.ensures columns))

pub returns-in-Ok : goal.returns-in-Ok
returns-in-Ok c columns =
    unlocked_made c.args.session.now c.args.alteration.now c.args.oid c.args.rows.now c.in_ok-altered.altered (c.in_ok-altered.ensures columns)
    (option_copied c.table_holder.result) c.in-Ok.field-0 c.table_holder.ensures c.in-Ok.ensures

pub returns-in-Err : goal.returns-in-Err
returns-in-Err c columns =
    unlocked_refused c.args.session.now c.args.alteration.now c.args.oid c.args.rows.now c.in_ok-altered.altered (c.in_ok-altered.ensures columns)
    (option_copied c.table_holder.result) c.in-Err.error c.table_holder.ensures c.in-Err.ensures
