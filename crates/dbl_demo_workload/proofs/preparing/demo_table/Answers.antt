use Rattle.std.proofs.Common.{refl}
use Rattle.std.proofs.lemmas.Result.{err_from_is_err_and}
use Rattle.dbl_demo_workload.proofs.PrepareLemmas.{bad_table}
use Rattle.dbl_demo_workload.proofs.preparing.demo_table.Goals as goal

pub returns-in_err-info-clause-refused : goal.returns-in_err-info-clause-refused
returns-in_err-info-clause-refused c =
    let p = err_from_is_err_and c.from_residual.result c.from_residual.ensures.1 in
    rw p.1 (bad_table c.args.line.now c.in_err-info.field-0.0 p.0 c.in_err-info.ensures.fault p.2)

pub returns-clause-read : goal.returns-clause-read
returns-clause-read c = record { info = c.in_ok-info.ensures.ok; full = refl; toast = refl }
