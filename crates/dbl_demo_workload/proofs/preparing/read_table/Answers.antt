use Rattle.std.proofs.lemmas.Result.{err_from_is_err_and}
use Rattle.dbl_demo_workload.proofs.PrepareLemmas.{one_read}
use Rattle.dbl_demo_workload.proofs.preparing.read_table.Goals as goal

pub returns-in_err-demo_table-clause-refused : goal.returns-in_err-demo_table-clause-refused
returns-in_err-demo_table-clause-refused c =
    let p = err_from_is_err_and c.from_residual-in_err-demo_table.result c.from_residual-in_err-demo_table.ensures.1 in
    rw (p.1, p.2) c.in_err-demo_table.ensures.refused

pub returns-clause-read : goal.returns-clause-read
returns-clause-read c lines so =
    rw (c.in_ok-push.ensures.items, c.in_ok-push-2.ensures.items, c.in_ok-push-3.ensures.items)
    (one_read lines _ _ _ c.args.line c.in_ok-copy.field-0 c.in_ok-demo_table.field-0 so c.in_ok-demo_table.ensures.read c.in_ok-demo_table.ensures.good c.in_ok-copy.ensures)
