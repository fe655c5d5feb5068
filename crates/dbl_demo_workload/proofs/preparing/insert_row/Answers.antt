use Rattle.dbl_demo_workload.proofs.PrepareLemmas.{row_inserted, row_refused}
use Rattle.dbl_demo_workload.proofs.preparing.insert_row.Goals as goal

pub returns-in-Ok : goal.returns-in-Ok
returns-in-Ok c = λ tables past inserts. row_inserted tables past c.args.row c.into_items.result.items c.into_items.ensures c.insert.new.self (c.in-Ok.ensures tables past inserts)

pub returns : goal.returns
returns c = λ tables past inserts.
    row_refused tables past c.args.row c.into_items.result.items c.into_items.ensures c.insert.new.self c.in-Err.error c.row_error.result c.row_error.ensures (c.in-Err.ensures tables past inserts)
