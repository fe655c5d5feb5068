use Rattle.std.proofs.Common.{map}
use Rattle.dbl_consume.specs.Printing.{row_line}
use Rattle.dblog_stores.proofs.Opened.{print_after}
use Rattle.dblog_stores.proofs.Writing.{print_cuts}
use Rattle.dblog_stores.proofs.applying.print_rows.Goals as goal

pub returns-in-Ok-clause-told : goal.returns-in-Ok-clause-told
returns-in-Ok-clause-told g c = λ taken took. let p = c.in-Ok.ensures.prints taken took in record { rows = p.0; are = p.1; ends = p.2 }

pub returns-in-Err-clause-told : goal.returns-in-Err-clause-told
returns-in-Err-clause-told g c = λ taken took.
    let p = c.in-Err.ensures.prints taken took in
    record { rows = p.0; are = p.1; ends = print_cuts (map row_line p.0) c.in-Err.error c.from.result _ _ c.from.ensures p.2 }

pub returns-in-Err-clause-a_store : goal.returns-in-Err-clause-a_store
returns-in-Err-clause-a_store g c = print_after c.in-Err.error c.from.result c.from.ensures
