use Rattle.std.proofs.lemmas.Result.{err_from_is_err_and}
use Rattle.dbl_demo_workload.proofs.ReadLemmas.{entry_err, entry_fault, entry_ok}
use Rattle.dbl_demo_workload.proofs.logs.read_entry.Goals as goal

pub returns-clause-read : goal.returns-clause-read
returns-clause-read g c =
    let e = c.entry.ensures in
    entry_ok g.D.Disk c.args.journal.now c.entry.new.self c.entry.result e.same e.seen e.crash e.lists e.cause.later e.cause.cause e.steady c.in_ok-entry.field-0 c.in_ok-entry.field-0 c.in_ok-entry.was

pub returns-in_err-entry-clause-kinds : goal.returns-in_err-entry-clause-kinds
returns-in_err-entry-clause-kinds g c =
    let p = err_from_is_err_and c.from_residual.result c.from_residual.ensures.1 in
    rw p.1 (entry_fault c.entry.result c.in_err-entry.field-0.0 p.0 c.in_err-entry.was c.entry.ensures.journal c.entry.ensures.short p.2)

pub returns-in_err-entry-clause-read : goal.returns-in_err-entry-clause-read
returns-in_err-entry-clause-read g c =
    let e = c.entry.ensures in
    let p = err_from_is_err_and c.from_residual.result c.from_residual.ensures.1 in
    rw p.1 (entry_err g.D.Disk c.args.journal.now c.entry.new.self c.entry.result e.same e.seen e.crash e.lists e.cause.later e.cause.cause e.steady c.in_err-entry.field-0.0 p.0 c.in_err-entry.was p.2)
