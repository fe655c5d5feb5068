use Rattle.dblog_streams.proofs.ApplyRunLemmas.{rows_apply_at, fault_applies, rows_known, fault_known}
use Rattle.dblog_streams.proofs.applying.apply_text.Goals as goal

pub returns-in-Ok-clause-told : goal.returns-in-Ok-clause-told
returns-in-Ok-clause-told g c =
    rows_apply_at c.args.placeholder c.args.text c.in-Ok.held c.print_rows.result _ _
    c.in-Ok.ensures.placeholder c.requires c.in-Ok.ensures.good c.in-Ok.ensures.took c.print_rows.ensures.told

pub returns-in-Err-clause-told : goal.returns-in-Err-clause-told
returns-in-Err-clause-told g c =
    fault_applies c.args.placeholder c.args.text c.in-Err.at c.say_fault.result _ _
    c.requires c.in-Err.ensures.bad c.say_fault.ensures.told c.say_fault.ensures.memory

pub returns-in-Ok-clause-known : goal.returns-in-Ok-clause-known
returns-in-Ok-clause-known g c = rows_known _ c.print_rows.ensures.known

pub returns-in-Err-clause-known : goal.returns-in-Err-clause-known
returns-in-Err-clause-known g c = fault_known _ c.say_fault.ensures.known
