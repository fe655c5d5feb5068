use Rattle.std.proofs.Common.{refl}
use Rattle.dbl_lines.specs.declared.status.Status.TheVariants.{StdoutFailed}
use Rattle.dblog_streams.proofs.ApplyRunLemmas.{rows_printed, rows_cut, rows_starved}
use Rattle.dblog_streams.proofs.applying.print_rows.Goals as goal

pub returns-in-Ok-clause-told : goal.returns-in-Ok-clause-told
returns-in-Ok-clause-told g c = λ taken took. rows_printed _ _ _ (c.in-Ok.ensures.prints taken took)

pub returns-in-Err-OutputFailed-clause-told : goal.returns-in-Err-OutputFailed-clause-told
returns-in-Err-OutputFailed-clause-told g c = λ taken took. rows_cut _ StdoutFailed _ _ refl (rw c.in-Err-OutputFailed.field-0-is at (c.in-Err-OutputFailed.ensures.prints taken took))

pub returns-in-Err-Memory-clause-told : goal.returns-in-Err-Memory-clause-told
returns-in-Err-Memory-clause-told g c = λ taken took. rows_starved _ c.say.result _ _ _ (rw c.in-Err-Memory.field-0-is at (c.in-Err-Memory.ensures.prints taken took)) c.say.ensures.says
