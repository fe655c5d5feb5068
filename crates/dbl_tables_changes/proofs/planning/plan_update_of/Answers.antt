use Rattle.std.proofs.Common.{refl}
use Rattle.dbl_tables_changes.proofs.planning.plan_update_of.Goals as goal

pub returns-in-Err : goal.returns-in-Err
returns-in-Err c messages utf8 short is = c.in-Err.ensures messages utf8 short is

pub returns : goal.returns
returns c messages utf8 short is =
    let told = c.in-Ok.ensures messages utf8 short is in
    record { fits = told.fits; free = told.free; absent = told.absent; message_is = refl; writes = c.in-Ok-update_writes.ensures }
