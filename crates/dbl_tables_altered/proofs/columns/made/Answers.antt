use Rattle.std.specs.Prelude.{is_some}
use Rattle.std.proofs.Common.{ap}
use Rattle.dbl_tables_altered.proofs.ColumnLemmas.{made_refused}
use Rattle.dbl_tables_altered.proofs.columns.made.Goals as goal

pub returns-in-Ok : goal.returns-in-Ok
returns-in-Ok c = (c.in-Ok.ensures.ok, ap is_some c.in-Ok.ensures.fault)

pub returns-in-Err : goal.returns-in-Err
returns-in-Err c = made_refused c.args.raw.now c.in-Err.error c.refusal.result c.refusal.ensures c.in-Err.ensures.fault
