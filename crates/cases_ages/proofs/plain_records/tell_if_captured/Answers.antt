use Rattle.std.proofs.Common.{◌≤◌, length, arith, ap}
use Rattle.dbl_model_table.specs.Rows.{table_of}
use Rattle.dbl_model_event.specs.Events.{notices}
use Rattle.cases_ages.specs.PlainEvents.{notice_texts}
use Rattle.cases_ages.proofs.PlainEventLemmas.{notices-past, tells_nothing}
use Rattle.cases_ages.proofs.plain_records.tell_if_captured.Goals as goal

pub returns-in-None : goal.returns-in-None
returns-in-None c =
    let past : length c.args.infos.now.items ≤ table_of c.args.change.now = omega (arith, c.in-None.ensures.lookup.3, c.table.ensures, ap length c.deref.ensures.value) in
    tells_nothing (notice_texts c.args.identity.now c.args.commit.now c.args.now_ms.now) c.args.out.now.items (notices c.args.infos.now.items c.args.change.now) (notices-past c.args.infos.now.items c.args.change.now past)
