use Rattle.std.proofs.Common.{Option, ap, sym, subst}
use Rattle.dbl_model_table.specs.declared.table.TableInfo.{TableInfo}
use Rattle.dbl_txn_changes.proofs.Captured.{captured, uncaptured}
use Rattle.dblog_replay.specs.Altered.{masking_fault}
use Rattle.dblog_replay.specs.Judged.{JudgesLog}
use Rattle.dblog_replay.proofs.altering.check_place.Goals as goal

pub returns-in-Some : goal.returns-in-Some
returns-in-Some c =
    let found = captured c.args.infos.now.items c.deref.result.now c.args.place c.in-Some.info.now c.deref.ensures.value c.in-Some.ensures.lookup.0
    c.in-Some.ensures.lookup.1 in
    subst (λ (o : Option TableInfo). JudgesLog (masking_fault c.args.mask.now c.args.columns.now.items o) c.check_table.result) (sym found)
    c.check_table.ensures

pub returns-in-None : goal.returns-in-None
returns-in-None c =
    let none = uncaptured c.args.infos.now.items c.deref.result.now c.args.place c.deref.ensures.value c.in-None.ensures.lookup.0 in
    ap (λ (o : Option TableInfo). masking_fault c.args.mask.now c.args.columns.now.items o) none
