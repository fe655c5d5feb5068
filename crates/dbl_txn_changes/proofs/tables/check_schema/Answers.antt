use Rattle.std.proofs.Common.{Option, ap, sym, subst}
use Rattle.dbl_model_table.specs.declared.table.TableInfo.{TableInfo}
use Rattle.dbl_model_commit.specs.Stated.{columns_fault}
use Rattle.dbl_txn_changes.specs.Answers.{Judges}
use Rattle.dbl_txn_changes.proofs.Captured.{captured, uncaptured}
use Rattle.dbl_txn_changes.proofs.tables.check_schema.Goals as goal

pub returns-in-Some : goal.returns-in-Some
returns-in-Some c =
    let info = c.in-Some.info.now in
    let found = captured c.args.infos.now.items c.deref.result.now c.in-Captured.place info c.deref.ensures.value c.in-Some.ensures.lookup.0 c.in-Some.ensures.lookup.1 in
    rw c.in-Captured.is (subst (λ (o : Option TableInfo). Judges (columns_fault o c.args.relation.now) c.check_columns.result) (sym found) c.check_columns.ensures)

pub returns-in-None : goal.returns-in-None
returns-in-None c =
    let none = uncaptured c.args.infos.now.items c.deref.result.now c.in-Captured.place c.deref.ensures.value c.in-None.ensures.lookup.0 in
    rw c.in-Captured.is (ap (λ (o : Option TableInfo). columns_fault o c.args.relation.now) none)
