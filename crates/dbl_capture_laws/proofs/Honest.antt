-- What a conforming source never does to a session.
use Rattle.std.proofs.Common.{◌≡◌, Option, None, List, [], ◌∷◌, map, ◌∙◌, refl, subst, arith}
use Rattle.std.specs.Prelude.{IsSomeAnd}
use Rattle.std.specs.List.{AllByRecursion}
use Rattle.dbl_pgmsg.proofs.FaultLaws.{not_both}
use Rattle.dbl_model_table.specs.declared.table.RawTable.{RawTable}
use Rattle.dbl_model_table.specs.declared.table.TableInfo.{TableInfo}
use Rattle.dbl_model_table.specs.Infos.{IsInfoOf}
use Rattle.dbl_model_table.specs.Made.{table_fault}
use Rattle.dbl_model_table.proofs.Capturable.{no_fault}
use Rattle.dbl_capture_work.specs.ModelHistory.History.{History, entry_of}
use Rattle.dbl_capture_work.proofs.ModelHistoryRowKeys.{some_and}
use Rattle.dbl_capture_work.specs.ModelCommit.declared.txn_error.TxnError.{TxnError}
use Rattle.dbl_capture_work.specs.SourceModel.Stated.{MayStand}
use Rattle.dbl_capture_work.specs.Begins.{CanBeCaptured}
use Rattle.dbl_capture_work.proofs.Describing.{first_entry}
use Rattle.dbl_capture_laws.specs.Honest.{CapturedTablesCanBeCaptured, HonestTransactionsFail, SpelledBytesNeverHalt}

pub spelled_bytes_never_halt : SpelledBytesNeverHalt
spelled_bytes_never_halt number bytes m h spells fault = not_both bytes m fault.error spells fault.fault

pub honest_transactions_fail : HonestTransactionsFail
honest_transactions_fail infos t after ms m number error reading are right accepted fault number_is = record {
  content = subst (λ (x : Option TxnError). MayStand x) fault ((right infos are).0 accepted);
  reading = record { after = after; messages = m ∷ ms };
  reading_is = reading;
  fault = record {
    message = m;
    earlier = ms;
    newest = refl;
    accepted = accepted;
    fault = fault;
    number_is = number_is;
  };
}

each_captured : (history : History) (infos : List TableInfo) → AllByRecursion (λ (info : TableInfo). IsSomeAnd (entry_of history info.name) (λ (raw : RawTable). IsInfoOf raw info)) infos
    → AllByRecursion (CanBeCaptured history) (map (λ (info : TableInfo). info.name) infos)
each_captured history [] all = tt
each_captured history (info ∷ infos) all =
    let at = some_and (entry_of history info.name) (λ (raw : RawTable). IsInfoOf raw info) all.0 in
    (record { raw = at.0; entry = record { place = 0; not_before = omega arith; not_after = omega arith; is = first_entry history info.name ∙ at.1 }; clean = subst (λ (r : RawTable). table_fault r ≡ None) at.2 (no_fault info) }, each_captured history infos all.1)

pub captured_tables_can_be_captured : CapturedTablesCanBeCaptured
captured_tables_can_be_captured history names infos are captured = subst (AllByRecursion (CanBeCaptured history)) are (each_captured history infos captured.each)
