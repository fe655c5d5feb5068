-- What never stops a session: bytes that encode a message, a conforming source's transaction but by its content, and tables that can be
-- captured.
use Rattle.std.specs.Prelude.{◌≡◌, ℕ, ◌∷◌, Some, List, length, map}
use Rattle.std.specs.List.{AllByRecursion}
use Rattle.dbl_base.specs.declared.lsn.Lsn.{Lsn}
use Rattle.dbl_pgmsg.specs.declared.messages.Message.{Message}
use Rattle.dbl_pgmsg.specs.Grammar.{Spells}
use Rattle.dbl_model_table.specs.declared.table.TableInfo.{TableInfo}
use Rattle.dbl_model_table.specs.declared.table.TableName.{TableName}
use Rattle.dbl_capture_work.specs.ModelHistory.Fit.{AreInfosOf}
use Rattle.dbl_capture_work.specs.ModelHistory.History.{History}
use Rattle.dbl_capture_work.specs.ModelCommit.Blocks.{AreWithoutFault}
use Rattle.dbl_capture_work.specs.ModelCommit.declared.txn_error.TxnError.{TxnError}
use Rattle.dbl_capture_work.specs.ModelCommit.Stated.{transaction_fault}
use Rattle.dbl_capture_work.specs.SourceModel.Standings.{SourceState}
use Rattle.dbl_capture_work.specs.SourceModel.Stated.{IsReadPlainly}
use Rattle.dbl_capture_work.specs.declared.halt.Halt.{Halt}
use Rattle.dbl_capture_work.specs.Begins.{CanBeCaptured}
use Rattle.dbl_capture_work.specs.Takes.{IsMessageHalt}
use Rattle.dbl_capture_laws.specs.Nevers.{IsOwnTxnFault}

-- Bytes that encode a message never stop a session as malformed.
abbrev pub SpelledBytesNeverHalt : Type 0
SpelledBytesNeverHalt = (number : ℕ) (bytes : List ℕ) (m : Message) (h : Halt) → Spells bytes m → IsMessageHalt number bytes h → ⊥

-- An invalid transaction that was read from a conforming source is invalid by its content.
abbrev pub HonestTransactionsFail : Type 0
HonestTransactionsFail = (infos : List TableInfo) (t : SourceState) (after : Lsn) (ms : List Message) (m : Message) (number : ℕ)
    (error : TxnError)
    → t.reading ≡ Some (record { after = after; messages = m ∷ ms }) → AreInfosOf t.history infos
    → IsReadPlainly t.history (record { after = after; messages = m ∷ ms })
    → AreWithoutFault infos after ms → transaction_fault infos after m ms ≡ Some error → number ≡ length (m ∷ ms)
    → IsOwnTxnFault infos t number error

-- Tables whose descriptions agree with the catalogue can be captured.
abbrev pub CapturedTablesCanBeCaptured : Type 0
CapturedTablesCanBeCaptured = (history : History) (names : List TableName) (infos : List TableInfo)
    → map (λ info. info.name) infos ≡ names → AreInfosOf history infos → AllByRecursion (CanBeCaptured history) names
