-- The errors of the transactions that the log of a workload is sent as.
use Rattle.std.specs.Prelude.{◌≡◌, ℕ, List, [], ◌∷◌, ◌++◌, reverse}
use Rattle.dbl_base.specs.declared.lsn.Lsn.{Lsn}
use Rattle.dbl_pgmsg.specs.declared.messages.Message.{Message}
use Rattle.dbl_model_table.specs.declared.table.TableInfo.{TableInfo}
use Rattle.dbl_model_history.specs.Fit.{AreInfosOf}
use Rattle.dbl_tables_laws.specs.Laws.{IsMovedAtMost}
use Rattle.dbl_tables_laws.specs.SourceModel.ModelCommit.Blocks.{AreWithoutFault}
use Rattle.dbl_tables_laws.specs.SourceModel.ModelCommit.Stated.{transaction_fault}
use Rattle.dbl_demo_wal.specs.Standings.{history_in, messages_sent}
use Rattle.dbl_demo_wal.specs.Wals.{Wal, IsWal}

-- Each of the messages, the newest first, has no error after messages without one but an update that moves a key and leaves a cell unsent.
abbrev pub HaveMovedAtMost : List TableInfo → Lsn → List Message → Type 0
HaveMovedAtMost infos after [] = Unit {0}
HaveMovedAtMost infos after (m ∷ ms) =
    (AreWithoutFault infos after ms → IsMovedAtMost (transaction_fault infos after m ms)) × HaveMovedAtMost infos after ms

-- Of the messages that the log of a workload is sent as, the first error, if any, is an update that moves a key and leaves a cell unsent.
abbrev pub TransactionsOfWalsMoveAtMost : Type 0
TransactionsOfWalsMoveAtMost = (bytes : List ℕ) (wal : Wal) (infos : List TableInfo) (after : Lsn) (messages rest : List Message)
    → IsWal bytes wal → AreInfosOf (history_in wal) infos → messages_sent wal after ≡ reverse messages ++ rest
    → HaveMovedAtMost infos after messages
