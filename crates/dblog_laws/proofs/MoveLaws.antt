-- Over crash-consistent disks the only invalid transaction is one with an update that moves a key and leaves a cell unsent.
use Rattle.std.proofs.Common.{◌≡◌, ◌≢◌, ◌∙◌, ℕ, Option, Some, None, List, [], ◌∷◌, refl, ap, subst}
use Rattle.std.specs.Prelude.{IfErr}
use Rattle.dbl_base.specs.declared.lsn.Lsn.{Lsn}
use Rattle.dbl_disk.specs.Model.{DiskModel}
use Rattle.dbl_pgmsg.specs.declared.messages.Message.{Message}
use Rattle.dbl_model_table.specs.declared.config.Config.{Config}
use Rattle.dbl_model_table.specs.declared.table.TableInfo.{TableInfo}
use Rattle.dbl_model_table.specs.declared.table.TableName.{TableName}
use Rattle.dbl_model_commit.specs.declared.txn_error.TxnError.{TxnError}
use Rattle.dbl_model_commit.specs.declared.txn_error.TxnError.TheVariants.{MovedUnchanged}
use Rattle.dbl_model_commit.specs.Blocks.{AreWithoutFault}
use Rattle.dbl_model_commit.specs.Stated.{transaction_fault}
use Rattle.dbl_model_history.proofs.RowKeys.{is_some_value}
use Rattle.dbl_source_model.specs.Standings.{Reading}
use Rattle.dbl_offset_content.specs.declared.offset.Offset.{Offset}
use Rattle.dbl_offset.proofs.StoreLaws.{one_store}
use Rattle.dbl_faithful.specs.Faithful.{IsFaithful, IsFaithfulTo}
use Rattle.dbl_faithful.proofs.Faithful.{described_infos}
use Rattle.dbl_demo_wal.specs.Wals.{IsWal}
use Rattle.dbl_demo_wal.specs.TablesLaws.Laws.{IsMovedAtMost}
use Rattle.dbl_demo_wal_laws.specs.Moved.{HaveMovedAtMost}
use Rattle.dbl_demo_wal_laws.proofs.MovedLaws.{transactions_move}
use Rattle.dblog_run.specs.CaptureWork.declared.halt.Halt.TheVariants as halt
use Rattle.dblog_run.specs.CaptureLaws.Halted.{IsTxnFault}
use Rattle.dblog_run.specs.Promise.Causes.{HasRead, IsCauseOf}
use Rattle.dblog_run.specs.Promise.Contents.{Contents, confirmed_at, history_at, records_of_contents}
use Rattle.dblog_run.specs.Promise.Kept.{IsKept}
use Rattle.dblog_run.specs.Connect.ConnectEnds.declared.error.ConnectError.TheVariants.{Halted}
use Rattle.dblog_run.specs.Connect.Ends.{ConnectEnd, IsKeptError}
use Rattle.dblog_laws.specs.RunLaws.{OnlyUnsentMovesStopSessions}
use Rattle.dblog_laws.specs.Sessions.{HaveNoUnsentMove}

-- a message that moves no key so has no error
no_fault : (infos : List TableInfo) (after : Lsn) (m : Message) (ms : List Message)
    → ((table : TableName) (column : List ℕ) → transaction_fault infos after m ms ≢ Some (MovedUnchanged table column))
    → (o : Option TxnError) → transaction_fault infos after m ms ≡ o → IsMovedAtMost o → transaction_fault infos after m ms ≡ None
no_fault infos after m ms none None is fine = is
no_fault infos after m ms none (Some e) is fine = absurd (none fine.0 fine.1 (is ∙ ap (λ (x : TxnError). let o : Option TxnError = Some x in o) fine.2))

-- if no key is moved so, no message is invalid
pub without_fault : (infos : List TableInfo) (after : Lsn) (ms : List Message) → HaveMovedAtMost infos after ms → HaveNoUnsentMove infos after ms
    → AreWithoutFault infos after ms
without_fault infos after [] moved none = tt
without_fault infos after (m ∷ ms) moved none =
    let rest = without_fault infos after ms moved.1 none.1 in
    (no_fault infos after m ms none.0 (transaction_fault infos after m ms) refl (moved.0 rest), rest)

fault_moves : (infos : List TableInfo) (reading : Reading) (number : ℕ) (error : TxnError) → HaveMovedAtMost infos reading.after reading.messages
    → IsTxnFault infos reading number error → (table : TableName) × (column : List ℕ) × (error ≡ MovedUnchanged table column)
fault_moves infos reading number error moved fault =
    let all = subst (λ (ms : List Message). HaveMovedAtMost infos reading.after ms) fault.newest moved in
    subst IsMovedAtMost fault.fault (all.0 fault.accepted)

-- the messages that a session has read of the log that it leaves
pub read_moves : (config : Config) (found stored : Option Offset) (left : Contents) (bytes : List ℕ) → IsWal bytes left.wal → IsKept left → left.offset ≡ stored
    → (reading : Reading) (was : HasRead config found stored left.wal reading) → HaveMovedAtMost was.by.offset.infos reading.after reading.messages
read_moves config found stored left bytes wal kept left_is reading was =
    let faithful : IsFaithfulTo (history_at left) (confirmed_at left) (records_of_contents left) was.by.offset =
    subst (IsFaithful (history_at left) (confirmed_at left) (records_of_contents left)) (left_is ∙ was.by.is) kept.faithful in
    let captured = described_infos (history_at left) (confirmed_at left) (records_of_contents left) was.by.offset kept.fit faithful.lags.offset_is in
    transactions_move bytes left.wal was.by.offset.infos reading.after reading.messages was.rest wal captured was.front

module _ {W T F : Type 0} (wal_model : DiskModel W) (topics_model : DiskModel T) (offsets_model : DiskModel F)
    (wal_left : (disk : W) (bytes : List ℕ) → wal_model.seen disk ≡ Some bytes → wal_model.may_leave disk bytes)
    (topics_left : (disk : T) (bytes : List ℕ) → topics_model.seen disk ≡ Some bytes → topics_model.may_leave disk bytes)
    (offsets_left : (disk : F) (bytes : List ℕ) → offsets_model.seen disk ≡ Some bytes → offsets_model.may_leave disk bytes) where
  pub only_unsent_moves_stop_sessions : OnlyUnsentMovesStopSessions wal_model topics_model offsets_model
  only_unsent_moves_stop_sessions asked now old new status before after kept_old kept_new runs number error is =
      let w = is_some_value (wal_model.seen old.wal) kept_old.wal in
      let t = is_some_value (topics_model.seen old.topics) kept_old.topics in
      let f = is_some_value (offsets_model.seen old.offsets) kept_old.offsets in
      let w1 = is_some_value (wal_model.seen new.wal) kept_new.wal in
      let t1 = is_some_value (topics_model.seen new.topics) kept_new.topics in
      let f1 = is_some_value (offsets_model.seen new.offsets) kept_new.offsets in
      let wal_may = wal_left new.wal w1.0 w1.1 in
      let offsets_may = offsets_left new.offsets f1.0 f1.1 in
      let found = kept_new.each w1.0 t1.0 f1.0 wal_may (topics_left new.topics t1.0 t1.1) offsets_may in
      let never = subst (λ (e : ConnectEnd). IfErr e (IsKeptError asked now (wal_model.may_leave new.wal) (topics_model.may_leave new.topics) (offsets_model.may_leave new.offsets) w.0 t.0 f.0)) is (runs.kept kept_old w.0 t.0 f.0 w.1 t.1 f.1).never in
      let halted = never.halted in
      let halts : Halted (halt.Txn number error) ≡ Halted halted.halt = halted.is in
      let one : halted.halt ≡ halt.Txn number error = cc in
      let cause = subst (IsCauseOf halted.begun.config now halted.begun.held halted.stored halted.report found.0.wal) one (halted.cause w1.0 found.0.wal wal_may found.1.source) in
      let left_is : found.0.offset ≡ halted.stored = one_store f1.0 found.0.offset halted.stored found.1.store (halted.store f1.0 offsets_may) in
      fault_moves cause.0.was.by.offset.infos cause.0.reading number error
      (read_moves halted.begun.config halted.begun.held.offset halted.stored found.0 w1.0 found.1.source found.2 left_is cause.0.reading cause.0.was) cause.0.is
