-- No session over crash-consistent disks stops at a cell: its log is one of a workload, whose rows are readable.
use Rattle.std.proofs.Common.{◌≡◌, ℕ, ℤ, Option, Some, List, subst}
use Rattle.std.specs.Prelude.{IfErr}
use Rattle.dbl_disk.specs.Model.{DiskModel}
use Rattle.dbl_value_types.specs.declared.error.ValueError.{ValueError}
use Rattle.dbl_model_table.specs.declared.table.TableName.{TableName}
use Rattle.dbl_model_history.proofs.RowKeys.{is_some_value}
use Rattle.dbl_demo_wal.specs.Wals.{IsWal}
use Rattle.dbl_demo_wal_laws.proofs.ReadableLaws.{rows_readable}
use Rattle.dblog_run.specs.CaptureWork.declared.halt.Halt.TheVariants as halt
use Rattle.dblog_run.specs.CaptureWork.declared.report.Report.{Report}
use Rattle.dbl_offset_content.specs.declared.offset.Offset.{Offset}
use Rattle.dbl_model_table.specs.declared.config.Config.{Config}
use Rattle.dblog_run.specs.Promise.Causes.{IsKeptHalt}
use Rattle.dblog_run.specs.Promise.Contents.{Contents, history_at}
use Rattle.dblog_run.specs.Connect.Ends.{ConnectEnd, IsKeptError}
use Rattle.dblog_laws.specs.RunLaws.{NoCellStopsSessions}
use Rattle.dblog_laws.proofs.Ending.{not_unreadable}

-- such a cause over the log of a workload
pub not_cell : (config : Config) (now : ℤ) (old : Contents) (stored : Option Offset) (report : Report) (left : Contents) (bytes : List ℕ) (table : TableName) (column : List ℕ) (error : ValueError) → IsWal bytes left.wal
    → IsKeptHalt config now old stored report left (halt.Cell table column error) → ⊥
not_cell config now old stored report left bytes table column error wal why =
    not_unreadable why.0 (history_at left) table column error (rows_readable bytes left.wal why.0 wal why.2.captured.are) why.2

module _ {W T F : Type 0} (wal_model : DiskModel W) (topics_model : DiskModel T) (offsets_model : DiskModel F)
    (wal_left : (disk : W) (bytes : List ℕ) → wal_model.seen disk ≡ Some bytes → wal_model.may_leave disk bytes)
    (topics_left : (disk : T) (bytes : List ℕ) → topics_model.seen disk ≡ Some bytes → topics_model.may_leave disk bytes)
    (offsets_left : (disk : F) (bytes : List ℕ) → offsets_model.seen disk ≡ Some bytes → offsets_model.may_leave disk bytes) where
  pub no_cell_stops_sessions : NoCellStopsSessions wal_model topics_model offsets_model
  no_cell_stops_sessions asked now old new status before after kept_old kept_new runs table column error is =
      let w = is_some_value (wal_model.seen old.wal) kept_old.wal in
      let t = is_some_value (topics_model.seen old.topics) kept_old.topics in
      let f = is_some_value (offsets_model.seen old.offsets) kept_old.offsets in
      let w1 = is_some_value (wal_model.seen new.wal) kept_new.wal in
      let t1 = is_some_value (topics_model.seen new.topics) kept_new.topics in
      let f1 = is_some_value (offsets_model.seen new.offsets) kept_new.offsets in
      let wal_may = wal_left new.wal w1.0 w1.1 in
      let topics_may = topics_left new.topics t1.0 t1.1 in
      let offsets_may = offsets_left new.offsets f1.0 f1.1 in
      let found = kept_new.each w1.0 t1.0 f1.0 wal_may topics_may offsets_may in
      let never = subst (λ (e : ConnectEnd). IfErr e (IsKeptError asked now (wal_model.may_leave new.wal) (topics_model.may_leave new.topics) (offsets_model.may_leave new.offsets) w.0 t.0 f.0)) is (runs.kept kept_old w.0 t.0 f.0 w.1 t.1 f.1).never in
      not_cell never.halted.begun.config now never.halted.begun.held never.halted.stored never.halted.report found.0 w1.0 table column error found.1.source
      (never.each w1.0 t1.0 f1.0 found.0 wal_may topics_may offsets_may found.1)
