-- What never stops a session, over a source whose state is known, and over a conforming one.
use Rattle.std.specs.Prelude.{◌≡◌, ◌⊎◌, ℕ, ◌+◌, ◌≤◌, length, not, position, map, Option, Some, IsSome, List, ◌++◌, slice_get}
use Rattle.std.specs.List.{AllByRecursion}
use Rattle.dbl_value_types.specs.declared.error.ValueError.{ValueError}
use Rattle.dbl_record.specs.declared.record.Record.{Record}
use Rattle.dbl_record.specs.Cuts.{joined}
use Rattle.dbl_model_table.specs.declared.config.Config.{Config}
use Rattle.dbl_model_table.specs.declared.table.TableName.{TableName}
use Rattle.dbl_model_table.specs.declared.table.TableInfo.{TableInfo}
use Rattle.dbl_model_table.specs.declared.change.Change.{Change}
use Rattle.dbl_model_table.specs.declared.change.Commit.{Commit}
use Rattle.dbl_model_table.specs.declared.row.Key.{Key}
use Rattle.dbl_model_table.specs.Heads.{commit_head}
use Rattle.dbl_model_table.specs.Rows.{all_changes, changes_of}
use Rattle.dbl_capture_work.specs.ModelHistory.declared.cursor.Cursor.{Cursor}
use Rattle.dbl_capture_work.specs.ModelHistory.Fit.{AreInfosOf}
use Rattle.dbl_capture_work.specs.ModelHistory.History.{History}
use Rattle.dbl_capture_work.specs.ModelHistory.KeyBounds.{IsAbove, IsUpTo}
use Rattle.dbl_capture_work.specs.ModelHistory.MarkTexts.{mark_text}
use Rattle.dbl_capture_work.specs.ModelHistory.MarkTexts.Side.{High, Low}
use Rattle.dbl_capture_work.specs.ModelHistory.Typed.{typed}
use Rattle.dbl_capture_work.specs.ModelCommit.declared.txn_error.TxnError.{TxnError}
use Rattle.dbl_capture_work.specs.ModelEvent.declared.closed.Closed.{Closed}
use Rattle.dbl_capture_work.specs.ModelEvent.Clashes.{clash_of, snapshot_clash}
use Rattle.dbl_capture_work.specs.ModelEvent.EventJson.{envelopes}
use Rattle.dbl_capture_work.specs.ModelEvent.Snapshots.{AreInKeyOrder, snapshot}
use Rattle.dbl_capture_work.specs.ConsumeLaws.Windows.{IsRightWindow}
use Rattle.dbl_capture_work.specs.SourceModel.Selected.{rows_up_to}
use Rattle.dbl_capture_work.specs.SourceModel.Standings.{Reading, SourceState}
use Rattle.dbl_capture_work.specs.SourceModel.Stated.{IsOfContent}
use Rattle.dbl_capture_work.specs.Offset.declared.offset.Offset.{Offset}
use Rattle.dbl_capture_work.specs.Faithful.Lag.{IsOffsetOf}
use Rattle.dbl_capture_work.specs.Window.Plans.{Plan}
use Rattle.dbl_capture_work.specs.Window.Promise.{moment_after_first}
use Rattle.dbl_capture_work.specs.Window.Selected.{HasUnreadable, IsCaptured}
use Rattle.dbl_capture_work.specs.CaptureModel.Entries.{SessionStart}
use Rattle.dbl_capture_work.specs.CaptureModel.Marked.{IsMarkAt}
use Rattle.dbl_capture_work.specs.declared.halt.Halt.{Halt}
use Rattle.dbl_capture_work.specs.declared.halt.Halt.TheVariants as halt
use Rattle.dbl_capture_work.specs.declared.report.Report.{Report}
use Rattle.dbl_capture_work.specs.Begins.{IsFirstOffsetAtHead, IsTooLong}
use Rattle.dbl_capture_work.specs.Causes.{IsLongRecord}
use Rattle.dbl_capture_work.specs.Takes.{IsClashIn}
use Rattle.dbl_capture_laws.specs.Sessions.{IsCapturing}
use Rattle.dbl_capture_laws.specs.Stored.{session_identity}
use Rattle.dbl_capture_laws.specs.Halted.{EndsCommit, IsTxnFault, StatesMore}

-- ---- over a conforming source

-- An invalid transaction that was read from a conforming source is invalid by its content.
pub record IsOwnTxnFault (infos : List TableInfo) (t : SourceState) (number : ℕ) (error : TxnError) : Type 0 where
  pub content : IsOfContent error
  pub reading : Reading
  pub reading_is : t.reading ≡ Some reading
  pub fault : IsTxnFault infos reading number error

-- A cell of a captured table that encodes no value existed in the history.
pub record IsOwnCell (infos : List TableInfo) (history : History) (table : TableName) (column : List ℕ) (error : ValueError) : Type 0 where
  pub plan : Plan
  pub captured : IsCaptured infos history plan
  pub name : plan.info.name ≡ table
  pub cell : HasUnreadable infos history plan column error

-- The errors that are possible over a conforming source whose catalogue has the captured tables.
abbrev pub IsHonestHalt : SessionStart → (SourceState → Type 0) → Halt → Type 0
IsHonestHalt entry stands (halt.Message number error) = ⊥
IsHonestHalt entry stands (halt.Txn number error) =
    (t : SourceState) × stands t × (infos : List TableInfo) × IsCapturing entry infos × IsOwnTxnFault infos t number error
IsHonestHalt entry stands (halt.Chunk table row) = ⊥
IsHonestHalt entry stands (halt.Altered table) = ⊥
IsHonestHalt entry stands (halt.Cell table column error) =
    (t : SourceState) × stands t × (infos : List TableInfo) × IsCapturing entry infos × IsOwnCell infos t.history table column error
IsHonestHalt entry stands h = Unit {0}

-- ---- over faithful stores besides

-- The window that a session closes next, of the first unfinished table: both watermarks are in the history, and the rows are those after
-- the cursor at the high watermark, without those changed between the watermarks, in key order and at most `chunk`.
pub record IsOwnClosed (infos : List TableInfo) (chunk : ℕ) (offset : Offset) (report : Report) (history : History) (place : ℕ)
    (closed : Closed) : Type 0 where
  pub here : IsMarkAt history (mark_text offset.incarnation (report.chunks + 1) High) place
  pub first : position (λ cursor. not cursor.done) offset.cursors ≡ Some closed.table
  pub cursor : Cursor
  pub cursor_is : slice_get offset.cursors closed.table ≡ Some cursor
  pub low : ℕ
  pub opened : IsMarkAt history (mark_text offset.incarnation (report.chunks + 1) Low) low
  pub right : IsRightWindow infos (all_changes (typed infos history)) (moment_after_first (typed infos history) (low + 1))
      (moment_after_first (typed infos history) (place + 1)) cursor.last closed
  pub ordered : AreInKeyOrder closed.rows
  pub few : length closed.rows ≤ chunk
  pub within : AllByRecursion (λ row. IsAbove cursor.last row.0 × IsUpTo closed.through row.0) closed.rows
  -- The key up to which the window was read is the cursor's, or that of a row that the table had at some point.
  pub through : (closed.through ≡ cursor.last)
      ⊎ ((key : Key) × (closed.through ≡ Some key) × (at : ℕ) × IsSome (rows_up_to infos history at closed.table key))

-- The open transaction so far begins this commit: it has the commit's Begin, and its first changes.
pub record BecomesCommit (so_far commit : Commit) : Type 0 where
  pub head : commit_head so_far ≡ commit_head commit
  pub more : List Change
  pub changes : changes_of commit ≡ changes_of so_far ++ more

-- The newest message states changes of the open transaction, which begins this commit.
pub record StatesPart (infos : List TableInfo) (reading : Reading) (commit : Commit) : Type 0 where
  pub so_far : Commit
  pub more : StatesMore infos reading so_far
  pub becomes : BecomesCommit so_far commit

-- The commit that the newest message ends, or of which it states changes, is one of the history.
pub record IsNewest (infos : List TableInfo) (history : History) (reading : Reading) : Type 0 where
  pub commit : Commit
  pub ends : EndsCommit infos reading commit ⊎ StatesPart infos reading commit
  pub place : ℕ
  pub stands : slice_get (typed infos history) place ≡ Some commit

-- The value equal to the placeholder is in the newest commit, or in the window that it closes.
pub record IsOwnClash (entry : SessionStart) (offset : Offset) (report : Report) (history : History) (reading : Reading)
    (h : Halt) : Type 0 where
  pub infos : List TableInfo
  pub captured : IsCapturing entry infos
  pub newest : IsNewest infos history reading
  pub clash : IsClashIn (clash_of (session_identity entry) infos newest.commit) h
      ⊎ ((closed : Closed) × IsOwnClosed infos entry.config.chunk offset report history newest.place closed
      × IsClashIn (snapshot_clash (session_identity entry) infos closed) h)

-- The record that is too long is of the newest commit, or of the window that it closes.
pub record IsOwnLong (entry : SessionStart) (offset : Offset) (report : Report) (history : History) (reading : Reading)
    (h : Halt) : Type 0 where
  pub infos : List TableInfo
  pub captured : IsCapturing entry infos
  pub newest : IsNewest infos history reading
  pub long : IsLongRecord (envelopes (session_identity entry) infos newest.commit entry.now) h
      ⊎ ((closed : Closed) × IsOwnClosed infos entry.config.chunk offset report history newest.place closed
      × IsLongRecord (snapshot (session_identity entry) infos closed newest.commit entry.now) h)

-- The offset that is too long agrees with the source's history, its confirmed LSN, and the progress records of the topic log.
pub record IsOwnOffset (entry : SessionStart) (t : SourceState) (records : List Record) (h : Halt) : Type 0 where
  pub offset : Offset
  pub identity : offset.identity ≡ session_identity entry
  pub captured : IsCapturing entry offset.infos
  pub is : IsOffsetOf t.history t.confirmed records offset
  pub long : IsTooLong offset h

-- The errors that are possible over a conforming source and faithful stores.
abbrev pub IsFaithfulHalt : SessionStart → Option Offset → Report → (SourceState → Type 0) → (List (List Record) → Type 0) → Halt → Type 0
IsFaithfulHalt entry stored report stands holds (halt.Clash table column) =
    (t : SourceState) × stands t × (reading : Reading) × (t.reading ≡ Some reading)
    × (offset : Offset) × (stored ≡ Some offset) × IsOwnClash entry offset report t.history reading (halt.Clash table column)
IsFaithfulHalt entry stored report stands holds (halt.RecordTooLong len) =
    (t : SourceState) × stands t × (reading : Reading) × (t.reading ≡ Some reading)
    × (offset : Offset) × (stored ≡ Some offset) × IsOwnLong entry offset report t.history reading (halt.RecordTooLong len)
IsFaithfulHalt entry stored report stands holds (halt.OffsetTooLong len) =
    (t : SourceState) × stands t × (groups : List (List Record)) × holds groups
    × IsOwnOffset entry t (joined groups) (halt.OffsetTooLong len)
IsFaithfulHalt entry stored report stands holds h = Unit {0}

-- The first offset of the configured tables, as the catalogue has them, is too long with nothing read.
pub record IsFirstLong (config : Config) (history : History) (h : Halt) : Type 0 where
  pub infos : List TableInfo
  pub names : map (λ info. info.name) infos ≡ config.tables
  pub described : AreInfosOf history infos
  pub offset : Offset
  pub first : IsFirstOffsetAtHead config infos offset.start offset
  pub long : IsTooLong offset h
