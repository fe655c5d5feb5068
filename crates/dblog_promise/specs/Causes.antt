-- Why a session over the disks stops with an error, in terms of the contents of the disks when it began and when it ended.
use Rattle.std.specs.Prelude.{◌≡◌, ◌⊎◌, ℕ, ℤ, ◌+◌, ◌<◌, Option, Some, None, List, ◌++◌, length, reverse}
use Rattle.std.specs.List.{AllByRecursion}
use Rattle.dbl_base.specs.declared.lsn.Lsn.{Lsn}
use Rattle.dbl_pgmsg.specs.declared.messages.Message.{Message}
use Rattle.dbl_record.specs.declared.record.Record.{Record}
use Rattle.dbl_model_table.specs.declared.config.Config.{Config}
use Rattle.dbl_model_table.specs.declared.table.TableInfo.{TableInfo}
use Rattle.dbl_model_history.specs.History.{History}
use Rattle.dbl_source.specs.SourceModel.Standings.{Reading, SourceState}
use Rattle.dbl_model_commit.specs.declared.txn_error.TxnError.{TxnError}
use Rattle.dbl_source.specs.SourceModel.Stated.{IsOfContent}
use Rattle.dbl_capture_laws.specs.Offset.declared.offset.Offset.{Offset}
use Rattle.dbl_demo_laws.specs.DemoWal.Standings.{history_in, messages_sent}
use Rattle.dbl_demo_laws.specs.DemoWal.Wals.{Wal}
use Rattle.dbl_capture_laws.specs.CaptureWork.declared.halt.Halt.{Halt}
use Rattle.dbl_capture_laws.specs.CaptureWork.declared.halt.Halt.TheVariants as halt
use Rattle.dbl_capture_laws.specs.CaptureWork.declared.report.Report.{Report}
use Rattle.dbl_capture_laws.specs.CaptureWork.Begins.{IsAbsentHalt, IsExhausted, IsTooLong}
use Rattle.dbl_capture_laws.specs.Found.{HasStored}
use Rattle.dbl_capture_laws.specs.Sessions.{Captures}
use Rattle.dbl_capture_laws.specs.Gained.{AreCounted}
use Rattle.dbl_capture_laws.specs.Halted.{IsHaltBy, IsNextOffset, IsTxnFault}
use Rattle.dbl_capture_laws.specs.Nevers.{IsFirstLong, IsOwnCell, IsOwnClash, IsOwnLong, IsOwnOffset}
use Rattle.dbl_capture_laws.specs.Reported.{BeginsAfter}
use Rattle.dblog_promise.specs.Restarts.{restart_at}
use Rattle.dblog_promise.specs.Contents.{Contents, HasOwnTables, confirmed_at, found_in, history_at, records_of_contents}

-- ---- what the session had done

-- The topic log gained exactly the records that the report counts. A session that stops with an error makes a report too, though it isn't
-- printed.
pub record HasGained (old new : List (List Record)) (report : Report) : Type 0 where
  pub more : List (List Record)
  pub is : new ≡ old ++ more
  pub are : AreCounted more report

-- The messages that were read, newest first, are the first of those that the source sends from where the session began to read; an offset
-- is stored by then.
pub record HasRead (config : Config) (found stored : Option Offset) (wal : Wal) (reading : Reading) : Type 0 where
  pub by : HasStored config found stored
  pub begins_after : BeginsAfter found stored by.offset.infos reading.after
  pub rest : List Message
  pub front : messages_sent wal reading.after ≡ reverse reading.messages ++ rest

-- The error is about the newest message, the records of the changes that it states or of the commit that it ends, the window that it closes,
-- or a watermark of that window that is missing. That window is the first one that the report doesn't count.
pub record IsHaltByLog (config : Config) (now : ℤ) (found stored : Option Offset) (report : Report) (wal : Wal) (h : Halt) : Type 0 where
  pub reading : Reading
  pub was : HasRead config found stored wal reading
  pub many : length reading.messages ≡ report.messages
  pub is : IsHaltBy config now report was.by.offset reading h

-- ---- offsets that are too long

-- The first offset that the session would store is too long: a new one of the requested tables, or the stored one with the next
-- incarnation.
abbrev pub IsFirstTooLong : Config → History → Option Offset → Halt → Type 0
IsFirstTooLong config history None h = IsFirstLong config history h
IsFirstTooLong config history (Some found) h = IsTooLong (record found { incarnation = found.incarnation + 1 }) h

-- The next offset, after the messages that were read, is too long.
pub record IsLongAfter (config : Config) (found stored : Option Offset) (report : Report) (wal : Wal) (h : Halt) : Type 0 where
  pub reading : Reading
  pub was : HasRead config found stored wal reading
  pub many : length reading.messages ≡ report.messages
  pub offset : Offset
  pub next : IsNextOffset was.by.offset reading offset
  pub long : IsTooLong offset h

-- An offset is too long: the first one that the session would store, or the next one after the messages that were read.
abbrev pub IsLong : Config → Contents → Option Offset → Report → Wal → Halt → Type 0
IsLong config old stored report wal h =
    ((stored ≡ old.offset) × IsFirstTooLong config (history_at old) old.offset h) ⊎ IsLongAfter config old.offset stored report wal h

-- ---- logs that are dropped, and offsets beyond their end

-- The confirmed LSN is above the stored one, or above 0 if none is stored, so that the source may have dropped log that is needed.
abbrev pub IsConfirmedBeyond : Lsn → Option Offset → Type 0
IsConfirmedBeyond confirmed None = 0 < confirmed.0
IsConfirmedBeyond confirmed (Some offset) = offset.lsn.0 < confirmed.0

-- The source's log begins at the LSN that was confirmed when the session began, which was above the session's stored LSN.
pub record IsGoneAfter (config : Config) (old : Contents) (stored : Option Offset) (asked first : Lsn) : Type 0 where
  pub beyond : IsConfirmedBeyond (confirmed_at old) old.offset
  pub by : HasStored config old.offset stored
  pub asked_is : asked ≡ by.offset.lsn
  pub above : asked.0 < first.0
  pub first_is : first ≡ confirmed_at old

-- The stored LSN lies beyond the log: above each of its commits.
pub record IsBeyondLog (held : Contents) : Type 0 where
  pub offset : Offset
  pub stored : held.offset ≡ Some offset
  pub some : 0 < offset.lsn.0
  pub above : AllByRecursion (λ commit. commit.lsn.0 < offset.lsn.0) (history_at held).commits

-- ---- the cause of each error

-- A transaction of the source's log, among the messages that it sends, is invalid by its content for the captured tables.
pub record IsOwnTxn (config : Config) (old : Contents) (wal : Wal) (number : ℕ) (error : TxnError) : Type 0 where
  pub content : IsOfContent error
  pub infos : List TableInfo
  pub captured : Captures config (history_at old) old.offset infos
  pub reading : Reading
  pub rest : List Message
  pub front : messages_sent wal reading.after ≡ reverse reading.messages ++ rest
  pub fault : IsTxnFault infos reading number error

-- A cell of a captured table that encodes no value existed in the history.
abbrev pub IsCellHalt : Config → Contents → History → Halt → Type 0
IsCellHalt config old history (halt.Cell table column error) =
    (infos : List TableInfo) × Captures config (history_at old) old.offset infos × IsOwnCell infos history table column error
IsCellHalt config old history h = Unit {0}

-- The cause of a session's error over any disks with known contents: no message is malformed. If the offset captures the catalogue's
-- tables, no row is malformed, a transaction is invalid only by its content, and a cell that encodes no value existed in the history.
abbrev pub IsCauseOf : Config → ℤ → Contents → Option Offset → Report → Wal → Halt → Type 0
IsCauseOf config now old stored report wal (halt.Message number error) = ⊥
IsCauseOf config now old stored report wal (halt.Txn number error) =
    IsHaltByLog config now old.offset stored report wal (halt.Txn number error) × (HasOwnTables old → IsOwnTxn config old wal number error)
IsCauseOf config now old stored report wal (halt.Chunk table row) = HasOwnTables old → ⊥
IsCauseOf config now old stored report wal (halt.Altered table) = HasOwnTables old → ⊥
IsCauseOf config now old stored report wal (halt.Cell table column error) = HasOwnTables old
    → IsCellHalt config old (history_in wal) (halt.Cell table column error)
IsCauseOf config now old stored report wal (halt.Clash table column) =
    IsHaltByLog config now old.offset stored report wal (halt.Clash table column)
IsCauseOf config now old stored report wal (halt.RecordTooLong len) =
    IsHaltByLog config now old.offset stored report wal (halt.RecordTooLong len)
IsCauseOf config now old stored report wal (halt.OffsetTooLong len) = IsLong config old stored report wal (halt.OffsetTooLong len)
IsCauseOf config now old stored report wal (halt.WatermarkMissing value at) =
    IsBeyondLog old × IsHaltByLog config now old.offset stored report wal (halt.WatermarkMissing value at)
IsCauseOf config now old stored report wal (halt.Model error) = (old.offset ≡ None)
    × IsAbsentHalt config.tables (history_at old) (halt.Model error)
IsCauseOf config now old stored report wal (halt.UnknownTable table) =
    (old.offset ≡ None) × IsAbsentHalt config.tables (history_at old) (halt.UnknownTable table)
IsCauseOf config now old stored report wal (halt.Gone asked first) = IsGoneAfter config old stored asked first
IsCauseOf config now old stored report wal (halt.Exhausted incarnation) = IsExhausted old.offset (halt.Exhausted incarnation)
IsCauseOf config now old stored report wal h = Unit {0}

-- ---- over crash-consistent disks

-- The source's state in these contents.
abbrev pub standing_left : Contents → SourceState
standing_left left = record { history = history_at left; confirmed = confirmed_at left; reading = None }

-- The cause of a session's error over crash-consistent disks: no message or row is malformed, no log is dropped, and no watermark is
-- missing. A transaction is invalid only by its content; an invalid cell would be one of a row in the source's history, which has none
-- (theorem `no_cell_stops_sessions` of `dblog_laws`); a value equal to the placeholder, and a record that is too long, belong to a commit
-- of the history or to the rows of the window that it closes.
abbrev pub IsKeptHalt : Config → ℤ → Contents → Option Offset → Report → Contents → Halt → Type 0
IsKeptHalt config now old stored report left (halt.Message number error) = ⊥
IsKeptHalt config now old stored report left (halt.Chunk table row) = ⊥
IsKeptHalt config now old stored report left (halt.Altered table) = ⊥
IsKeptHalt config now old stored report left (halt.Gone asked first) = ⊥
IsKeptHalt config now old stored report left (halt.WatermarkMissing value at) = ⊥
IsKeptHalt config now old stored report left (halt.Txn number error) = IsOwnTxn config old left.wal number error
IsKeptHalt config now old stored report left (halt.Cell table column error) =
    IsCellHalt config old (history_at left) (halt.Cell table column error)
IsKeptHalt config now old stored report left (halt.Clash table column) =
    (reading : Reading) × HasRead config old.offset stored left.wal reading × (length reading.messages ≡ report.messages)
    × (offset : Offset) × (stored ≡ Some offset)
    × IsOwnClash (restart_at config now (found_in old)) offset report (history_at left) reading (halt.Clash table column)
IsKeptHalt config now old stored report left (halt.RecordTooLong len) =
    (reading : Reading) × HasRead config old.offset stored left.wal reading × (length reading.messages ≡ report.messages)
    × (offset : Offset) × (stored ≡ Some offset)
    × IsOwnLong (restart_at config now (found_in old)) offset report (history_at left) reading (halt.RecordTooLong len)
IsKeptHalt config now old stored report left (halt.OffsetTooLong len) =
    IsOwnOffset (restart_at config now (found_in old)) (standing_left left) (records_of_contents left) (halt.OffsetTooLong len)
IsKeptHalt config now old stored report left h = Unit {0}
