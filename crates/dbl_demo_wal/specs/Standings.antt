-- The state of a source that a log represents: its history, the confirmed position, and what was read.
use Rattle.std.specs.Prelude.{◌≡◌, ℕ, Option, option_map, List}
use Rattle.dbl_base.specs.declared.lsn.Lsn.{Lsn}
use Rattle.dbl_disk.specs.Model.{DiskModel}
use Rattle.dbl_pgmsg.specs.declared.messages.Message.{Message}
use Rattle.dbl_tables_laws.specs.ModelHistory.History.{History}
use Rattle.dbl_tables_laws.specs.SourceModel.Standings.{Reading, SourceState, CrashState}
use Rattle.dbl_tables_laws.specs.SourceLog.declared.logged.LogTable.{LogTable}
use Rattle.dbl_tables_laws.specs.SourceLog.declared.reader_position.ReaderPosition.{ReaderPosition}
use Rattle.dbl_tables_laws.specs.SourceLog.Histories.{history_of}
use Rattle.dbl_tables_laws.specs.SourceLog.Sent.{sent_after, told_at}
use Rattle.dbl_tables_laws.specs.TablesRows.Sending.{log_tables}
use Rattle.dbl_demo_wal.specs.Wals.{Wal, IsWal}
use Rattle.dbl_demo_wal.specs.Sound.{logged_in, confirmed_in}

-- The tables of a source's log.
abbrev pub tables_of : Wal → List LogTable
tables_of wal = log_tables wal.workload.tables

-- The history that a source's log represents.
abbrev pub history_in : Wal → History
history_in wal = history_of (tables_of wal) (logged_in wal.entries)

-- The confirmed position that a source's log represents.
abbrev pub confirmed_of : Wal → Lsn
confirmed_of wal = confirmed_in wal.entries

-- The messages that a reader gets for the commits after an LSN, if it starts there.
abbrev pub messages_sent : Wal → Lsn → List Message
messages_sent wal after = sent_after (tables_of wal) after (logged_in wal.entries)

-- What a reader at this position has read.
abbrev pub wal_reading : Wal → ReaderPosition → Reading
wal_reading wal place = record { after = place.after; messages = told_at (tables_of wal) (logged_in wal.entries) place }

-- The state of a source with this log and a reader at this position.
abbrev pub standing_in : Wal → Option ReaderPosition → SourceState
standing_in wal place = record { history = history_in wal; confirmed = confirmed_of wal; reading = option_map (wal_reading wal) place }

-- The state that a crash leaves if it leaves this log.
abbrev pub left_in : Wal → CrashState
left_in wal = record { history = history_in wal; confirmed = confirmed_of wal }

-- A crash may leave the bytes of a log that represents this state.
pub record MayLeaveWal {D : Type 0} (model : DiskModel D) (disk : D) (l : CrashState) : Type 0 where
  pub crashed : List ℕ
  pub may : model.may_leave disk crashed
  pub wal : Wal
  pub is : IsWal crashed wal
  pub left : l ≡ left_in wal
