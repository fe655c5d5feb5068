-- The contents of the program's three disks.
use Rattle.std.specs.Prelude.{ℕ, Option, IfSome, List}
use Rattle.dbl_base.specs.declared.lsn.Lsn.{Lsn}
use Rattle.dbl_record.specs.declared.record.Record.{Record}
use Rattle.dbl_record.specs.Cuts.{joined}
use Rattle.dbl_model_table.specs.declared.table.TableInfo.{TableInfo}
use Rattle.dbl_model_history.specs.Fit.{AreInfosOf}
use Rattle.dbl_model_history.specs.History.{History}
use Rattle.dbl_model_history.specs.InForce.{Versioned, opening_infos, versioned}
use Rattle.dbl_topic.specs.Logs.{IsLog}
use Rattle.dbl_capture_laws.specs.Offset.declared.offset.Offset.{Offset}
use Rattle.dbl_capture_laws.specs.OffsetStore.Stores.{IsStore}
use Rattle.dbl_demo_laws.specs.DemoWal.Standings.{history_in, confirmed_of}
use Rattle.dbl_demo_laws.specs.DemoWal.Wals.{Wal, IsWal}
use Rattle.dblog_promise.specs.Restarts.{FoundStores}

-- The source's log with its workload, the groups of records of the topic log, and the offset, if one is stored.
pub record Contents : Type 0 where
  pub wal : Wal
  pub groups : List (List Record)
  pub offset : Option Offset

-- The bytes of the disks of the source's log, the topic log and the offset store are read as these contents.
pub record ReadAs (wal topics offsets : List ℕ) (held : Contents) : Type 0 where
  pub source : IsWal wal held.wal
  pub log : IsLog topics held.groups
  pub store : IsStore offsets held.offset

-- ---- what the contents say

-- The transactions that the source has committed, including the connector's watermarks.
abbrev pub history_at : Contents → History
history_at held = history_in held.wal

-- The commits of the history, as changes of the tables that an offset captures, each with these tables in the columns in force from it on.
abbrev pub captured_commits_at : Contents → Offset → List Versioned
captured_commits_at held offset = versioned offset.infos (history_at held)

-- The tables that an offset captures, in the columns that they have before all commits.
abbrev pub first_infos_at : Contents → Offset → List TableInfo
first_infos_at held offset = opening_infos (history_at held) offset.infos

-- The records that a consumer of the topic log applies, in order.
abbrev pub records_of_contents : Contents → List Record
records_of_contents held = joined held.groups

-- The confirmed LSN, up to which the source no longer needs its log.
abbrev pub confirmed_at : Contents → Lsn
confirmed_at held = confirmed_of held.wal

-- What a session finds in these contents.
abbrev pub found_in : Contents → FoundStores
found_in held = record {
  history = history_at held;
  confirmed = confirmed_at held;
  groups = held.groups;
  offset = held.offset;
}

-- No offset is stored, or it captures tables as the source's catalogue has them.
abbrev pub HasOwnTables : Contents → Type 0
HasOwnTables held = IfSome held.offset (λ offset. AreInfosOf (history_at held) offset.infos)
