-- Faithful stores: the records of a log are true of the source, and a connector can restart from its offset. After the DBLog paper.
use Rattle.std.specs.Prelude.{◌≡◌, ◌≤◌, ℕ, Option, Some, None, List, []}
use Rattle.std.specs.List.{AllByRecursion}
use Rattle.dbl_base.specs.declared.lsn.Lsn.{Lsn}
use Rattle.dbl_record.specs.declared.record.Record.{Record}
use Rattle.dbl_model_table.specs.declared.table.TableInfo.{TableInfo}
use Rattle.dbl_consume_laws.specs.ModelHistory.History.{RawBody, History}
use Rattle.dbl_consume_laws.specs.ModelHistory.History.RawBody.{Changes, Mark, Alter}
use Rattle.dbl_consume_laws.specs.ModelHistory.InForce.{opening_infos, versioned}
use Rattle.dbl_offset_content.specs.declared.offset.Offset.{Offset}
use Rattle.dbl_consume_courses.specs.Versions.{Versioned}
use Rattle.dbl_consume_courses.specs.AlteredTables.{AgreesInCourse, IsAgedFrom}
use Rattle.dbl_faithful.specs.Agreements.{HasKeyedRows}
use Rattle.dbl_faithful.specs.ToldEvents.{events_since}
use Rattle.dbl_faithful.specs.ExactLogs.{IsLogExact}
use Rattle.dbl_faithful.specs.RightSnapshots.{AreSnapshotsRight}
use Rattle.dbl_faithful.specs.Stores.{Stores}
use Rattle.dbl_faithful.specs.Lag.{IsBehind}

-- The commits of the tables that an offset captures, each with these tables in the columns in force from it on.
abbrev pub captured_commits : History → Offset → List Versioned
captured_commits history offset = versioned offset.infos history

-- These tables in the columns that they have before all commits.
abbrev pub first_infos : History → Offset → List TableInfo
first_infos history offset = opening_infos history offset.infos

-- Faithful stores with an offset: no record is before the log's start; a consumer agrees with the source at each first delivery; the log is
-- exact and its snapshots right; each table is aged from the offset on, and each row of a consumer is at a key; and a connector can restart
-- from the offset.
pub record IsFaithfulTo (history : History) (confirmed : Lsn) (records : List Record) (offset : Offset) : Type 0 where
  -- Of a record before the start, age would say nothing: only those since the start of its table's course count there.
  pub late : AllByRecursion (λ item. offset.start.0 ≤ item.position) records
  pub agrees : AgreesInCourse offset.identity (first_infos history offset) (captured_commits history offset) offset.start.0 records
  pub exact : IsLogExact offset.identity (captured_commits history offset) offset.start.0 records
  pub snapshots : AreSnapshotsRight offset.identity (captured_commits history offset)
      (events_since offset.start.0 (captured_commits history offset)) records
  pub aged : (table : ℕ) → IsAgedFrom offset.identity (first_infos history offset) (captured_commits history offset) offset.start.0
      records offset.lsn.0 table
  pub keyed : HasKeyedRows offset.identity (first_infos history offset) records
  pub lags : IsBehind history confirmed records offset

-- Whether a commit's contents are no watermark.
abbrev pub HasNoMark : RawBody → Type 0
HasNoMark (Changes changes) = Unit {0}
HasNoMark (Mark value) = ⊥
HasNoMark (Alter name columns rows) = Unit {0}

-- Stores without an offset, on which no session has done anything: the log is empty, no watermark was written and nothing was confirmed.
pub record IsUntouched (history : History) (confirmed : Lsn) (records : List Record) : Type 0 where
  pub empty : records ≡ []
  pub unmarked : AllByRecursion (λ commit. HasNoMark commit.body) history.commits
  pub unconfirmed : confirmed.0 ≡ 0

-- Whether stores are faithful, by whether an offset is stored.
abbrev pub IsFaithful : History → Lsn → List Record → Option Offset → Type 0
IsFaithful history confirmed records None = IsUntouched history confirmed records
IsFaithful history confirmed records (Some offset) = IsFaithfulTo history confirmed records offset

-- Whether a connector's stores are faithful.
abbrev pub AreFaithful : Stores → Type 0
AreFaithful stores = IsFaithful stores.history stores.confirmed stores.records stores.offset
