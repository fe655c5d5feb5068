-- Theorems about faithful stores, and how a session keeps them so.
use Rattle.std.specs.Prelude.{◌≡◌, ℕ, ℤ, ◌<◌, ◌≤◌, Some, List, length, map, take, drop, slice_get}
use Rattle.std.specs.List.{AllByRecursion, AllZip}
use Rattle.dbl_base.specs.declared.lsn.Lsn.{Lsn}
use Rattle.dbl_record.specs.declared.record.Record.{Record}
use Rattle.dbl_record.specs.Places.{place_of, IsBefore}
use Rattle.dbl_model_table.specs.declared.config.Config.{Config}
use Rattle.dbl_model_table.specs.declared.identity.Identity.{Identity}
use Rattle.dbl_model_table.specs.declared.table.TableInfo.{TableInfo}
use Rattle.dbl_model_table.specs.declared.change.Commit.{Commit}
use Rattle.dbl_consume_laws.specs.ModelHistory.declared.cursor.Cursor.{Cursor}
use Rattle.dbl_consume_laws.specs.ModelHistory.History.{History}
use Rattle.dbl_consume_laws.specs.ModelHistory.Fit.{IsFitHistory}
use Rattle.dbl_consume_laws.specs.ModelHistory.Laws.{CommitsRise, AreDistinctTables}
use Rattle.dbl_offset_content.specs.declared.offset.Offset.{Offset}
use Rattle.dbl_consume_laws.specs.ModelEvent.declared.closed.Closed.{Closed}
use Rattle.dbl_consume_laws.specs.ModelEvent.SnapshotLists.{IsSnapshot}
use Rattle.dbl_consume_laws.specs.KnownKeys.{AreToldUpTo}
use Rattle.dbl_faithful.specs.ToldEvents.{events_since, IsPrint}
use Rattle.dbl_consume_courses.specs.Versions.{Versioned, plain_commit}
use Rattle.dbl_consume_courses.specs.Courses.{course}
use Rattle.dbl_consume_courses.specs.Since.{since}
use Rattle.dbl_consume_courses.specs.VersionStores.{version_to}
use Rattle.dbl_faithful.specs.CaughtUp.{HasDeliveredUpTo}
use Rattle.dbl_faithful.specs.Stores.{Stores, IsCommitAt, IsPositionOf, top_position}
use Rattle.dbl_faithful.specs.Lag.{IsUnread, IsDescribedAt, IsOffsetOf, IsBehind}
use Rattle.dbl_faithful.specs.Faithful.{captured_commits, first_infos, IsFaithfulTo, IsUntouched}
use Rattle.dbl_faithful.specs.Onward.{GoesOnward, PlacesRise, Adds}

-- ---- the beginning of a session

-- What a session initially knows of its log: it has the records of all commits up to the offset's LSN.
pub record BeginsCaughtUp (history : History) (records : List Record) (offset : Offset) : Type 0 where
  pub before : List Versioned
  pub later : List Versioned
  pub delivered : HasDeliveredUpTo offset.identity (first_infos history offset) (captured_commits history offset) offset.start.0
      offset.lsn.0 offset.lsn.0 (top_position records) before later 0 records

-- A session on faithful stores has all records of the commits up to the offset's LSN in its log.
abbrev pub FaithfulStoresAreCaughtUp : Type 0
FaithfulStoresAreCaughtUp = (history : History) (confirmed : Lsn) (records : List Record) (offset : Offset)
    → IsFitHistory history → IsFaithfulTo history confirmed records offset → BeginsCaughtUp history records offset

-- Each key up to the last one of the stored progress is covered by the log since its table's last alteration, if the stored version is the
-- one at the offset's LSN, so that the next window may begin there.
abbrev pub CursorsWereTold : Type 0
CursorsWereTold = (history : History) (confirmed : Lsn) (records : List Record) (offset : Offset) (table : ℕ) (info : TableInfo)
    (version : ℕ) (cursor : Cursor)
    → IsBehind history confirmed records offset → AllByRecursion (λ item. offset.start.0 ≤ item.position) records
    → slice_get offset.infos table ≡ Some info → slice_get offset.versions table ≡ Some version
    → slice_get offset.cursors table ≡ Some cursor
    → version ≡ version_to (captured_commits history offset) table offset.lsn.0
    → slice_get (course (first_infos history offset) (captured_commits history offset) offset.start.0 table offset.lsn.0).infos table
    ≡ Some info
    → AreToldUpTo offset.identity
    (course (first_infos history offset) (captured_commits history offset) offset.start.0 table offset.lsn.0).infos
    (since (course (first_infos history offset) (captured_commits history offset) offset.start.0 table offset.lsn.0).start records) table
    cursor.last

-- Each record of the log has the position of a commit of the history, so that new commits are after all of them.
abbrev pub FaithfulRecordsStand : Type 0
FaithfulRecordsStand = (history : History) (confirmed : Lsn) (records : List Record) (offset : Offset) (place : ℕ) (item : Record)
    → IsFaithfulTo history confirmed records offset → slice_get records place ≡ Some item → IsCommitAt history item.position

-- ---- its end

-- A delivered log is faithful to each offset of these stores that isn't after the delivered commits.
abbrev pub CaughtUpStoresAreFaithful : Type 0
CaughtUpStoresAreFaithful = (history : History) (confirmed : Lsn) (records : List Record) (offset : Offset)
    (before later : List Versioned) (low high far sent : ℕ)
    → low ≤ offset.lsn.0 → offset.lsn.0 ≤ high
    → IsOffsetOf history confirmed records offset
    → HasDeliveredUpTo offset.identity (first_infos history offset) (captured_commits history offset) offset.start.0 low high far before
    later sent records
    → IsFaithfulTo history confirmed records offset

-- The first offset of a connector is faithful, with nothing read of any table and its LSN at its start.
abbrev pub FirstOffsetsAreFaithful : Type 0
FirstOffsetsAreFaithful = (history : History) (confirmed : Lsn) (records : List Record) (offset : Offset)
    → IsFitHistory history → IsUntouched history confirmed records → AreDistinctTables offset.infos
    → AllZip (IsDescribedAt history) offset.infos offset.versions → length offset.cursors ≡ length offset.infos
    → IsPositionOf history offset.start.0 → offset.lsn.0 ≡ offset.start.0
    → AllZip (λ info cursor. IsUnread cursor) offset.infos offset.cursors
    → IsFaithfulTo history confirmed records offset

-- ---- stores that only advance

-- A session that does nothing only advances the stores.
abbrev pub StoresStayOnward : Type 0
StoresStayOnward = (config : Config) (stores : Stores) → GoesOnward config stores stores

-- Records appended after appended records are all appended after the same position.
abbrev pub AddsGoOn : Type 0
AddsGoOn = (from : ℕ) (a b c : List Record) (one : Adds from a b) (two : Adds from b c)
    → AllByRecursion (λ item. AllByRecursion (λ later. IsBefore (place_of item) (place_of later)) two.more) one.more
    → Adds from a c

-- The list of appended records is unique.
abbrev pub AddsAreOne : Type 0
AddsAreOne = (from : ℕ) (old new : List Record) (one two : Adds from old new) → one.more ≡ two.more

-- The records that a session sends of the events after a position are after it, and their positions rise.
abbrev pub SentRecordsRise : Type 0
SentRecordsRise = (identity : Identity) (versions : List Versioned) (from n : ℕ) (more : List Record)
    → CommitsRise (map plain_commit versions)
    → AllZip (IsPrint identity) (take (length more) (drop n (events_since from versions))) more
    → AllByRecursion (λ item. from < item.position) more × PlacesRise more

-- The records of a window are at its high watermark, and their positions rise.
abbrev pub WindowsRise : Type 0
WindowsRise = (identity : Identity) (infos : List TableInfo) (closed : Closed) (mark : Commit) (now : ℤ) (snapshot : List Record)
    (n : ℕ) → IsSnapshot identity infos closed mark now snapshot
    → AllByRecursion (λ item. item.position ≡ mark.lsn.0) (take n snapshot) × PlacesRise (take n snapshot)
