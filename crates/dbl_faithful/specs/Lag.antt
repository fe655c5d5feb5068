-- Offsets from which a connector can restart with its log. The uniqueness of watermarks is after the DBLog paper.
use Rattle.std.specs.Prelude.{◌≡◌, ◌⊎◌, ◌<◌, ◌≤◌, ◌^◌, ℕ, false, Some, None, List, length, slice_get}
use Rattle.std.specs.List.{AllByRecursion, AllZip}
use Rattle.dbl_base.specs.declared.lsn.Lsn.{Lsn}
use Rattle.dbl_record.specs.declared.record.Record.{Record}
use Rattle.dbl_model_table.specs.declared.identity.Identity.{Identity}
use Rattle.dbl_model_table.specs.declared.table.TableInfo.{TableInfo}
use Rattle.dbl_consume_laws.specs.ModelHistory.declared.cursor.Cursor.{Cursor}
use Rattle.dbl_consume_laws.specs.ModelHistory.History.{RawBody, History}
use Rattle.dbl_consume_laws.specs.ModelHistory.History.RawBody.{Changes, Mark, Alter}
use Rattle.dbl_consume_laws.specs.ModelHistory.InForce.{entry_at, versioned}
use Rattle.dbl_consume_laws.specs.ModelHistory.Laws.{AreDistinctTables}
use Rattle.dbl_consume_laws.specs.ModelHistory.MarkTexts.{Side, mark_text}
use Rattle.dbl_model_table.specs.declared.table.RawTable.{RawTable}
use Rattle.dbl_model_table.specs.Infos.{IsInfoOf}
use Rattle.dbl_consume_courses.specs.Versions.{Versioned}
use Rattle.dbl_consume_courses.specs.VersionStores.{IsCursorOf}
use Rattle.dbl_offset_content.specs.declared.offset.Offset.{Offset}
use Rattle.dbl_faithful.specs.ToldEvents.{ToldEvent, events_since, HasRecordOfEvent}
use Rattle.dbl_faithful.specs.Stores.{IsCommitAt, IsPositionOf}

-- ---- progress

-- Whether nothing was read of the table.
abbrev pub IsUnread : Cursor → Type 0
IsUnread cursor = (cursor.last ≡ None) × (cursor.done ≡ false)

-- Whether the progress of a table is as a record of the log reports it, in the table's version there, or nothing was read of the table.
abbrev pub IsRightCursor : Identity → List Versioned → List Record → ℕ → ℕ → TableInfo → ℕ → Cursor → Type 0
IsRightCursor identity versions records lsn table info version cursor =
    IsUnread cursor ⊎ IsCursorOf identity versions records lsn table info version cursor

-- Whether a captured table is as the catalogue describes it at some point of the history, and the version is the one there.
pub record IsDescribedAt (history : History) (info : TableInfo) (version : ℕ) : Type 0 where
  pub place : ℕ
  pub entry : RawTable
  pub stands : entry_at history place info.name ≡ Some entry
  pub is : IsInfoOf entry info
  pub version_is : entry.version ≡ version

-- ---- watermarks

-- Whether the value is the text of one of this connector's watermarks, of an incarnation up to this one. A later session could write any
-- other text again.
pub record IsMarkOf (greatest : ℕ) (value : List ℕ) : Type 0 where
  pub incarnation : ℕ
  pub number : ℕ
  pub side : Side
  pub is : value ≡ mark_text incarnation number side
  pub not_above : incarnation ≤ greatest
  pub small : number < 2 ^ 64

-- Whether a commit's contents are no watermark, or one of this connector's up to this incarnation.
abbrev pub IsMarkedBy : ℕ → RawBody → Type 0
IsMarkedBy greatest (Changes changes) = Unit {0}
IsMarkedBy greatest (Mark value) = IsMarkOf greatest value
IsMarkedBy greatest (Alter name columns rows) = Unit {0}

-- Whether each watermark of a history is this connector's, of an incarnation up to this one.
abbrev pub AreMarksOf : ℕ → History → Type 0
AreMarksOf greatest history = AllByRecursion (λ commit. IsMarkedBy greatest commit.body) history.commits

-- ---- offsets

-- Whether an offset agrees with the history, the confirmed position and the progress in the log, for any other records of the log.
pub record IsOffsetOf (history : History) (confirmed : Lsn) (records : List Record) (offset : Offset) : Type 0 where
  -- Its start is a position of the history, and so is its LSN, which isn't below the start.
  pub start : IsPositionOf history offset.start.0
  pub lsn : (offset.lsn.0 ≡ offset.start.0) ⊎ IsCommitAt history offset.lsn.0
  pub order : offset.start.0 ≤ offset.lsn.0
  -- Each table has one stored version and one progress, which is as a record of the log reports it, or nothing was read of the table.
  pub many : (length offset.versions ≡ length offset.infos) × (length offset.cursors ≡ length offset.infos)
  pub cursors : (table : ℕ) (info : TableInfo) (version : ℕ) (cursor : Cursor) → slice_get offset.infos table ≡ Some info
      → slice_get offset.versions table ≡ Some version → slice_get offset.cursors table ≡ Some cursor
      → IsRightCursor offset.identity (versioned offset.infos history) records offset.lsn.0 table info version cursor
  -- The source has kept its log from the LSN on.
  pub confirmed_to : confirmed.0 ≤ offset.lsn.0
  -- No watermark is a later session's, nor another client's.
  pub marks : AreMarksOf offset.incarnation history
  -- The captured tables are distinct, and each is as the source described it at some point.
  pub distinct : AreDistinctTables offset.infos
  pub infos : AllZip (IsDescribedAt history) offset.infos offset.versions

-- Whether a connector can restart from the offset: it agrees with the stores, and each event after its start up to its LSN has a record in
-- the log.
pub record IsBehind (history : History) (confirmed : Lsn) (records : List Record) (offset : Offset) : Type 0 where
  pub offset_is : IsOffsetOf history confirmed records offset
  pub has_records : (number : ℕ) (event : ToldEvent)
      → slice_get (events_since offset.start.0 (versioned offset.infos history)) number ≡ Some event
      → event.event.position ≤ offset.lsn.0 → HasRecordOfEvent offset.identity records event
