-- The steps of a session, each of which keeps its log delivered.
use Rattle.std.specs.Prelude.{◌≡◌, ℕ, ℤ, ◌+◌, ◌<◌, ◌≤◌, max, true, Option, Some, None}
use Rattle.std.specs.Prelude.{List, [], ◌∷◌, ◌++◌, length, take, drop, map, slice_get}
use Rattle.std.specs.List.{AllByRecursion, AllZip}
use Rattle.dbl_record.specs.declared.record.Record.{Record}
use Rattle.dbl_record.specs.Places.{IsFresh}
use Rattle.dbl_model_table.specs.declared.identity.Identity.{Identity}
use Rattle.dbl_model_table.specs.declared.row.Key.{Key}
use Rattle.dbl_model_table.specs.declared.row.Row.{Row}
use Rattle.dbl_model_table.specs.declared.table.TableInfo.{TableInfo}
use Rattle.dbl_consume_laws.specs.ModelEvent.declared.closed.Closed.{Closed}
use Rattle.dbl_consume_laws.specs.ModelHistory.Image.{IsImage}
use Rattle.dbl_consume_laws.specs.ModelHistory.Laws.{CommitsRise}
use Rattle.dbl_consume_laws.specs.ModelHistory.Ranges.{IsMomentInRange}
use Rattle.dbl_consume_laws.specs.ModelEvent.Clashes.{snapshot_clash}
use Rattle.dbl_consume_laws.specs.ModelEvent.SnapshotLists.{IsSnapshot}
use Rattle.dbl_consume_laws.specs.ModelEvent.Snapshots.{read_record}
use Rattle.dbl_consume_laws.specs.Laws.{HoldsJsonTexts}
use Rattle.dbl_consume_laws.specs.Prints.{ReportsProgress}
use Rattle.dbl_consume_laws.specs.Ages.{held_row}
use Rattle.dbl_consume_courses.specs.Versions.{Versioned, plain_commit, version_rows, versions_to}
use Rattle.dbl_consume_courses.specs.Courses.{course, infos_after}
use Rattle.dbl_consume_courses.specs.Since.{since}
use Rattle.dbl_consume_courses.specs.AlteredTables.{AgreesInCourse}
use Rattle.dbl_consume_courses.specs.AgesBetween.{AreAgedBetween}
use Rattle.dbl_consume_courses.specs.FitVersions.{AreFitVersions}
use Rattle.dbl_faithful.specs.Agreements.{HasKeyedRows, AgreesUpTo}
use Rattle.dbl_faithful.specs.CaughtLaws.{IsWindowInCourse}
use Rattle.dbl_faithful.specs.Kinds.{is_row}
use Rattle.dbl_faithful.specs.ToldEvents.{ToldEvent, events_of_commit, events_since, IsPrint, IsClearPrint, ArePut}
use Rattle.dbl_faithful.specs.ExactLogs.{IsLogExact}
use Rattle.dbl_faithful.specs.RightSnapshots.{IsHighMark, AreSnapshotsRight}
use Rattle.dbl_faithful.specs.CaughtUp.{IsEndOf, HasDeliveredUpTo}

-- At most one list of the first commits of a history ends at a position.
abbrev pub PositionsEndOnce : Type 0
PositionsEndOnce = (versions a b x y : List Versioned) (position : ℕ) → CommitsRise (map plain_commit versions) → versions ≡ a ++ x
    → versions ≡ b ++ y → IsEndOf position a → IsEndOf position b → a ≡ b

-- ---- the beginning

-- The empty log is delivered up to the start.
abbrev pub StartsAreCaughtUp : Type 0
StartsAreCaughtUp = (identity : Identity) (infos : List TableInfo) (versions before later : List Versioned) (start far : ℕ)
    → AreFitVersions infos versions → versions ≡ before ++ later → IsEndOf start before
    → HasDeliveredUpTo identity infos versions start start start far before later 0 []

-- A log that has all records of the commits after the start and before these, and is aged from their last position, is delivered up to
-- them, for any records of later commits.
abbrev pub PutLogsAreCaughtUp : Type 0
PutLogsAreCaughtUp = (identity : Identity) (infos : List TableInfo) (versions before later : List Versioned) (start low far : ℕ)
    (records : List Record)
    → AreFitVersions infos versions → versions ≡ before ++ later → AllByRecursion (λ v. v.lsn.0 ≤ low) before
    → AllByRecursion (λ v. low < v.lsn.0) later → start ≤ low
    → ArePut identity records (events_since start before)
    → AreAgedBetween identity infos versions start records low low
    → AgreesInCourse identity infos versions start records → HasKeyedRows identity infos records
    → IsLogExact identity versions start records
    → AreSnapshotsRight identity versions (events_since start versions) records
    → AllByRecursion (λ item. start ≤ item.position) records → AllByRecursion (λ item. item.position ≤ far) records
    → HasDeliveredUpTo identity infos versions start low low far before later 0 records

-- ---- records

-- Appending further records of the next commit, each made at its own time, keeps the log delivered.
abbrev pub SentRecordsAreCaughtUp : Type 0
SentRecordsAreCaughtUp = (identity : Identity) (infos : List TableInfo) (versions before : List Versioned) (v : Versioned)
    (later : List Versioned) (start low high far sent : ℕ) (records more : List Record)
    → AllZip (IsClearPrint identity) (take (length more) (drop sent (events_of_commit v))) more
    → HasDeliveredUpTo identity infos versions start low high far before (v ∷ later) sent records
    → HasDeliveredUpTo identity infos versions start low high (max far v.lsn.0) before (v ∷ later) (sent + length more)
    (records ++ more)

-- Once all records of the next commit were sent, the log is delivered up to that commit. An alteration has none.
abbrev pub CommitsAreCaughtUp : Type 0
CommitsAreCaughtUp = (identity : Identity) (infos : List TableInfo) (versions before : List Versioned) (v : Versioned)
    (later : List Versioned) (start low high far sent : ℕ) (records : List Record)
    → sent ≡ length (events_of_commit v)
    → HasDeliveredUpTo identity infos versions start low high far before (v ∷ later) sent records
    → HasDeliveredUpTo identity infos versions start low v.lsn.0 far (before ++ v ∷ []) later 0 records

-- Appending a prefix of the records of the next window, which is right at its high watermark in its table's course and after every record,
-- keeps the log delivered.
abbrev pub SnapshotsAreCaughtUp : Type 0
SnapshotsAreCaughtUp = (identity : Identity) (infos : List TableInfo) (versions before : List Versioned) (mark : Versioned)
    (later : List Versioned) (start low high far begun : ℕ) (above : Option Key) (closed : Closed) (records snapshot : List Record)
    (now : ℤ) (n : ℕ)
    → IsHighMark (plain_commit mark) → far < mark.lsn.0 → IsMomentInRange now
    → IsSnapshot identity mark.infos closed (plain_commit mark) now snapshot → snapshot_clash identity mark.infos closed ≡ None
    → IsWindowInCourse identity infos versions start records mark begun above closed
    → HasDeliveredUpTo identity infos versions start low high far before (mark ∷ later) 0 records
    → HasDeliveredUpTo identity infos versions start low mark.lsn.0 mark.lsn.0 (before ++ mark ∷ []) later 0 (records ++ take n snapshot)

-- ---- other clients

-- An extension of the history by commits after every record and after the delivered position keeps the log delivered; they may alter
-- tables.
abbrev pub LongerHistoriesAreCaughtUp : Type 0
LongerHistoriesAreCaughtUp = (identity : Identity) (infos : List TableInfo) (versions before later more : List Versioned)
    (start low high far sent : ℕ) (records : List Record)
    → AreFitVersions infos (versions ++ more)
    → AllByRecursion (λ v. (far < v.lsn.0) × (high < v.lsn.0)) more
    → HasDeliveredUpTo identity infos versions start low high far before later sent records
    → HasDeliveredUpTo identity infos (versions ++ more) start low high far before (later ++ more) sent records

-- ---- the log when a session stops

-- From each position between that of the offset and the delivered one, a delivered log satisfies the requirements of the stores.
abbrev pub CaughtUpLogsAreRight : Type 0
CaughtUpLogsAreRight = (identity : Identity) (infos : List TableInfo) (versions before later : List Versioned)
    (start low high far sent : ℕ) (records : List Record)
    → HasDeliveredUpTo identity infos versions start low high far before later sent records
    → AgreesUpTo identity infos versions start records low high × IsLogExact identity versions start records
    × AreSnapshotsRight identity versions (events_since start versions) records

-- A delivered log has a record of each event of the delivered commits, so that an offset may be at any of them.
abbrev pub DeliveredEventsArePut : Type 0
DeliveredEventsArePut = (identity : Identity) (infos : List TableInfo) (versions before later : List Versioned)
    (start low high far sent : ℕ) (records : List Record)
    → HasDeliveredUpTo identity infos versions start low high far before later sent records
    → ArePut identity records (events_since start before)

-- ---- in terms of a consumer

-- Whether the record is of a row that a snapshot read, at a high watermark of these commits, and the row is the source's at that position.
pub record IsSourceRow (identity : Identity) (versions : List Versioned) (item : Record) : Type 0 where
  pub table : ℕ
  pub mark : Versioned
  pub number : ℕ
  pub stands : slice_get versions number ≡ Some mark
  pub info : TableInfo
  pub captured : slice_get mark.infos table ≡ Some info
  pub entry : Key × Row
  pub is_high : IsHighMark (plain_commit mark)
  pub now : ℤ
  pub printed : item ≡ read_record identity info (plain_commit mark) now item.ordinal entry
  pub right : version_rows (versions_to item.position versions) table entry.0 ≡ Some entry.1.cells

-- Whether a record of the event is before this index.
pub record IsPutAhead (identity : Identity) (records : List Record) (place : ℕ) (event : ToldEvent) : Type 0 where
  pub earlier : ℕ
  pub first : Record
  pub before : earlier < place
  pub stands : slice_get records earlier ≡ Some first
  pub is : IsPrint identity event first

-- No snapshot's row overwrites a later change: each is fresh, is the source's row at its own position, and follows a record of each event
-- above the start and below that position.
abbrev pub SnapshotRowsOverwriteNothing : Type 0
SnapshotRowsOverwriteNothing = (identity : Identity) (infos : List TableInfo) (versions : List Versioned) (start : ℕ)
    (records : List Record) (place : ℕ) (item : Record)
    → AreFitVersions infos versions → IsLogExact identity versions start records
    → AreSnapshotsRight identity versions (events_since start versions) records
    → slice_get records place ≡ Some item → is_row item ≡ true
    → IsFresh records place × IsSourceRow identity versions item
    × ((number : ℕ) (event : ToldEvent) → slice_get (events_since start versions) number ≡ Some event
    → event.event.position < item.position → IsPutAhead identity records place event)

-- Whether some record since a table's last alteration reports that the snapshot of this table is done.
pub record IsDone (identity : Identity) (infos : List TableInfo) (versions : List Versioned) (start position : ℕ)
    (records : List Record) (table : ℕ) (info : TableInfo) : Type 0 where
  pub place : ℕ
  pub item : Record
  pub stands : slice_get (since (course infos versions start table position).start records) place ≡ Some item
  pub through : Option Key
  pub reports : ReportsProgress identity info item through true

-- If a log is delivered up to a position, has no record after it, and every snapshot is done since its table's last alteration, a consumer
-- has the image of the source's rows there, in the columns in force there.
abbrev pub CompleteLogsAreImages : Type 0
CompleteLogsAreImages = (identity : Identity) (infos : List TableInfo) (versions before later : List Versioned)
    (start low high far sent : ℕ) (records : List Record) (topic text : List ℕ) (image : Option (List ℕ → Option (List ℕ)))
    → HasDeliveredUpTo identity infos versions start low high far before later sent records → far ≤ high
    → ((table : ℕ) (info : TableInfo) → slice_get (infos_after infos before) table ≡ Some info
    → IsDone identity infos versions start high records table info)
    → IsImage identity (infos_after infos before) (version_rows before) topic text image
    → HoldsJsonTexts (held_row identity records topic text) image
