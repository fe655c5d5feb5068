-- Why two definitions are as strong as they are.
use Rattle.std.specs.Prelude.{◌≡◌, ℕ, ℤ, ◌<◌, ◌≤◌, false, Option, Some, None, List, [], ◌∷◌, ◌++◌, length, take, map, slice_get}
use Rattle.std.specs.List.{AllByRecursion}
use Rattle.dbl_record.specs.declared.record.Record.{Record}
use Rattle.dbl_record.specs.Consumers.{held_at}
use Rattle.dbl_record.specs.Places.{IsFresh}
use Rattle.dbl_model_table.specs.declared.identity.Identity.{Identity}
use Rattle.dbl_model_table.specs.declared.row.Key.{Key}
use Rattle.dbl_model_table.specs.declared.row.Row.{Row}
use Rattle.dbl_model_table.specs.declared.table.TableInfo.{TableInfo}
use Rattle.dbl_model_table.specs.declared.change.Change.TheVariants.{Insert}
use Rattle.dbl_consume_laws.specs.ModelEvent.declared.closed.Closed.{Closed}
use Rattle.dbl_model_table.specs.Rows.{changes_of, all_changes}
use Rattle.dbl_consume_laws.specs.ModelHistory.Ranges.{IsMomentInRange}
use Rattle.dbl_consume_laws.specs.ModelEvent.Clashes.{snapshot_clash}
use Rattle.dbl_consume_laws.specs.ModelEvent.SnapshotLists.{IsSnapshot}
use Rattle.dbl_consume_laws.specs.Laws.{HoldsJsonTexts}
use Rattle.dbl_consume_laws.specs.Commits.{moment_after}
use Rattle.dbl_consume_laws.specs.Windows.{IsRightWindow}
use Rattle.dbl_consume_courses.specs.Versions.{Versioned, plain_commit}
use Rattle.dbl_consume_courses.specs.AlteredTables.{AgreesInCourse, IsAgedFrom}
use Rattle.dbl_consume_courses.specs.FitVersions.{AreFitVersions}
use Rattle.dbl_consume_courses.specs.PlainAges.{ArePlain}
use Rattle.dbl_consume_courses.specs.VersionStores.{HasWindowAt}
use Rattle.dbl_faithful.specs.Agreements.{HasKeyedRows}
use Rattle.dbl_faithful.specs.Kinds.{is_change_record}
use Rattle.dbl_faithful.specs.ToldEvents.{events_of_commit, IsAmong}
use Rattle.dbl_faithful.specs.ExactLogs.{IsLogExact}
use Rattle.dbl_faithful.specs.RightSnapshots.{IsHighMark}
use Rattle.dbl_faithful.specs.CaughtUp.{IsEndOf}

-- A row without cells agrees by its cells with a source that has no row, although the rows differ.
abbrev pub CellsMissEmptyRows : Type 0
CellsMissEmptyRows = ((column : List ℕ) → held_at (Some []) column ≡ held_at None column) × (HoldsJsonTexts (Some []) None → ⊥)

-- ---- why a right snapshot has all earlier events before it

-- A torn window: after the start come a commit without changes, one that inserts a row, and a high watermark. The log has first rows of the
-- window that is right there, and no record of the insert. No table is altered.
pub record IsTornWindow (identity : Identity) (infos : List TableInfo) (versions : List Versioned) (start : ℕ) (late : Versioned)
    (records : List Record) : Type 0 where
  pub plain : ArePlain versions
  pub before : List Versioned
  pub low : Versioned
  pub mark : Versioned
  pub later : List Versioned
  pub spelled : versions ≡ before ++ low ∷ late ∷ mark ∷ later
  pub ends : IsEndOf start before
  pub low_is : changes_of (plain_commit low) ≡ []
  pub table : ℕ
  pub row : Row
  pub late_is : changes_of (plain_commit late) ≡ Insert table row ∷ []
  pub is_high : IsHighMark (plain_commit mark)
  pub above : Option Key
  pub closed : Closed
  pub right : IsRightWindow infos (all_changes (map plain_commit versions)) (moment_after (map plain_commit (before ++ low ∷ [])))
      (moment_after (map plain_commit (before ++ low ∷ late ∷ []))) above closed
  pub now : ℤ
  pub in_range : IsMomentInRange now
  pub snapshot : List Record
  pub listed : IsSnapshot identity infos closed (plain_commit mark) now snapshot
  pub clear : snapshot_clash identity infos closed ≡ None
  pub count : ℕ
  pub some : 0 < count
  pub no_progress : count ≤ length closed.rows
  pub front : records ≡ take count snapshot

-- Whether a log whose offset is at its start satisfies all requirements of stores except that the events before a snapshot's row are in it.
pub record MeetsAllElse (identity : Identity) (infos : List TableInfo) (versions : List Versioned) (start : ℕ)
    (records : List Record) : Type 0 where
  pub late : AllByRecursion (λ item. start ≤ item.position) records
  pub agrees : AgreesInCourse identity infos versions start records
  pub exact : IsLogExact identity versions start records
  pub aged : (table : ℕ) → IsAgedFrom identity infos versions start records start table
  pub keyed : HasKeyedRows identity infos records
  pub fresh : (place : ℕ) (item : Record) → slice_get records place ≡ Some item → is_change_record item ≡ false → IsFresh records place
  pub windows : (place : ℕ) (item : Record) → slice_get records place ≡ Some item → is_change_record item ≡ false
      → HasWindowAt identity versions records item.position

-- A log with a torn window satisfies all other requirements, but after a session delivers the insert no record of it leaves the log exact.
abbrev pub TornWindowsAreSpoilt : Type 0
TornWindowsAreSpoilt = (identity : Identity) (infos : List TableInfo) (versions : List Versioned) (start : ℕ) (late : Versioned)
    (records : List Record)
    → AreFitVersions infos versions → IsTornWindow identity infos versions start late records
    → MeetsAllElse identity infos versions start records
    × ((item : Record) → IsAmong identity (events_of_commit late) item
    → IsLogExact identity versions start (records ++ item ∷ []) → ⊥)
