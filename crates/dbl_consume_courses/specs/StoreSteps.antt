-- How agreement at first delivery and stored progress go on as records are appended and as the history grows, where tables may be altered.
use Rattle.std.specs.Prelude.{◌≡◌, ℕ, ◌+◌, ◌<◌, ◌≤◌, true, Some, List, [], ◌∷◌, ◌++◌, length, take, slice_get}
use Rattle.std.specs.List.{AllByRecursion}
use Rattle.dbl_record.specs.declared.record.Record.{Record}
use Rattle.dbl_record.specs.Places.{IsFresh}
use Rattle.dbl_model_table.specs.declared.identity.Identity.{Identity}
use Rattle.dbl_model_table.specs.declared.table.TableInfo.{TableInfo}
use Rattle.dbl_model_history.specs.declared.cursor.Cursor.{Cursor}
use Rattle.dbl_consume_laws.specs.Prints.{ReportsProgress}
use Rattle.dbl_consume_courses.specs.Versions.{Versioned}
use Rattle.dbl_consume_courses.specs.AlteredTables.{AgreesInCourse, IsAgedFrom}
use Rattle.dbl_consume_courses.specs.FitVersions.{AreFitVersions}
use Rattle.dbl_consume_courses.specs.KeyRows.{HasRowsOfKeys}
use Rattle.dbl_consume_courses.specs.VersionStores.{version_to, IsCursorOf}

-- A log that agrees at each first delivery still does with more records if it is aged, up to each fresh one of them that is the last of its
-- commit, from that one's position, and each of its rows is at a key.
abbrev pub AgreementGoesOn : Type 0
AgreementGoesOn = (identity : Identity) (infos : List TableInfo) (versions : List Versioned) (start : ℕ) (records more : List Record)
    → AreFitVersions infos versions → AgreesInCourse identity infos versions start records
    → ((i : ℕ) (item : Record) → length records ≤ i → slice_get (records ++ more) i ≡ Some item → IsFresh (records ++ more) i
    → item.last ≡ true → (table : ℕ) → IsAgedFrom identity infos versions start (take (i + 1) (records ++ more)) item.position table)
    → ((i table : ℕ) → HasRowsOfKeys identity infos (take i (records ++ more)) table)
    → AgreesInCourse identity infos versions start (records ++ more)

-- Stored progress stays that of a record of the log with more records that don't lie before it.
abbrev pub CursorsStayWithMoreRecords : Type 0
CursorsStayWithMoreRecords = (identity : Identity) (versions : List Versioned) (records more : List Record) (lsn table : ℕ)
    (info : TableInfo) (version : ℕ) (cursor : Cursor)
    → AllByRecursion (λ item. lsn ≤ item.position) more
    → IsCursorOf identity versions records lsn table info version cursor
    → IsCursorOf identity versions (records ++ more) lsn table info version cursor

-- It stays so at a later position.
abbrev pub CursorsStayAtLaterPositions : Type 0
CursorsStayAtLaterPositions = (identity : Identity) (versions : List Versioned) (records : List Record) (lsn later table : ℕ)
    (info : TableInfo) (version : ℕ) (cursor : Cursor)
    → lsn ≤ later → IsCursorOf identity versions records lsn table info version cursor
    → IsCursorOf identity versions records later table info version cursor

-- It stays so in a longer history whose new commits, which may alter the table, are after the position.
abbrev pub CursorsStayAsHistoriesGrow : Type 0
CursorsStayAsHistoriesGrow = (identity : Identity) (versions more : List Versioned) (records : List Record) (lsn table : ℕ)
    (info : TableInfo) (version : ℕ) (cursor : Cursor)
    → AllByRecursion (λ v. lsn < v.lsn.0) more
    → IsCursorOf identity versions records lsn table info version cursor
    → IsCursorOf identity (versions ++ more) records lsn table info version cursor

-- A progress record that is appended is the table's progress in the table's version at its position.
abbrev pub ReportsAreCursors : Type 0
ReportsAreCursors = (identity : Identity) (versions : List Versioned) (records : List Record) (item : Record) (table : ℕ)
    (info : TableInfo) (cursor : Cursor)
    → ReportsProgress identity info item cursor.last cursor.done
    → IsCursorOf identity versions (records ++ item ∷ []) item.position table info (version_to versions table item.position) cursor
