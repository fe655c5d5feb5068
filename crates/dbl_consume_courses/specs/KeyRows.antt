-- The rows that a consumer of a whole log has of an altered table: each is at a key of the table and has a cell in each key column, so that
-- a row and no row are told apart by their cells.
use Rattle.std.specs.Prelude.{◌≡◌, ◌↔◌, ℕ, ℤ, Some, IsSome, List, [], ◌∷◌, ◌++◌, take, slice_get}
use Rattle.std.specs.List.{AllByRecursion}
use Rattle.dbl_record.specs.declared.record.Record.{Record}
use Rattle.dbl_record.specs.Consumers.{HeldCells, held_at}
use Rattle.dbl_model_table.specs.declared.identity.Identity.{Identity}
use Rattle.dbl_model_table.specs.declared.row.Key.{Key}
use Rattle.dbl_model_table.specs.declared.table.TableInfo.{TableInfo}
use Rattle.dbl_model_table.specs.Infos.{key_names, topic_of}
use Rattle.dbl_model_table.specs.Rows.{rows}
use Rattle.dbl_model_history.specs.Image.{Names}
use Rattle.dbl_model_history.specs.Ranges.{IsMomentInRange}
use Rattle.dbl_model_history.specs.WholeChanges.{IsTouched}
use Rattle.dbl_model_event.specs.declared.closed.Closed.{Closed}
use Rattle.dbl_model_event.specs.EventJson.{envelopes}
use Rattle.dbl_model_event.specs.SnapshotLists.{IsSnapshot}
use Rattle.dbl_consume_laws.specs.Ages.{held_row}
use Rattle.dbl_consume_courses.specs.Versions.{Versioned, plain_commit}
use Rattle.dbl_consume_courses.specs.AlteredTables.{course_changes, IsKnownIn, IsTableAged}
use Rattle.dbl_consume_courses.specs.FitVersions.{AreFitVersions}
use Rattle.dbl_consume_courses.specs.Growth.{course_of, own_span_end}
use Rattle.dbl_consume_courses.specs.CourseAges.{own_from}

-- Whether a row is at the topic and text of a key of the table, and has a cell in each of the table's key columns.
pub record IsRowOfKey (identity : Identity) (infos : List TableInfo) (table : ℕ) (topic text : List ℕ) (cells : HeldCells) : Type 0 where
  pub key : Key
  pub names : Names identity infos topic text table key
  pub columns : AllByRecursion (λ column. IsSome (held_at (Some cells) column)) (key_names names.info)

-- Whether each row of a consumer in a table's topic is so; its other columns may be those before an alteration.
pub record HasRowsOfKeys (identity : Identity) (infos : List TableInfo) (records : List Record) (table : ℕ) : Type 0 where
  pub each : (info : TableInfo) → slice_get infos table ≡ Some info → (text : List ℕ) (cells : HeldCells)
      → held_row identity records (topic_of identity info) text ≡ Some cells
      → IsRowOfKey identity infos table (topic_of identity info) text cells

-- A consumer of no records has no row.
abbrev pub NoRecordsHaveRowsOfKeys : Type 0
NoRecordsHaveRowsOfKeys = (identity : Identity) (infos : List TableInfo) (table : ℕ) → HasRowsOfKeys identity infos [] table

-- Any prefix of a commit's records leaves it so.
abbrev pub PartsOfCommitsKeepRowsOfKeys : Type 0
PartsOfCommitsKeepRowsOfKeys = (identity : Identity) (infos : List TableInfo) (versions earlier : List Versioned) (v : Versioned)
    (later : List Versioned) (table : ℕ) (records : List Record) (now : ℤ) (n : ℕ)
    → AreFitVersions infos versions → versions ≡ earlier ++ v ∷ later → IsMomentInRange now → HasRowsOfKeys identity infos records table
    → HasRowsOfKeys identity infos (records ++ take n (envelopes identity v.infos (plain_commit v) now)) table

-- Any prefix of a window's records leaves it so.
abbrev pub PartsOfSnapshotsKeepRowsOfKeys : Type 0
PartsOfSnapshotsKeepRowsOfKeys = (identity : Identity) (infos : List TableInfo) (versions earlier : List Versioned) (mark : Versioned)
    (later : List Versioned) (table : ℕ) (closed : Closed) (records snapshot : List Record) (now : ℤ) (n : ℕ)
    → AreFitVersions infos versions → versions ≡ earlier ++ mark ∷ later → IsMomentInRange now
    → IsSnapshot identity mark.infos closed (plain_commit mark) now snapshot → HasRowsOfKeys identity infos records table
    → HasRowsOfKeys identity infos (records ++ take n snapshot) table

-- At a key that is known at the end of the span in a table's course, and for which no change of the span is whole, a consumer of the whole
-- log has a row exactly if the source has one at the span's end.
abbrev pub AlteredTablesHaveRows : Type 0
AlteredTablesHaveRows = (identity : Identity) (infos : List TableInfo) (versions shown : List Versioned) (start table position : ℕ)
    (records : List Record)
    → AreFitVersions infos shown → IsTableAged identity (course_of infos start table shown) versions records position table
    → HasRowsOfKeys identity infos records table
    → (topic text : List ℕ) (key : Key) → Names identity (course_of infos start table shown).infos topic text table key
    → IsKnownIn identity (course_of infos start table shown) records
    (own_span_end (course_of infos start table shown) records (own_from (course_of infos start table shown) position)) table key
    → ¬ IsTouched (course_of infos start table shown).infos (course_changes (course_of infos start table shown))
    (own_from (course_of infos start table shown) position)
    (own_span_end (course_of infos start table shown) records (own_from (course_of infos start table shown) position)) table key
    → IsSome (held_row identity records topic text)
    ↔ IsSome (rows (course_of infos start table shown).infos (course_of infos start table shown).commits
    (own_span_end (course_of infos start table shown) records (own_from (course_of infos start table shown) position)) table key)
