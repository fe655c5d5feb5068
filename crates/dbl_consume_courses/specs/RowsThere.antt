-- That each row of a consumer of a whole log was in the source within a span, in whatever columns, as records are delivered.
use Rattle.std.specs.Prelude.{◌≡◌, ℕ, ℤ, ◌<◌, ◌≤◌, IsSome, List, [], ◌∷◌, ◌++◌, take, map}
use Rattle.std.specs.List.{AllByRecursion}
use Rattle.dbl_record.specs.declared.record.Record.{Record}
use Rattle.dbl_model_table.specs.declared.identity.Identity.{Identity}
use Rattle.dbl_model_table.specs.declared.row.Key.{Key}
use Rattle.dbl_model_table.specs.declared.table.TableInfo.{TableInfo}
use Rattle.dbl_model_table.specs.Rows.{no_rows}
use Rattle.dbl_model_history.specs.Image.{Names}
use Rattle.dbl_model_history.specs.Ranges.{IsMomentInRange}
use Rattle.dbl_model_event.specs.declared.closed.Closed.{Closed}
use Rattle.dbl_model_event.specs.EventJson.{envelopes}
use Rattle.dbl_model_event.specs.SnapshotLists.{IsSnapshot}
use Rattle.dbl_consume_laws.specs.Ages.{held_row}
use Rattle.dbl_consume_laws.specs.Commits.{moment_after}
use Rattle.dbl_consume_courses.specs.Versions.{Versioned, plain_commit, rows_upto}
use Rattle.dbl_consume_courses.specs.AlteredTables.{version_span_end, WasThereThrough}
use Rattle.dbl_consume_courses.specs.FitVersions.{AreFitVersions}

-- The number of changes of commits.
abbrev pub changes_in : List Versioned → ℕ
changes_in versions = moment_after (map plain_commit versions)

-- Whether each row of a table that a consumer of a whole log has was in the source at some point of the span from a point on. The table is
-- named by its name and key, which no alteration changes.
pub record HasRowsThere (identity : Identity) (infos : List TableInfo) (versions : List Versioned) (records : List Record)
    (from table : ℕ) : Type 0 where
  pub each : (topic text : List ℕ) (key : Key) → Names identity infos topic text table key → IsSome (held_row identity records topic text)
      → WasThereThrough versions from (version_span_end versions records from) table key

-- A consumer of no records has no row.
abbrev pub NoRecordsHaveRows : Type 0
NoRecordsHaveRows = (identity : Identity) (infos : List TableInfo) (versions : List Versioned) (from table : ℕ)
    → HasRowsThere identity infos versions [] from table

-- With all records of a commit, each row that was in the source from before the commit on was there from after it on.
abbrev pub CommitsMoveRowsThere : Type 0
CommitsMoveRowsThere = (identity : Identity) (infos : List TableInfo) (versions earlier : List Versioned) (v : Versioned)
    (later : List Versioned) (records : List Record) (now : ℤ) (table : ℕ)
    → AreFitVersions infos versions → versions ≡ earlier ++ v ∷ later → IsMomentInRange now
    → HasRowsThere identity infos versions records (changes_in earlier) table
    → HasRowsThere identity infos versions (records ++ envelopes identity v.infos (plain_commit v) now) (changes_in (earlier ++ v ∷ []))
    table

-- Any prefix of a commit's records leaves it so, of a log that reaches the commit's start.
abbrev pub PartsOfCommitsKeepRowsThere : Type 0
PartsOfCommitsKeepRowsThere = (identity : Identity) (infos : List TableInfo) (versions earlier : List Versioned) (v : Versioned)
    (later : List Versioned) (from : ℕ) (records : List Record) (now : ℤ) (n table : ℕ)
    → AreFitVersions infos versions → versions ≡ earlier ++ v ∷ later → IsMomentInRange now
    → from ≤ changes_in earlier → changes_in earlier ≤ version_span_end versions records from
    → HasRowsThere identity infos versions records from table
    → HasRowsThere identity infos versions (records ++ take n (envelopes identity v.infos (plain_commit v) now)) from table

-- With any prefix of the records of a window whose rows are in the source at its high watermark it stays so from there on.
abbrev pub PartsOfSnapshotsKeepRowsThere : Type 0
PartsOfSnapshotsKeepRowsThere = (identity : Identity) (infos : List TableInfo) (versions earlier : List Versioned) (mark : Versioned)
    (later : List Versioned) (closed : Closed) (records snapshot : List Record) (now : ℤ) (n : ℕ)
    → AreFitVersions infos versions → versions ≡ earlier ++ mark ∷ later → IsMomentInRange now
    → IsSnapshot identity mark.infos closed (plain_commit mark) now snapshot
    → AllByRecursion (λ entry. IsSome (rows_upto no_rows versions (changes_in earlier) closed.table entry.0)) closed.rows
    → HasRowsThere identity infos versions records (changes_in earlier) closed.table
    → HasRowsThere identity infos versions (records ++ take n snapshot) (changes_in earlier) closed.table

-- Rows that were in the source within the span from a point on, which the records reach, were so from each earlier point on.
abbrev pub RowsThereGoBack : Type 0
RowsThereGoBack = (identity : Identity) (infos : List TableInfo) (versions : List Versioned) (records : List Record) (from to table : ℕ)
    → from ≤ to → to ≤ version_span_end versions records from
    → HasRowsThere identity infos versions records to table → HasRowsThere identity infos versions records from table

-- Later commits, after every record, leave it so; they may alter tables.
abbrev pub RowsThereStayAsHistoriesGrow : Type 0
RowsThereStayAsHistoriesGrow = (identity : Identity) (infos : List TableInfo) (versions later : List Versioned) (records : List Record)
    (from table : ℕ)
    → AreFitVersions infos (versions ++ later)
    → AllByRecursion (λ item. AllByRecursion (λ v. item.position < v.lsn.0) later) records
    → from ≤ changes_in versions
    → HasRowsThere identity infos versions records from table → HasRowsThere identity infos (versions ++ later) records from table
