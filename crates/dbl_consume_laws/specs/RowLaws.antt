-- What aged cells mean for whole rows.
use Rattle.std.specs.Prelude.{◌≡◌, ◌⊎◌, ℕ, ℤ, ◌≤◌, Some, None, IsSome, Contains, List, [], ◌∷◌, ◌++◌, take}
use Rattle.std.specs.List.{AllByRecursion}
use Rattle.dbl_record.specs.declared.acts.HeldCell.TheVariants.{Known, Unknown}
use Rattle.dbl_record.specs.declared.record.Record.{Record}
use Rattle.dbl_model_table.specs.declared.identity.Identity.{Identity}
use Rattle.dbl_model_table.specs.declared.row.Key.{Key}
use Rattle.dbl_model_table.specs.declared.table.TableInfo.{TableInfo}
use Rattle.dbl_model_table.specs.declared.change.Commit.{Commit}
use Rattle.dbl_model_event.specs.declared.closed.Closed.{Closed}
use Rattle.dbl_model_table.specs.Rows.{all_changes, rows}
use Rattle.dbl_model_history.specs.Ranges.{IsCommitInRange, IsMomentInRange}
use Rattle.dbl_model_history.specs.Image.{Names, image_row}
use Rattle.dbl_model_event.specs.SnapshotLists.{IsSnapshot}
use Rattle.dbl_consume_laws.specs.Commits.{AreFitCommits, IsCommitAmong}
use Rattle.dbl_consume_laws.specs.Laws.{HoldsJsonTexts}
use Rattle.dbl_consume_laws.specs.Moments.{last_moment, span_end}
use Rattle.dbl_consume_laws.specs.KnownKeys.{IsKnown}
use Rattle.dbl_consume_laws.specs.Ages.{held_row, held_cell, source_cell, HadValueWithin, IsAged, HasNamedRows}
use Rattle.dbl_consume_laws.specs.ChangeLaws.{IsRecordOf}

-- Whether the source has no row at a table and key at some point of a span.
pub record WasAbsent (infos : List TableInfo) (commits : List Commit) (from to : ℕ) (table : ℕ) (key : Key) : Type 0 where
  pub moment : ℕ
  pub not_before : from ≤ moment
  pub not_after : moment ≤ to
  pub absent : rows infos commits moment table key ≡ None

-- A known key whose row a consumer of aged records lacks, or in whose row it has an unknown cell, has no row at some point of the span.
abbrev pub LackedRowsWereAbsent : Type 0
LackedRowsWereAbsent = (identity : Identity) (infos : List TableInfo) (commits : List Commit) (start from : ℕ)
    (records : List Record) (topic text : List ℕ) (table : ℕ) (key : Key)
    → AreFitCommits infos commits → IsAged identity infos commits start records from
    → Names identity infos topic text table key
    → IsKnown identity infos (all_changes commits) start records (span_end infos commits start records from) table key
    → (held_row identity records topic text ≡ None)
    ⊎ ((column : List ℕ) × (held_cell identity records topic text column ≡ Some Unknown))
    → WasAbsent infos commits from (span_end infos commits start records from) table key

-- Whether the source has a row at a table and key at some point of a span.
pub record WasThere (infos : List TableInfo) (commits : List Commit) (from to : ℕ) (table : ℕ) (key : Key) : Type 0 where
  pub moment : ℕ
  pub not_before : from ≤ moment
  pub not_after : moment ≤ to
  pub present : IsSome (rows infos commits moment table key)

-- A row in which a consumer of aged records has an unknown cell was in the source at some point of the span.
abbrev pub UnknownRowsWereThere : Type 0
UnknownRowsWereThere = (identity : Identity) (infos : List TableInfo) (commits : List Commit) (start from : ℕ)
    (records : List Record) (topic text : List ℕ) (table : ℕ) (key : Key) (column : List ℕ)
    → IsAged identity infos commits start records from → Names identity infos topic text table key
    → held_cell identity records topic text column ≡ Some Unknown
    → WasThere infos commits from (span_end infos commits start records from) table key

-- Each known cell of a consumer of aged records is that cell of the source at some point of the span.
abbrev pub KnownCellsWereSo : Type 0
KnownCellsWereSo = (identity : Identity) (infos : List TableInfo) (commits : List Commit) (start from : ℕ)
    (records : List Record) (topic key_text : List ℕ) (table : ℕ) (key : Key) (column text : List ℕ)
    → IsAged identity infos commits start records from → Names identity infos topic key_text table key
    → held_cell identity records topic key_text column ≡ Some (Known text)
    → HadValueWithin (source_cell infos (all_changes commits) table key column) from (span_end infos commits start records from)
    (Some text)

-- ---- each row of a consumer is at a captured table and key, and has a cell in each of its columns

-- With any records of a commit's events each row of a consumer stays named.
abbrev pub EventsKeepNames : Type 0
EventsKeepNames = (identity : Identity) (infos : List TableInfo)
    (commits before : List Commit) (commit : Commit) (later : List Commit) (records more : List Record)
    → IsCommitAmong infos commits before commit later → AllByRecursion (IsRecordOf identity infos commit) more
    → HasNamedRows identity infos records → HasNamedRows identity infos (records ++ more)

-- With any prefix of a closed window's records each row of a consumer stays named.
abbrev pub SnapshotsKeepNames : Type 0
SnapshotsKeepNames = (identity : Identity) (infos : List TableInfo) (closed : Closed) (mark : Commit) (now : ℤ)
    (records snapshot : List Record) (n : ℕ)
    → IsCommitInRange mark → IsMomentInRange now → IsSnapshot identity infos closed mark now snapshot
    → HasNamedRows identity infos records → HasNamedRows identity infos (records ++ take n snapshot)

-- A consumer of no records has no row.
abbrev pub NoRecordsAreNamed : Type 0
NoRecordsAreNamed = (identity : Identity) (infos : List TableInfo) → HasNamedRows identity infos []

-- Whether the record is that of an event of some commit of a history.
pub record IsRecordOfSome (identity : Identity) (infos : List TableInfo) (commits : List Commit) (item : Record) : Type 0 where
  pub before : List Commit
  pub commit : Commit
  pub later : List Commit
  pub spelled : commits ≡ before ++ commit ∷ later
  pub is : IsRecordOf identity infos commit item

-- Whether the record is one of a closed window's, delivered at some watermark.
pub record IsRecordOfWindow (identity : Identity) (infos : List TableInfo) (item : Record) : Type 0 where
  pub closed : Closed
  pub mark : Commit
  pub mark_in_range : IsCommitInRange mark
  pub now : ℤ
  pub now_in_range : IsMomentInRange now
  pub snapshot : List Record
  pub listed : IsSnapshot identity infos closed mark now snapshot
  pub stands : Contains snapshot item

-- Whether each record is of an event of the history or of a closed window, as in a log that is exact and whose snapshots are right.
abbrev pub AreRecordsOf : Identity → List TableInfo → List Commit → List Record → Type 0
AreRecordsOf identity infos commits records =
    AllByRecursion (λ item. IsRecordOfSome identity infos commits item ⊎ IsRecordOfWindow identity infos item) records

-- With such records, in any order and number, each row of a consumer is named.
abbrev pub RecordsOfHistoriesAreNamed : Type 0
RecordsOfHistoriesAreNamed = (identity : Identity) (infos : List TableInfo) (commits : List Commit) (records : List Record)
    → AreFitCommits infos commits → AreRecordsOf identity infos commits records → HasNamedRows identity infos records

-- If such records are aged at a point in the history and reach no later one, a consumer has the source's row at each known key.
abbrev pub RecordsOfHistoriesAgree : Type 0
RecordsOfHistoriesAgree = (identity : Identity) (infos : List TableInfo) (commits : List Commit) (start moment : ℕ)
    (records : List Record) (topic text : List ℕ) (table : ℕ) (key : Key)
    → AreFitCommits infos commits → AreRecordsOf identity infos commits records
    → IsAged identity infos commits start records moment → last_moment infos commits start records ≤ moment
    → Names identity infos topic text table key → IsKnown identity infos (all_changes commits) start records moment table key
    → HoldsJsonTexts (held_row identity records topic text) (image_row infos (rows infos commits moment) table key)

-- The empty list of records is aged at the start.
abbrev pub NoRecordsAreAged : Type 0
NoRecordsAreAged = (identity : Identity) (infos : List TableInfo) (commits : List Commit) (start : ℕ)
    → IsAged identity infos commits start [] start
