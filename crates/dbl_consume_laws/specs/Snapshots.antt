-- The effects of a snapshot's records on a consumer.
use Rattle.std.specs.Prelude.{◌≡◌, ◌≢◌, ◌⊎◌, ℕ, ℤ, List, Bool, Option, Some}
use Rattle.std.specs.List.{AllByRecursion}
use Rattle.dbl_record.specs.Acts.{reading_of}
use Rattle.dbl_record.specs.Consumers.{HeldCells, row_after}
use Rattle.dbl_record.specs.Reading.{as_line}
use Rattle.dbl_model_table.specs.declared.identity.Identity.{Identity}
use Rattle.dbl_model_table.specs.declared.row.Key.{Key}
use Rattle.dbl_model_table.specs.declared.row.Row.{Row}
use Rattle.dbl_model_table.specs.declared.table.TableInfo.{TableInfo}
use Rattle.dbl_model_table.specs.declared.change.Commit.{Commit}
use Rattle.dbl_model_table.specs.Infos.{topic_of}
use Rattle.dbl_model_history.specs.Image.{key_text, row_json_texts}
use Rattle.dbl_model_history.specs.Ranges.{AreValuesInRange, IsCommitInRange, IsMomentInRange}
use Rattle.dbl_model_event.specs.Events.{Created, notice}
use Rattle.dbl_model_event.specs.Snapshots.{read_record, progress_record}
use Rattle.dbl_consume_laws.specs.Laws.{IsNotPlaceholder, HoldsJsonTexts}
use Rattle.dbl_consume_laws.specs.Cells.{Stay, record_op, notice_op}

-- Whether a row that was read, its key, the commit that wrote the high watermark, and the time of the record are all in range.
pub record IsReadInRange (entry : Key × Row) (commit : Commit) (now : ℤ) : Type 0 where
  pub key_fits : AreValuesInRange entry.0.cells
  pub row_fits : AreValuesInRange entry.1.cells
  pub commit_fits : IsCommitInRange commit
  pub moment_fits : IsMomentInRange now

-- After a snapshot's row the consumer has its texts at its topic and key, for every earlier state.
abbrev pub ReadRowsAreHeld : Type 0
ReadRowsAreHeld = (identity : Identity) (info : TableInfo) (commit : Commit) (now : ℤ) (ordinal : ℕ) (entry : Key × Row)
    (held : Option HeldCells) → IsReadInRange entry commit now
    → AllByRecursion (IsNotPlaceholder identity.placeholder) entry.1.cells
    → HoldsJsonTexts
    (row_after identity.placeholder (topic_of identity info) (key_text info entry.0) held
    (reading_of (as_line (read_record identity info commit now ordinal entry)))) (Some (row_json_texts info.columns entry.1.cells))

-- A snapshot's row changes nothing at other topics and key texts.
abbrev pub ReadRowsLeaveOthers : Type 0
ReadRowsLeaveOthers = (identity : Identity) (info : TableInfo) (commit : Commit) (now : ℤ) (ordinal : ℕ) (entry : Key × Row)
    (topic text : List ℕ) (held : Option HeldCells) → IsReadInRange entry commit now
    → (topic_of identity info ≢ topic) ⊎ (key_text info entry.0 ≢ text)
    → row_after identity.placeholder topic text held (reading_of (as_line (read_record identity info commit now ordinal entry))) ≡ held

-- A snapshot's row has the effect on each cell of an event that creates the row.
abbrev pub ReadRowsChangeCells : Type 0
ReadRowsChangeCells = (identity : Identity) (table : ℕ) (info : TableInfo) (commit : Commit) (now : ℤ) (ordinal : ℕ) (entry : Key × Row)
    (topic text column : List ℕ) → IsReadInRange entry commit now
    → AllByRecursion (IsNotPlaceholder identity.placeholder) entry.1.cells
    → record_op identity.placeholder (reading_of (as_line (read_record identity info commit now ordinal entry))) topic text column
    ≡ notice_op identity (notice table info (Some entry.0) (Created entry.1)) topic text column

-- A progress record changes no row of a consumer.
abbrev pub ProgressChangesNothing : Type 0
ProgressChangesNothing = (identity : Identity) (info : TableInfo) (commit : Commit) (ordinal : ℕ) (through : Option Key) (done : Bool)
    (topic text : List ℕ) (held : Option HeldCells)
    → row_after identity.placeholder topic text held (reading_of (as_line (progress_record identity info commit ordinal through done)))
    ≡ held

-- A progress record changes no cell of a consumer.
abbrev pub ProgressChangesNoCell : Type 0
ProgressChangesNoCell = (identity : Identity) (info : TableInfo) (commit : Commit) (ordinal : ℕ) (through : Option Key) (done : Bool)
    (topic text column : List ℕ)
    → record_op identity.placeholder (reading_of (as_line (progress_record identity info commit ordinal through done))) topic text
    column ≡ Stay
