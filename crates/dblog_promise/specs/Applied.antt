-- What `apply` prints after a complete run.
use Rattle.std.specs.Prelude.{◌≡◌, ℕ, Option, Some, List, map}
use Rattle.std.specs.List.Sorted.{IsStrictlySortedBy}
use Rattle.std.specs.Map.{keys_of, lookup}
use Rattle.std.specs.BTreeMap.{is_at}
use Rattle.dbl_consume.specs.Printing.{HeldRow, row_line, spot_cmp}
use Rattle.dbl_model_table.specs.declared.identity.Identity.{Identity}
use Rattle.dbl_model_table.specs.declared.table.TableInfo.{TableInfo}
use Rattle.dbl_model_table.specs.Rows.{Rows}
use Rattle.dbl_model_history.specs.Image.{IsImage}
use Rattle.dbl_capture_laws.specs.ConsumeLaws.Laws.{HoldsJsonTexts}
use Rattle.dbl_capture_laws.specs.Offset.declared.offset.Offset.{Offset}
use Rattle.dblog_stores.specs.Answers.{PrintsConsumer}
use Rattle.dblog_promise.specs.Contents.{Contents, ReadAs}
use Rattle.dblog_promise.specs.Headline.{LeavesTablesEqual}
use Rattle.dblog_promise.specs.Kept.{IsKept}
use Rattle.dblog_promise.specs.Tables.{whole_rows}

-- For this topic and key text, the printed rows agree with these tables: one row with every cell equal, or none.
pub record PrintsRowAt (identity : Identity) (infos : List TableInfo) (rows : Rows) (printed : List HeldRow)
    (topic text : List ℕ) : Type 0 where
  pub image : Option (List ℕ → Option (List ℕ))
  pub is : IsImage identity infos rows topic text image
  pub prints : HoldsJsonTexts (lookup (is_at (spot_cmp (topic, text))) printed) image

-- The lines are the rows of the captured tables that the serial run of the whole workload leaves, one line a row, in the order of their
-- topics and keys.
pub record PrintsTables (held : Contents) (lines : List (List ℕ)) : Type 0 where
  pub offset : Offset
  pub stored : held.offset ≡ Some offset
  pub printed : List HeldRow
  pub ordered : IsStrictlySortedBy spot_cmp (keys_of printed)
  pub each : (topic text : List ℕ) → PrintsRowAt offset.identity offset.infos (whole_rows held.wal offset.infos) printed topic text
  pub are : lines ≡ map row_line printed

-- The lines that `apply` prints over the disks of a complete run are the source's tables.
abbrev pub CompleteRunsAreApplied : Type 0
CompleteRunsAreApplied = (old new : Contents) (w t f : List ℕ) (lines : List (List ℕ))
    → ReadAs w t f new → LeavesTablesEqual old new → PrintsConsumer t f lines → PrintsTables new lines

-- The consumer accepts every record of a crash-consistent topic log with an offset, so that `apply` prints lines. At most one list of lines
-- is possible (`dblog_stores`).
abbrev pub KeptLogsArePrinted : Type 0
KeptLogsArePrinted = (held : Contents) (offset : Offset) (w t f : List ℕ) → ReadAs w t f held → IsKept held → held.offset ≡ Some offset
    → (lines : List (List ℕ)) × PrintsConsumer t f lines
