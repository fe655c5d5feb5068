-- The records of one closed window as a whole.
use Rattle.std.specs.Prelude.{◌≡◌, ℕ, ℤ, ◌<◌, Some, List, slice_get}
use Rattle.std.specs.List.{AllByRecursion}
use Rattle.std.specs.declared.cmp.Ordering.TheVariants.{Less}
use Rattle.dbl_record.specs.declared.record.Record.{Record}
use Rattle.dbl_model_table.specs.declared.identity.Identity.{Identity}
use Rattle.dbl_model_table.specs.declared.row.Key.{Key}
use Rattle.dbl_model_table.specs.declared.row.Row.{Row}
use Rattle.dbl_model_table.specs.declared.table.TableInfo.{TableInfo}
use Rattle.dbl_model_table.specs.declared.change.Commit.{Commit}
use Rattle.dbl_model_event.specs.declared.closed.Closed.{Closed}
use Rattle.dbl_model_table.specs.Keys.{key_cmp}
use Rattle.dbl_model_history.specs.Fit.{IsKeyOf}
use Rattle.dbl_model_event.specs.Snapshots.{AreInKeyOrder, snapshot, FitsChunk}

-- Whether records are those of one closed window of a captured table, made at `now` in the commit of its high watermark, with rows that
-- match the table, in key order, followed by the progress record.
pub record IsSnapshot (identity : Identity) (infos : List TableInfo) (closed : Closed) (commit : Commit) (now : ℤ)
    (records : List Record) : Type 0 where
  pub info : TableInfo
  pub captured : slice_get infos closed.table ≡ Some info
  -- Each row is at its own key.
  pub fits : FitsChunk info closed
  pub keys : AllByRecursion (λ entry. IsKeyOf info entry.0) closed.rows
  -- No two rows are at one key.
  pub ordered : AreInKeyOrder closed.rows
  pub records_are : records ≡ snapshot identity infos closed commit now

-- In rows in key order a later row has a greater key.
abbrev pub KeysOfRowsRise : Type 0
KeysOfRowsRise = (rows : List (Key × Row)) (i j : ℕ) (a b : Key × Row) → AreInKeyOrder rows → i < j → slice_get rows i ≡ Some a
    → slice_get rows j ≡ Some b → key_cmp a.0 b.0 ≡ Less

-- A snapshot has at most one row at each key.
abbrev pub SnapshotsHaveOneRowAKey : Type 0
SnapshotsHaveOneRowAKey = (identity : Identity) (infos : List TableInfo) (closed : Closed) (commit : Commit) (now : ℤ)
    (records : List Record) (i j : ℕ) (a b : Key × Row)
    → IsSnapshot identity infos closed commit now records → slice_get closed.rows i ≡ Some a → slice_get closed.rows j ≡ Some b
    → a.0 ≡ b.0 → i ≡ j
