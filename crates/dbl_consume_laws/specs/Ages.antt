-- The staleness of a consumer's cells: after a crash inside a redelivery they are of different positions, but each is the source's at some
-- point of a span.
use Rattle.std.specs.Prelude.{◌≡◌, ℕ, ◌≤◌, Option, Some, None, IsSome, List, map}
use Rattle.dbl_record.specs.declared.acts.HeldCell.{HeldCell}
use Rattle.dbl_record.specs.declared.acts.HeldCell.TheVariants.{Known, Unknown}
use Rattle.dbl_record.specs.declared.record.Record.{Record}
use Rattle.dbl_record.specs.Consumers.{HeldCells, held_at, consumer}
use Rattle.dbl_record.specs.Reading.{as_line}
use Rattle.dbl_model_table.specs.declared.identity.Identity.{Identity}
use Rattle.dbl_model_table.specs.declared.row.Key.{Key}
use Rattle.dbl_model_table.specs.declared.table.TableInfo.{TableInfo}
use Rattle.dbl_model_table.specs.declared.change.Change.{Change}
use Rattle.dbl_model_table.specs.declared.change.Commit.{Commit}
use Rattle.dbl_model_table.specs.Infos.{column_of}
use Rattle.dbl_model_table.specs.Rows.{rows_at, all_changes}
use Rattle.dbl_model_history.specs.Image.{Names, image_at}
use Rattle.dbl_consume_laws.specs.Moments.{span_end}
use Rattle.dbl_consume_laws.specs.KnownKeys.{IsKnown}

-- The row that a consumer of these records has at a topic and a key's text.
abbrev pub held_row : Identity → List Record → List ℕ → List ℕ → Option HeldCells
held_row identity records topic text = consumer identity.placeholder (map as_line records) topic text

-- The cell that a consumer of these records has at a topic, a key's text and a column.
abbrev pub held_cell : Identity → List Record → List ℕ → List ℕ → List ℕ → Option HeldCell
held_cell identity records topic text column = held_at (held_row identity records topic text) column

-- The cell's JSON text at the source at a point in the history, None if there is no row or no such column. With the point as the last
-- argument, it is the life of one cell.
abbrev pub source_cell : List TableInfo → List Change → ℕ → Key → List ℕ → ℕ → Option (List ℕ)
source_cell infos changes table key column moment = image_at infos (rows_at infos changes moment) table key column

-- Whether the source's cell has this value at some point of a span.
pub record HadValueWithin (life : ℕ → Option (List ℕ)) (from to : ℕ) (cell : Option (List ℕ)) : Type 0 where
  pub moment : ℕ
  pub not_before : from ≤ moment
  pub not_after : moment ≤ to
  pub is : life moment ≡ cell

-- Whether a consumer's cell is aged within a span: a known text is the source's at some point of it, an unknown cell existed at some point
-- of it, and if a known key has no known cell there was none at some point of it.
abbrev pub IsAgedCell : Type 0 → (ℕ → Option (List ℕ)) → ℕ → ℕ → Option HeldCell → Type 0
IsAgedCell is_known life from to None = is_known → HadValueWithin life from to None
IsAgedCell is_known life from to (Some (Known text)) = HadValueWithin life from to (Some text)
IsAgedCell is_known life from to (Some Unknown) =
    ((text : List ℕ) × HadValueWithin life from to (Some text)) × (is_known → HadValueWithin life from to None)

-- Whether each cell of a consumer of the records is aged within this span, at each captured table and key, and at each name of a column or
-- of none. Keys are known at the span's end.
pub record AreAged (identity : Identity) (infos : List TableInfo) (changes : List Change) (start from to : ℕ)
    (records : List Record) : Type 0 where
  pub each : (topic text : List ℕ) (table : ℕ) (key : Key) (column : List ℕ) → Names identity infos topic text table key
      → IsAgedCell (IsKnown identity infos changes start records to table key) (source_cell infos changes table key column) from to
      (held_cell identity records topic text column)

-- Whether records are aged at a point in the history: within the span from it.
abbrev pub IsAged : Identity → List TableInfo → List Commit → ℕ → List Record → ℕ → Type 0
IsAged identity infos commits start records from =
    AreAged identity infos (all_changes commits) start from (span_end infos commits start records from) records

-- ---- rows; the cells of a row without cells don't differ from those of no row

-- Whether the row is at the topic and text of a captured table and a key, and has a cell in each column of that table.
pub record IsNamedRow (identity : Identity) (infos : List TableInfo) (topic text : List ℕ) (cells : HeldCells) : Type 0 where
  pub table : ℕ
  pub key : Key
  pub names : Names identity infos topic text table key
  pub columns : (column : List ℕ) → IsSome (column_of names.info.columns column) → IsSome (held_at (Some cells) column)

-- Whether each row of a consumer of the records is at the topic and text of a captured table and a key, with a cell in each column.
pub record HasNamedRows (identity : Identity) (infos : List TableInfo) (records : List Record) : Type 0 where
  pub each : (topic text : List ℕ) (cells : HeldCells) → held_row identity records topic text ≡ Some cells
      → IsNamedRow identity infos topic text cells
