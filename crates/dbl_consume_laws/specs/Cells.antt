-- The effect of one record on one cell of a consumer: at a topic, a key's text and a column.
use Rattle.std.specs.Prelude.{◌≡◌, ℕ, ℤ, List, Bool, true, if◌then◌else◌, Option, Some, None}
use Rattle.std.specs.Prelude.{option_map, option_and_then, unwrap_or, slice_get, fold, Result, Ok, Err}
use Rattle.std.specs.List.{AllByRecursion}
use Rattle.std.specs.Str.{bytes_eq}
use Rattle.dbl_value_types.specs.Values.{json_of}
use Rattle.dbl_record.specs.declared.acts.GivenCell.{GivenCell}
use Rattle.dbl_record.specs.declared.acts.HeldCell.{HeldCell}
use Rattle.dbl_record.specs.declared.acts.HeldCell.TheVariants.{Known, Unknown}
use Rattle.dbl_record.specs.declared.acts.Act.{Act}
use Rattle.dbl_record.specs.declared.acts.Act.TheVariants.{Nothing, Set, Remove, Wipe}
use Rattle.dbl_record.specs.declared.acts.ConsumeError.{ConsumeError}
use Rattle.dbl_record.specs.Acts.{Reading, reading_of, act_of}
use Rattle.dbl_record.specs.Consumers.{HeldCells, held_at, row_after, consumer_of}
use Rattle.dbl_record.specs.Reading.{as_line}
use Rattle.dbl_model_table.specs.declared.identity.Identity.{Identity}
use Rattle.dbl_model_table.specs.declared.row.Key.{Key}
use Rattle.dbl_model_table.specs.declared.table.Column.{Column}
use Rattle.dbl_model_table.specs.declared.table.TableInfo.{TableInfo}
use Rattle.dbl_model_table.specs.declared.change.Cell.{Cell}
use Rattle.dbl_model_table.specs.declared.change.Cell.TheVariants.{Given, Unchanged}
use Rattle.dbl_model_table.specs.declared.change.Commit.{Commit}
use Rattle.dbl_model_table.specs.Infos.{column_of, topic_of}
use Rattle.dbl_model_history.specs.Ranges.{IsCommitInRange, IsMomentInRange}
use Rattle.dbl_model_history.specs.Image.{key_text}
use Rattle.dbl_model_event.specs.Events.{Content, Created, Updated, Deleted, Tombstone, Truncated, Notice, events_of}
use Rattle.dbl_model_event.specs.EventJson.{print}
use Rattle.dbl_model_event.specs.Clashes.{clash_of}

-- An operation on a cell: it stays as it is, it gets a text, it is in a row that is set but wasn't sent, or it is gone.
pub data Op : Type 0 where
  Stay : Op
  Give : List ℕ → Op
  Keep : Op
  End : Op

-- The cell after an operation: one that wasn't sent stays as it is, and is unknown if there was none.
abbrev pub cell_after : Op → Option HeldCell → Option HeldCell
cell_after Stay cell = cell
cell_after (Give text) cell = Some (Known text)
cell_after Keep cell = Some (unwrap_or cell Unknown)
cell_after End cell = None

-- The cell of a row that is set at a column: the last one with that name.
abbrev pub set_at : List GivenCell → List ℕ → Option (Option (List ℕ))
set_at cells column = fold (λ found cell. if bytes_eq column cell.column then Some cell.text else found) None cells

-- The operation on a cell of a row that is set: a column that no cell names is gone.
abbrev pub set_op : Option (Option (List ℕ)) → Op
set_op None = End
set_op (Some None) = Keep
set_op (Some (Some text)) = Give text

-- The operation of an act on the cell at a key's text and a column of its topic.
abbrev pub act_op : Act → List ℕ → List ℕ → Op
act_op Nothing text column = Stay
act_op (Set key cells) text column = if bytes_eq key text then set_op (set_at cells column) else Stay
act_op (Remove key) text column = if bytes_eq key text then End else Stay
act_op Wipe text column = End

-- The operation of a result: a record that is refused changes nothing.
abbrev pub result_op : Result Act ConsumeError → List ℕ → List ℕ → Op
result_op (Ok done) text column = act_op done text column
result_op (Err error) text column = Stay

-- The operation of a record on the cell at a topic, a key's text and a column.
abbrev pub record_op : List ℕ → Reading → List ℕ → List ℕ → List ℕ → Op
record_op placeholder reading topic text column = if bytes_eq reading.topic topic
    then result_op (act_of placeholder reading) text column else Stay

-- A cell after a record depends only on the record and on this cell before, for any other cells of the row.
abbrev pub CellsGoAlone : Type 0
CellsGoAlone = (placeholder : List ℕ) (reading : Reading) (topic text column : List ℕ) (held : Option HeldCells)
    → held_at (row_after placeholder topic text held reading) column ≡ cell_after (record_op placeholder reading topic text column)
    (held_at held column)

-- The cell of a consumer after these records, one by one.
abbrev pub cell_held : List ℕ → List Reading → List ℕ → List ℕ → List ℕ → Option HeldCell
cell_held placeholder readings topic text column =
    fold (λ cell reading. cell_after (record_op placeholder reading topic text column) cell) None readings

-- The cells of a consumer's rows are the results of its records, one by one.
abbrev pub ConsumersHoldCells : Type 0
ConsumersHoldCells = (placeholder : List ℕ) (readings : List Reading) (topic text column : List ℕ)
    → held_at (consumer_of placeholder readings topic text) column ≡ cell_held placeholder readings topic text column

-- ---- events

-- The cell of a row in the column with this name.
abbrev pub named_column_cell : {X : Type 0} → List Column → List X → List ℕ → Option X
named_column_cell columns cells column = option_and_then (slice_get cells) (column_of columns column)

-- The operation of an optional cell: a sent cell is set to its JSON, an unsent one is kept, and a missing one is gone.
abbrev pub cell_op : Option Cell → Op
cell_op None = End
cell_op (Some (Given v)) = Give (json_of v)
cell_op (Some Unchanged) = Keep

-- The operation of an event on a cell of its key.
abbrev pub content_op : TableInfo → Content → List ℕ → Op
content_op info (Created row) column = cell_op (option_map Given (named_column_cell info.columns row.cells column))
content_op info (Updated old cells) column = cell_op (named_column_cell info.columns cells column)
content_op info (Deleted old) column = End
content_op info Tombstone column = Stay
content_op info Truncated column = End

-- Whether an event is of the key with this text; one without a key is of the whole table.
abbrev pub is_about : TableInfo → Option Key → List ℕ → Bool
is_about info None text = true
is_about info (Some key) text = bytes_eq (key_text info key) text

-- The operation of an event on the cell at a topic, a key's text and a column.
abbrev pub notice_op : Identity → Notice → List ℕ → List ℕ → List ℕ → Op
notice_op identity n topic text column =
    if bytes_eq (topic_of identity n.info) topic then (if is_about n.info n.key text then content_op n.info n.content column else Stay)
    else Stay

-- The records of a commit without a value equal to the placeholder have the effect of their events on each cell.
abbrev pub EventsChangeCells : Type 0
EventsChangeCells = (identity : Identity) (infos : List TableInfo) (commit : Commit) (now : ℤ) → IsCommitInRange commit
    → IsMomentInRange now → clash_of identity infos commit ≡ None
    → AllByRecursion (λ e. (topic text column : List ℕ)
    → record_op identity.placeholder (reading_of (as_line (print identity commit now e))) topic text column
    ≡ notice_op identity e.notice topic text column) (events_of infos commit)
