-- Rows and keys as texts: the row in a change message, given the row sent before it. PostgreSQL's "Logical Replication Message Formats",
-- TupleData, and "Publication", Replica Identity.
use Rattle.std.specs.Prelude.{ℕ, ◌+◌, ◌||◌, Bool, false, true, if◌then◌else◌, Option, Some, None}
use Rattle.std.specs.Prelude.{option_map, option_and_then, unwrap_or, slice_get, List, [], ◌∷◌, map}
use Rattle.dbl_pgmsg.specs.declared.messages.OldTuple.{OldTuple}
use Rattle.dbl_pgmsg.specs.declared.messages.OldTuple.TheVariants as old
use Rattle.dbl_pgmsg.specs.declared.messages.TupleCell.{TupleCell}
use Rattle.dbl_pgmsg.specs.declared.messages.TupleCell.TheVariants as cell
use Rattle.dbl_model_table.specs.Value.declared.column_type.PgType.{PgType}
use Rattle.dbl_model_table.specs.Value.declared.column_type.PgType.TheVariants as type
use Rattle.dbl_model_table.specs.Value.Types.{type_of}
use Rattle.dbl_model_table.specs.declared.row.Key.{Key}
use Rattle.dbl_model_table.specs.declared.table.RawColumn.{RawColumn}
use Rattle.dbl_model_table.specs.declared.table.RawRow.{RawRow}
use Rattle.dbl_model_table.specs.declared.table.RawTable.{RawTable}
use Rattle.dbl_model_table.specs.Made.{raw_names, place_of, column_named}
use Rattle.dbl_source_model.specs.ModelHistory.History.{RawCell, RawKey}
use Rattle.dbl_source_model.specs.ModelHistory.History.RawCell.{Given, Unchanged}
use Rattle.dbl_source_model.specs.ModelHistory.Typed.{typed_cells}
use Rattle.dbl_source_log.specs.declared.logged.LogTable.{LogTable}
use Rattle.dbl_source_log.specs.Relations.{is_in_identity}

-- A row's cells: a text or null for each column.
abbrev pub Texts : Type 0
Texts = List (Option (List ℕ))

-- The text of the cell in the column of this name, null if there is none.
abbrev pub text_named : RawTable → Texts → List ℕ → Option (List ℕ)
text_named raw cells name = unwrap_or (option_and_then (slice_get cells) (place_of (raw_names raw.columns) name)) None

-- The texts of a row's key, in key order.
abbrev pub raw_key : RawTable → Texts → RawKey
raw_key raw cells = map (text_named raw cells) raw.key

-- The type of the column of this name; one that can't be captured is read as text.
abbrev pub type_named : RawTable → List ℕ → PgType
type_named raw name = unwrap_or (option_and_then (λ column. type_of column.oid) (column_named raw.columns name)) type.Text

-- The types of the key's columns, in key order.
abbrev pub raw_key_types : RawTable → List PgType
raw_key_types raw = map (type_named raw) raw.key

-- A key's texts, read as values.
abbrev pub key_from : RawTable → RawKey → Key
key_from raw texts = record { cells = typed_cells (raw_key_types raw) texts }

-- The key of a row's texts, read as values.
abbrev pub key_in : RawTable → Texts → Key
key_in raw cells = key_from raw (raw_key raw cells)

-- ---- the cells that are sent

-- The text of a cell as it was sent, null if it is null or unsent.
abbrev pub sent_text : TupleCell → Option (List ℕ)
sent_text (cell.Text text) = Some text
sent_text cell.Null = None
sent_text cell.Unchanged = None

-- The old row as it was sent, with null in each unsent column: of a `K` tuple only the columns of the replica identity are used, of an `O`
-- tuple all.
abbrev pub old_texts : LogTable → Bool → List RawColumn → List TupleCell → Texts
old_texts table whole columns [] = []
old_texts table whole [] (c ∷ cells) = sent_text c ∷ old_texts table whole [] cells
old_texts table whole (column ∷ columns) (c ∷ cells) =
    (if whole || is_in_identity table column then sent_text c else None) ∷ old_texts table whole columns cells

-- The old row of an old key or a whole old row.
abbrev pub old_row_in : LogTable → OldTuple → RawRow
old_row_in table (old.Key tuple) = record { cells = old_texts table false table.raw.columns tuple.cells }
old_row_in table (old.Whole tuple) = record { cells = old_texts table true table.raw.columns tuple.cells }

-- The old row's value for an unsent cell at an index, if it was sent.
abbrev pub filling_text : LogTable → Bool → Option RawRow → RawColumn → ℕ → Option (Option (List ℕ))
filling_text table whole None column place = None
filling_text table whole (Some row) column place = if whole || is_in_identity table column then slice_get row.cells place else None

-- A cell with the old row's value, unsent if there is none.
abbrev pub filled_text : Option (Option (List ℕ)) → RawCell
filled_text (Some text) = Given text
filled_text None = Unchanged

-- A cell of an update, with the old row's value if it is unsent.
abbrev pub new_text : Option (Option (List ℕ)) → TupleCell → RawCell
new_text filling (cell.Text text) = Given (Some text)
new_text filling cell.Null = Given None
new_text filling cell.Unchanged = filled_text filling

-- The cells of an update, with the old row's value for each unsent one.
abbrev pub new_texts : LogTable → Bool → Option RawRow → ℕ → List RawColumn → List TupleCell → List RawCell
new_texts table whole before place columns [] = []
new_texts table whole before place [] (c ∷ cells) = new_text None c ∷ new_texts table whole before (place + 1) [] cells
new_texts table whole before place (column ∷ columns) (c ∷ cells) =
    new_text (filling_text table whole before column place) c ∷ new_texts table whole before (place + 1) columns cells

-- ---- an update's cells

-- The text of an update's cell, null if it is unsent.
abbrev pub given_text : RawCell → Option (List ℕ)
given_text (Given text) = text
given_text Unchanged = None

-- The row of an update whose cells are all sent, None if one is unsent.
abbrev pub all_texts : List RawCell → Option Texts
all_texts [] = Some []
all_texts (Given text ∷ cells) = option_map (λ row. text ∷ row) (all_texts cells)
all_texts (Unchanged ∷ cells) = None

-- A row with the cells of an update: a sent cell replaces the row's, an unsent one keeps it.
abbrev pub overlaid : List RawCell → Texts → Texts
overlaid [] row = row
overlaid (c ∷ cells) [] = []
overlaid (Given text ∷ cells) (x ∷ row) = text ∷ overlaid cells row
overlaid (Unchanged ∷ cells) (x ∷ row) = x ∷ overlaid cells row

-- The cells of an update, each unsent one replaced by the row's.
abbrev pub settled : List RawCell → Texts → List RawCell
settled [] row = []
settled (Given text ∷ cells) [] = Given text ∷ settled cells []
settled (Unchanged ∷ cells) [] = Unchanged ∷ settled cells []
settled (Given text ∷ cells) (x ∷ row) = Given text ∷ settled cells row
settled (Unchanged ∷ cells) (x ∷ row) = Given x ∷ settled cells row
