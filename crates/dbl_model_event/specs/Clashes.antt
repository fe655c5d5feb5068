-- Values equal to the placeholder: a printed cell whose JSON is the placeholder's, which every consumer would take for an unsent cell.
-- Debezium PostgreSQL connector, `unavailable.value.placeholder`.
use Rattle.std.specs.Prelude.{ℕ, List, [], ◌∷◌, Bool, false, if◌then◌else◌, Option, Some, None}
use Rattle.std.specs.Prelude.{option_map, unwrap_or, slice_get, map, flat_map, bytes_eq}
use Rattle.std.specs.Option.{option_or}
use Rattle.serde_json.specs.Data.{Data, null, boolean, number, string, array, object}
use Rattle.dbl_value_types.specs.Values.{json_data}
use Rattle.dbl_model_table.specs.declared.identity.Identity.{Identity}
use Rattle.dbl_model_table.specs.declared.row.Key.{Key}
use Rattle.dbl_model_table.specs.declared.row.Row.{Row}
use Rattle.dbl_model_table.specs.declared.table.TableInfo.{TableInfo}
use Rattle.dbl_model_table.specs.declared.table.TableName.{TableName}
use Rattle.dbl_model_table.specs.declared.change.Cell.{Cell}
use Rattle.dbl_model_table.specs.declared.change.Cell.TheVariants.{Given, Unchanged}
use Rattle.dbl_model_table.specs.declared.change.Commit.{Commit}
use Rattle.dbl_model_event.specs.declared.closed.Closed.{Closed}
use Rattle.dbl_model_table.specs.Tables.{column_names}
use Rattle.dbl_model_table.specs.Rows.{changes_of}
use Rattle.dbl_model_event.specs.Events.{Content, Created, Updated, Deleted, Tombstone, Truncated, Notice, notices}

-- The location of a value equal to the placeholder: the table, and the column's name.
pub record Clash : Type 0 where
  pub table : TableName
  pub column : List ℕ

-- Whether the data is this string.
abbrev pub is_string : List ℕ → Data → Bool
is_string text null = false
is_string text (boolean b) = false
is_string text (number n) = false
is_string text (string s) = bytes_eq s text
is_string text (array _) = false
is_string text (object _) = false

-- Whether a sent cell's JSON is the placeholder as a string, for any type. The placeholder printed for an unsent cell doesn't count.
abbrev pub is_clash : List ℕ → Cell → Bool
is_clash placeholder (Given v) = is_string placeholder (json_data v)
is_clash placeholder Unchanged = false

-- The name of the first column whose cell equals the placeholder.
abbrev pub clash_among : List ℕ → List (List ℕ) → List Cell → Option (List ℕ)
clash_among placeholder [] cells = None
clash_among placeholder (name ∷ names) [] = None
clash_among placeholder (name ∷ names) (cell ∷ cells) = if is_clash placeholder cell then Some name else clash_among placeholder names cells

-- The cells of an old row, none if it wasn't sent.
abbrev pub old_cells : Option Row → List Cell
old_cells None = []
old_cells (Some row) = map Given row.cells

-- The cells that an event prints in `before`.
abbrev pub cells_before : Content → List Cell
cells_before (Created row) = []
cells_before (Updated old cells) = old_cells old
cells_before (Deleted old) = old_cells old
cells_before Tombstone = []
cells_before Truncated = []

-- The cells that an event prints in `after`.
abbrev pub cells_after : Content → List Cell
cells_after (Created row) = map Given row.cells
cells_after (Updated old cells) = cells
cells_after (Deleted old) = []
cells_after Tombstone = []
cells_after Truncated = []

-- The location of a value equal to the placeholder in this column of a table.
abbrev pub clash_at : TableInfo → Option (List ℕ) → Option Clash
clash_at info column = option_map (λ name. record { table = info.name; column = name }) column

-- The first value equal to the placeholder in an event: `before` comes first, and in each the columns are in the table's order.
abbrev pub notice_clash : List ℕ → Notice → Option Clash
notice_clash placeholder n =
    let names = column_names n.info.columns in
    clash_at n.info (option_or (clash_among placeholder names (cells_before n.content))
    (clash_among placeholder names (cells_after n.content)))

-- The first result found among some items.
abbrev pub first_found : {A B : Type 0} → (A → Option B) → List A → Option B
first_found f [] = None
first_found f (x ∷ xs) = option_or (f x) (first_found f xs)

-- The first value equal to the placeholder in a commit's records, in their order.
abbrev pub clash_of : Identity → List TableInfo → Commit → Option Clash
clash_of identity infos commit = first_found (notice_clash identity.placeholder) (flat_map (notices infos) (changes_of commit))

-- The first value equal to the placeholder in some rows of a table, row by row.
abbrev pub rows_clash : List ℕ → TableInfo → List (Key × Row) → Option Clash
rows_clash placeholder info rows =
    first_found (λ e. clash_at info (clash_among placeholder (column_names info.columns) (map Given e.1.cells))) rows

-- The first value equal to the placeholder in a snapshot's records.
abbrev pub snapshot_clash : Identity → List TableInfo → Closed → Option Clash
snapshot_clash identity infos closed =
    unwrap_or (option_map (λ info. rows_clash identity.placeholder info closed.rows) (slice_get infos closed.table)) None
