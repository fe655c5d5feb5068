-- The rows of a played source's alterations: those that the table had just before, in its new columns.
use Rattle.std.specs.Prelude.{if◌then◌else◌, option_map, unwrap_or, List, [], ◌∷◌, ◌++◌, map, filter, filter_map, fold}
use Rattle.std.specs.List.{list_any, flat_map}
use Rattle.dbl_model_table.specs.declared.row.Key.{Key}
use Rattle.dbl_model_table.specs.declared.table.RawColumn.{RawColumn}
use Rattle.dbl_model_table.specs.declared.table.RawRow.{RawRow}
use Rattle.dbl_model_table.specs.declared.table.RawTable.{RawTable}
use Rattle.dbl_model_table.specs.declared.table.TableName.{TableName}
use Rattle.dbl_model_table.specs.Keys.{same_key}
use Rattle.dbl_model_table.specs.Tables.{same_name}
use Rattle.dbl_source_model.specs.ModelHistory.History.{RawBody, RawChange, name_of}
use Rattle.dbl_source_model.specs.ModelHistory.History.RawChange.{Insert, Update, Delete, Clear}
use Rattle.dbl_source_model.specs.ModelHistory.History as raw
use Rattle.dbl_source_log.specs.declared.logged.LogTable.{LogTable}
use Rattle.dbl_source_log.specs.declared.logged.Logged.{Logged}
use Rattle.dbl_source_log.specs.declared.logged.Logged.TheVariants.{Changes, Mark, Alter}
use Rattle.dbl_source_log.specs.Alterations.{tables_after, tables_through}
use Rattle.dbl_source_log.specs.Histories.{body_at, text_rows_at, rows_of}
use Rattle.dbl_source_log.specs.TextRows.{TextRows, no_text_rows, log_table_named}
use Rattle.dbl_source_log.specs.Texts.{Texts, text_named, key_in, given_text}

-- ---- the keys that had rows

-- The key to which a change of a table leads a row: that of an insert, and the new one of an update.
abbrev pub keys_led_to : RawTable → RawChange → List Key
keys_led_to table (Insert name row) = key_in table row.cells ∷ []
keys_led_to table (Update name from old cells) = key_in table (map given_text cells) ∷ []
keys_led_to table (Delete name from old) = []
keys_led_to table (Clear name) = []

-- The keys to which a commit's contents lead rows of a table, which is as it is after the commit.
abbrev pub keys_in_body : RawTable → RawBody → List Key
keys_in_body table (raw.Changes changes) = flat_map (keys_led_to table) (filter (λ change. same_name (name_of change) table.name) changes)
keys_in_body table (raw.Mark value) = []
keys_in_body table (raw.Alter name columns rows) = if same_name name table.name then map (λ row. key_in table row.cells) rows else []

-- The keys to which a commit leads rows of the table of this name, given the tables and rows just before it.
abbrev pub keys_at : List LogTable → TextRows → TableName → Logged → List Key
keys_at tables rows name entry =
    unwrap_or (option_map (λ table. keys_in_body table.raw (body_at tables rows entry)) (log_table_named (tables_after entry tables) name)) []

-- The keys to which commits lead rows of the table of this name, in their order, given the tables and rows just before them.
abbrev pub keys_from : List LogTable → TextRows → TableName → List Logged → List Key
keys_from tables rows name [] = []
keys_from tables rows name (entry ∷ log) =
    keys_at tables rows name entry ++ keys_from (tables_after entry tables) (text_rows_at tables rows entry) name log

-- Keys, each once.
abbrev pub distinct_keys : List Key → List Key
distinct_keys keys = fold (λ seen key. if list_any (same_key key) seen then seen else seen ++ key ∷ []) [] keys

-- ---- the rows

-- The rows that the table of this name has after a log.
abbrev pub row_list : List LogTable → List Logged → TableName → List Texts
row_list tables log name = filter_map (rows_of tables log name) (distinct_keys (keys_from tables no_text_rows name log))

-- A row of a table in other columns: each cell has the text of the first old column of its name, and is null if there was none.
abbrev pub in_columns : RawTable → List RawColumn → Texts → RawRow
in_columns table columns cells = record { cells = map (λ column. text_named table cells column.name) columns }

-- The commit after a log that gives the table of this name these columns, and its rows in them; no rows if there is no such table.
abbrev pub alteration_of : List LogTable → List Logged → TableName → List RawColumn → Logged
alteration_of tables log name columns =
    Alter name columns
    (unwrap_or (option_map (λ table. map (in_columns table.raw columns) (row_list tables log name)) (log_table_named (tables_through log tables) name)) [])

-- ---- alterations whose rows are left out, since no call answers them

-- An alteration without its rows.
abbrev pub bare_alteration : RawTable → Logged
bare_alteration table = Alter table.name table.columns []

-- A commit after a log, with its rows if it is an alteration.
abbrev pub filled_entry : List LogTable → List Logged → Logged → Logged
filled_entry tables log (Changes ms) = Changes ms
filled_entry tables log (Mark value) = Mark value
filled_entry tables log (Alter name columns rows) = alteration_of tables log name columns

-- Commits after a log, each alteration among them with its rows.
abbrev pub filled : List LogTable → List Logged → List Logged → List Logged
filled tables log [] = []
filled tables log (entry ∷ more) = filled_entry tables log entry ∷ filled tables (log ++ filled_entry tables log entry ∷ []) more
