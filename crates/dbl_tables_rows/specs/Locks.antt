-- Which session has locked a row or a table, until it ends. PostgreSQL's manual, "Explicit Locking", Row-Level Locks, where a writer waits;
-- here the step is refused.
use Rattle.std.specs.Prelude.{ℕ, ◌&&◌, ◌||◌, not, Bool, true, false, if◌then◌else◌}
use Rattle.std.specs.Prelude.{Option, None, Some, List, [], ◌∷◌, filter, map, bytes_eq}
use Rattle.std.specs.List.{list_any}
use Rattle.std.specs.Ordering.{is_lt}
use Rattle.dbl_base.specs.Texts.{text_cmp}
use Rattle.dbl_model_table.specs.declared.table.TableName.{TableName}
use Rattle.dbl_model_table.specs.declared.table.RawTable.{RawTable}
use Rattle.dbl_model_table.specs.declared.row.Key.{Key}
use Rattle.dbl_model_table.specs.Tables.{same_name}
use Rattle.dbl_model_table.specs.Keys.{same_key}
use Rattle.dbl_source_log.specs.ModelHistory.History.{RawChange, name_of}
use Rattle.dbl_source_log.specs.ModelHistory.History.RawChange.{Insert, Update, Delete, Clear}
use Rattle.dbl_source_log.specs.declared.logged.LogTable.{LogTable}
use Rattle.dbl_source_log.specs.Texts.{key_from, key_in, given_text}
use Rattle.dbl_source_log.specs.TextRows.{log_table_named}
use Rattle.dbl_tables_rows.specs.Acts.{Accepted, open_in}
use Rattle.dbl_tables_rows.specs.Seen.{changes_by}

-- Whether a change concerns the key: as the old or the new key of a row, or as any key of a truncated table.
abbrev pub names_key : RawTable → Key → RawChange → Bool
names_key raw key (Insert name row) = same_key (key_in raw row.cells) key
names_key raw key (Update name from old cells) = same_key (key_in raw (map given_text cells)) key || same_key (key_from raw from) key
names_key raw key (Delete name from old) = same_key (key_from raw from) key
names_key raw key (Clear name) = true

-- Whether a change concerns the key of a table that may not exist.
abbrev pub names_key_in : Option LogTable → Key → RawChange → Bool
names_key_in None key change = false
names_key_in (Some table) key change = names_key table.raw key change

-- Whether a change is of the table with this name.
abbrev pub is_of : TableName → RawChange → Bool
is_of name change = same_name (name_of change) name

-- Whether a change locks the key of the table with this name.
abbrev pub locks : List LogTable → TableName → Key → RawChange → Bool
locks tables name key change = is_of name change && names_key_in (log_table_named tables (name_of change)) key change

-- Whether the session has locked the key or its table.
abbrev pub holds_key : List LogTable → List Accepted → TableName → Key → List ℕ → Bool
holds_key tables past name key session = list_any (locks tables name key) (changes_by tables past session)

-- Whether the session has locked the table or some key of it.
abbrev pub holds_some : List LogTable → List Accepted → TableName → List ℕ → Bool
holds_some tables past name session = list_any (is_of name) (changes_by tables past session)

-- ---- whose lock blocks a session

-- The lesser in byte order of a name and an optional name.
abbrev pub lesser : List ℕ → Option (List ℕ) → List ℕ
lesser a None = a
lesser a (Some b) = if is_lt (text_cmp b a) then b else a

-- The first of some names in byte order.
abbrev pub least : List (List ℕ) → Option (List ℕ)
least [] = None
least (name ∷ names) = Some (lesser name (least names))

-- The first in byte order of the other open sessions that pass a test.
abbrev pub first_other : (List ℕ → Bool) → List ℕ → List Accepted → Option (List ℕ)
first_other holds session past = least (filter (λ other. not (bytes_eq other session) && holds other) (open_in past))

-- The other session that blocks a session's change of these keys of a table.
abbrev pub key_holder : List LogTable → List Accepted → List ℕ → TableName → List Key → Option (List ℕ)
key_holder tables past session name keys = first_other (λ other. list_any (λ key. holds_key tables past name key other) keys) session past

-- The other session that blocks a session's truncate of these tables.
abbrev pub table_holder : List LogTable → List Accepted → List ℕ → List TableName → Option (List ℕ)
table_holder tables past session names = first_other (λ other. list_any (λ name. holds_some tables past name other) names) session past
