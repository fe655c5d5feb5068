-- The records of a snapshot's chunk: the rows that were read from a table while its log was followed, and the progress of the reading.
-- Debezium PostgreSQL connector, "Incremental snapshots"; the DBLog paper. The progress record is this connector's own.
use Rattle.std.specs.Prelude.{◌≡◌, ℕ, ℤ, ◌+◌, Bool, true, false, Option, Some, None, option_map, unwrap_or}
use Rattle.std.specs.Prelude.{IfSome, IsSomeAnd, List, [], ◌∷◌, ◌++◌, length, slice_get, codes}
use Rattle.std.specs.List.{AllByRecursion}
use Rattle.std.specs.List.Sorted.{IsStrictlySortedBy}
use Rattle.std.specs.Map.{keys_of}
use Rattle.serde_json.specs.Data.{Data, null, boolean, string, object, no_members, member}
use Rattle.serde_json.specs.Written.{compact_text}
use Rattle.dbl_record.specs.declared.record.Record.{Record}
use Rattle.dbl_model_table.specs.declared.identity.Identity.{Identity}
use Rattle.dbl_model_table.specs.declared.row.Key.{Key}
use Rattle.dbl_model_table.specs.declared.row.Row.{Row}
use Rattle.dbl_model_table.specs.declared.table.TableInfo.{TableInfo}
use Rattle.dbl_model_table.specs.declared.change.Commit.{Commit}
use Rattle.dbl_model_event.specs.declared.closed.Closed.{Closed}
use Rattle.dbl_model_table.specs.Tables.{full_name}
use Rattle.dbl_model_table.specs.Infos.{column_types, topic_of}
use Rattle.dbl_model_table.specs.Keys.{key_cmp, key_of}
use Rattle.dbl_model_history.specs.Fit.{IsKeyOf}
use Rattle.dbl_model_history.specs.FitsInfos.{AreCellsOf}
use Rattle.dbl_model_history.specs.Image.{key_data, key_text}
use Rattle.dbl_model_event.specs.EventJson.{row_data, source_data, event_data}

-- Whether rows are in the order of their keys, with no two at one key.
abbrev pub AreInKeyOrder : List (Key × Row) → Type 0
AreInKeyOrder rows = IsStrictlySortedBy key_cmp (keys_of rows)

-- The record of a row that was read. Its position, LSN, time and xid are those of the commit that wrote the high watermark.
abbrev pub read_record : Identity → TableInfo → Commit → ℤ → ℕ → Key × Row → Record
read_record identity info commit now ordinal entry = record {
  topic = topic_of identity info;
  key = Some (key_text info entry.0);
  value =
      Some (compact_text
      (event_data (source_data identity info.name commit (codes "incremental")) now null (codes "r") (row_data info entry.1.cells)));
  position = commit.lsn.0;
  ordinal = ordinal;
  last = false;
  newkey = None;
  oldkey = None;
}

-- The records of rows in order, numbered from an ordinal on.
abbrev pub read_records : Identity → TableInfo → Commit → ℤ → ℕ → List (Key × Row) → List Record
read_records identity info commit now ordinal [] = []
read_records identity info commit now ordinal (entry ∷ rows) =
    read_record identity info commit now ordinal entry ∷ read_records identity info commit now (ordinal + 1) rows

-- The topic of the progress records of all tables.
abbrev pub progress_topic : Identity → List ℕ
progress_topic identity = identity.prefix ++ codes ".dblog-progress"

-- The key of a table's progress record.
abbrev pub progress_key : TableInfo → Data
progress_key info = object (member (codes "table") (string (full_name info.name)) no_members)

-- The last key of the rows that were read, null if there is none.
abbrev pub last_data : TableInfo → Option Key → Data
last_data info None = null
last_data info (Some key) = key_data info key

-- The value of a progress record: whether the whole table was read, and up to which key.
unfoldable pub progress_data : TableInfo → Option Key → Bool → Data
progress_data info through done =
    object (member (codes "done") (boolean done)
    (member (codes "last") (last_data info through)
    (member (codes "table") (string (full_name info.name)) no_members)))

-- The progress record of a table's snapshot, the last record of its commit.
abbrev pub progress_record : Identity → TableInfo → Commit → ℕ → Option Key → Bool → Record
progress_record identity info commit ordinal through done = record {
  topic = progress_topic identity;
  key = Some (compact_text (progress_key info));
  value = Some (compact_text (progress_data info through done));
  position = commit.lsn.0;
  ordinal = ordinal;
  last = true;
  newkey = None;
  oldkey = None;
}

-- The records of a chunk of a table: its rows in the supplied order, followed by the progress record.
abbrev pub chunk_records : Identity → TableInfo → List (Key × Row) → Option Key → Bool → Commit → ℤ → List Record
chunk_records identity info rows through done commit now =
    read_records identity info commit now 0 rows ++ progress_record identity info commit (length rows) through done ∷ []

-- The records of a closed window, made at `now`; none if no table is captured at its index.
abbrev pub snapshot : Identity → List TableInfo → Closed → Commit → ℤ → List Record
snapshot identity infos closed commit now =
    unwrap_or (option_map (λ info. chunk_records identity info closed.rows closed.through closed.done commit now)
    (slice_get infos closed.table)) []

-- Whether the rows of a window match their table, each at its own key.
pub record FitsChunk (info : TableInfo) (closed : Closed) : Type 0 where
  pub rows : AllByRecursion (λ e. AreCellsOf (column_types info) e.1.cells × (key_of info e.1.cells ≡ e.0)) closed.rows
  pub through : IfSome closed.through (IsKeyOf info)

-- Whether a closed window is of a captured table and its rows match it.
abbrev pub FitsSnapshot : List TableInfo → Closed → Type 0
FitsSnapshot infos closed = IsSomeAnd (slice_get infos closed.table) (λ info. FitsChunk info closed)
