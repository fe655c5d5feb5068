-- The records of change events: their topics, and their keys and values as JSON texts. Debezium PostgreSQL connector, "Data change events".
use Rattle.std.specs.Prelude.{ℕ, ℤ, pos, ◌+ℤ◌, List, Option, Some, None, option_map, map, codes}
use Rattle.std.specs.Int.{int_div_euclid}
use Rattle.serde_json.specs.Data.{Data, null, number, unsigned, string, object, no_members, member}
use Rattle.serde_json.specs.Find.{of_integer}
use Rattle.serde_json.specs.Written.{compact_text}
use Rattle.dbl_value_types.specs.declared.value.Val.{Val}
use Rattle.dbl_value_types.specs.declared.value.Val.TheVariants as val
use Rattle.dbl_record.specs.declared.record.Record.{Record}
use Rattle.dbl_model_table.specs.declared.identity.Identity.{Identity}
use Rattle.dbl_model_table.specs.declared.row.Row.{Row}
use Rattle.dbl_model_table.specs.declared.table.TableInfo.{TableInfo}
use Rattle.dbl_model_table.specs.declared.table.TableName.{TableName}
use Rattle.dbl_model_table.specs.declared.change.Cell.{Cell}
use Rattle.dbl_model_table.specs.declared.change.Cell.TheVariants.{Given, Unchanged}
use Rattle.dbl_model_table.specs.declared.change.Commit.{Commit}
use Rattle.dbl_model_table.specs.Tables.{column_names}
use Rattle.dbl_model_table.specs.Infos.{topic_of}
use Rattle.dbl_model_history.specs.Image.{members_of, key_text}
use Rattle.dbl_model_event.specs.Events.{Content, Created, Updated, Deleted, Tombstone, Truncated, Event, events_of}

-- A row as the object of its columns.
abbrev pub row_data : TableInfo → List Val → Data
row_data info cells = object (members_of (column_names info.columns) cells)

-- An old row as JSON, null if none was sent.
abbrev pub old_data : TableInfo → Option Row → Data
old_data info None = null
old_data info (Some row) = row_data info row.cells

-- The value printed for a cell: for an unsent one the placeholder as a text, for any column type.
abbrev pub sent : List ℕ → Cell → Val
sent placeholder (Given v) = v
sent placeholder Unchanged = val.Text placeholder

-- A commit's time, in microseconds since 2000-01-01 UTC, as milliseconds since 1970-01-01 UTC, rounded down.
abbrev pub milliseconds_of : ℤ → ℤ
milliseconds_of time = int_div_euclid (time +ℤ pos 946684800000000) (pos 1000)

-- The source of an event; `snapshot` is `false` for a change that was read from the log.
unfoldable pub source_data : Identity → TableName → Commit → List ℕ → Data
source_data identity table commit snapshot =
    object (member (codes "connector") (string (codes "postgresql"))
    (member (codes "db") (string identity.db)
    (member (codes "lsn") (number (unsigned commit.lsn.0))
    (member (codes "name") (string identity.prefix)
    (member (codes "schema") (string table.schema)
    (member (codes "snapshot") (string snapshot)
    (member (codes "table") (string table.name)
    (member (codes "ts_ms") (number (of_integer (milliseconds_of commit.time)))
    (member (codes "txId") (number (unsigned commit.xid))
    (member (codes "version") (string (codes "1.0"))
    (member (codes "xmin") null no_members)))))))))))

-- An event's value: the row before and after the change, the operation's letter, and when the event was made, in milliseconds since
-- 1970-01-01 UTC.
unfoldable pub event_data : Data → ℤ → Data → List ℕ → Data → Data
event_data source now before op after =
    object (member (codes "after") after
    (member (codes "before") before
    (member (codes "op") (string op)
    (member (codes "source") source
    (member (codes "transaction") null
    (member (codes "ts_ms") (number (of_integer now)) no_members))))))

-- The value of an event's content, where `event` builds it from `before`, `op` and `after`; a tombstone has none.
abbrev pub content_data : Identity → TableInfo → (Data → List ℕ → Data → Data) → Content → Option Data
content_data identity info event (Created row) = Some (event null (codes "c") (row_data info row.cells))
content_data identity info event (Updated old cells) =
    Some (event (old_data info old) (codes "u") (row_data info (map (sent identity.placeholder) cells)))
content_data identity info event (Deleted old) = Some (event (old_data info old) (codes "d") null)
content_data identity info event Tombstone = None
content_data identity info event Truncated = Some (event null (codes "t") null)

-- The record of an event of a commit, made at `now`.
abbrev pub print : Identity → Commit → ℤ → Event → Record
print identity commit now e =
    let info = e.notice.info in
    let source = source_data identity info.name commit (codes "false") in
    record {
      topic = topic_of identity info;
      key = option_map (key_text info) e.notice.key;
      value = option_map compact_text (content_data identity info (event_data source now) e.notice.content);
      position = e.position;
      ordinal = e.ordinal;
      last = e.last;
      newkey = option_map (key_text info) e.notice.newkey;
      oldkey = option_map (key_text info) e.notice.oldkey;
    }

-- The records of a commit.
abbrev pub envelopes : Identity → List TableInfo → Commit → ℤ → List Record
envelopes identity infos commit now = map (print identity commit now) (events_of infos commit)
