-- What is common to the records of one table in a commit, and the records of a change.
use Rattle.std.specs.Prelude.{◌≡◌, ℕ, ℤ, ◌+◌, ◌<◌, Bool, false, Option, Some, None}
use Rattle.std.specs.Prelude.{option_map, List, [], ◌∷◌, ◌++◌, length, map, codes, All}
use Rattle.json.specs.Print.{print as print_tokens}
use Rattle.serde_json.specs.Data.{Data, null, string, object, no_members, member}
use Rattle.serde_json.specs.Written.{compact_text}
use Rattle.dbl_record.specs.declared.record.Record.{Record}
use Rattle.dbl_model_table.specs.declared.identity.Identity.{Identity}
use Rattle.dbl_model_table.specs.declared.table.TableName.{TableName}
use Rattle.dbl_model_table.specs.declared.table.TableInfo.{TableInfo}
use Rattle.dbl_model_table.specs.declared.change.Change.{Change}
use Rattle.dbl_model_table.specs.declared.change.Commit.{Commit}
use Rattle.dbl_model_table.specs.declared.row.Key.{Key}
use Rattle.dbl_model_table.specs.declared.row.Row.{Row}
use Rattle.dbl_model_table.specs.declared.change.Cell.{Cell}
use Rattle.dbl_model_table.specs.Infos.{width, topic_of}
use Rattle.dbl_model_event.specs.ModelHistory.Image.{key_text}
use Rattle.dbl_model_table.specs.Keys.{new_key_of, given_or_null}
use Rattle.dbl_model_table.specs.Rows.{table_of}
use Rattle.dbl_model_event.specs.Events.{Notice, Event, change_notices, move_notices}
use Rattle.dbl_model_event.specs.EventJson.{sent, row_data, source_data, event_data, content_data}
use Rattle.dbl_envelope_json.specs.declared.layout.Place.{Place}
use Rattle.dbl_envelope_json.specs.declared.frame.Frame.{Frame}
use Rattle.dbl_envelope_json.specs.declared.side.Side.{Side}
use Rattle.dbl_envelope_json.specs.declared.side.Side.TheVariants as side
use Rattle.dbl_envelope_json.specs.declared.stamp.Stamp.{Stamp}
use Rattle.dbl_envelope_json.specs.Layouts.{layout_of, members_at}
use Rattle.dbl_envelope_json.specs.Tokens.{tail_tokens}

-- the JSON text of an event's value from `source` on
unfoldable pub tail_text : Identity → TableName → Commit → List ℕ → ℤ → List ℕ
tail_text identity table commit snapshot now = print_tokens (tail_tokens identity table commit snapshot now)

-- the frame's layout and tail are those of its table and commit
pub record Framed (frame : Frame) : Type 0 where
  pub layout : frame.layout.now ≡ layout_of frame.identity.now frame.info.now
  pub tail : frame.tail.now ≡ tail_text frame.identity.now frame.info.now.name frame.commit.now frame.snapshot.now frame.now_ms.now

-- every index is that of a cell
abbrev pub FitsPlaces : List Place → Side → Type 0
FitsPlaces places side.Nothing = Unit {0}
FitsPlaces places (side.Row cells) = All (λ p. p.index < length cells.now) places
FitsPlaces places (side.Sent cells) = All (λ p. p.index < length cells.now) places

-- the object of the cells at these indices
abbrev pub side_data : List ℕ → List Place → Side → Data
side_data placeholder places side.Nothing = null
side_data placeholder places (side.Row cells) = object (members_at cells.now places)
side_data placeholder places (side.Sent cells) = object (members_at (map (sent placeholder) cells.now) places)

-- the side has one cell per column of the table
abbrev pub IsWide : TableInfo → Side → Type 0
IsWide info side.Nothing = Unit {0}
IsWide info (side.Row cells) = length cells.now ≡ width info
IsWide info (side.Sent cells) = length cells.now ≡ width info

-- the side as a row of the table
abbrev pub side_row : Identity → TableInfo → Side → Data
side_row identity info side.Nothing = null
side_row identity info (side.Row cells) = row_data info cells.now
side_row identity info (side.Sent cells) = row_data info (map (sent identity.placeholder) cells.now)

-- the value of an event with these parts in the frame
abbrev pub framed_event : Frame → Data → List ℕ → Data → Data
framed_event frame before op after =
    event_data (source_data frame.identity.now frame.info.now.name frame.commit.now frame.snapshot.now) frame.now_ms.now before op after

-- a record of the frame that isn't part of a key update
abbrev pub plain_record : Frame → Stamp → Option (List ℕ) → Option (List ℕ) → Record
plain_record frame stamp key value = record {
  topic = topic_of frame.identity.now frame.info.now;
  key = key;
  value = value;
  position = frame.commit.now.lsn.0;
  ordinal = stamp.ordinal;
  last = stamp.last;
  newkey = None;
  oldkey = None;
}

-- the record of a delete in the frame, with this in its value's `before`
abbrev pub deleted_record : Frame → Stamp → Key → Data → Record
deleted_record frame stamp key before =
    plain_record frame stamp (Some (key_text frame.info.now key)) (Some (compact_text (framed_event frame before (codes "d") null)))

-- the record of an event whose `source` has this value of `snapshot`
abbrev pub print_as : List ℕ → Identity → Commit → ℤ → Event → Record
print_as snapshot identity commit now e =
    let info = e.notice.info in
    let source = source_data identity info.name commit snapshot in
    record {
      topic = topic_of identity info;
      key = option_map (key_text info) e.notice.key;
      value = option_map compact_text (content_data identity info (event_data source now) e.notice.content);
      position = e.position;
      ordinal = e.ordinal;
      last = e.last;
      newkey = option_map (key_text info) e.notice.newkey;
      oldkey = option_map (key_text info) e.notice.oldkey;
    }

-- the events at a log sequence number, numbered from an ordinal on; `last` says whether the last of them is the last of its commit
abbrev pub events_from : ℕ → ℕ → Bool → List Notice → List Event
events_from position ordinal last [] = []
events_from position ordinal last (n ∷ []) = record { notice = n; position = position; ordinal = ordinal; last = last } ∷ []
events_from position ordinal last (n ∷ m ∷ ns) =
    record { notice = n; position = position; ordinal = ordinal; last = false } ∷ events_from position (ordinal + 1) last (m ∷ ns)

-- the records of a change of the frame's table, numbered from the stamp's ordinal on
abbrev pub told : Frame → Stamp → Change → List Record
told frame stamp change =
    map (print_as frame.snapshot.now frame.identity.now frame.commit.now frame.now_ms.now)
    (events_from frame.commit.now.lsn.0 stamp.ordinal stamp.last (change_notices (table_of change) frame.info.now change))

-- the records of the change were appended to the old ones
abbrev pub AppendsEvents : Frame → Stamp → Change → List Record → List Record → Type 0
AppendsEvents frame stamp change old new = new ≡ old ++ told frame stamp change

-- the records of the key update were appended to the old ones
abbrev pub TellsMove : Frame → Stamp → Key → Option Row → List Cell → List Record → List Record → Type 0
TellsMove frame stamp key old cells before after =
    after ≡ before ++ map (print_as frame.snapshot.now frame.identity.now frame.commit.now frame.now_ms.now)
    (events_from frame.commit.now.lsn.0 stamp.ordinal stamp.last
    (move_notices 0 frame.info.now key (new_key_of frame.info.now cells) old (record { cells = map given_or_null cells })))

-- the record of an event of the frame's table, with this stamp
abbrev pub printed : Frame → Stamp → Notice → Record
printed frame stamp n =
    print_as frame.snapshot.now frame.identity.now frame.commit.now frame.now_ms.now
    (record { notice = n; position = frame.commit.now.lsn.0; ordinal = stamp.ordinal; last = stamp.last })

-- the JSON object of a table's name
abbrev pub table_data : List ℕ → Data
table_data table = object (member (codes "table") (string table) no_members)

-- the object of a key's cells at these indices, `null` if there is no key
abbrev pub through_data : List Place → Option Key → Data
through_data places None = null
through_data places (Some key) = object (members_at key.cells places)
