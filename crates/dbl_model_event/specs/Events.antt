-- The change events of a commit, before they are encoded: the table and key of each, and its content. Debezium PostgreSQL connector, "Data
-- change events".
use Rattle.std.specs.Prelude.{ℕ, ◌+◌, List, [], ◌∷◌, Bool, true, false, if◌then◌else◌, Option}
use Rattle.std.specs.Prelude.{Some, None, option_map, unwrap_or, slice_get, map, flat_map}
use Rattle.dbl_model_table.specs.declared.row.Key.{Key}
use Rattle.dbl_model_table.specs.declared.row.Row.{Row}
use Rattle.dbl_model_table.specs.declared.table.TableInfo.{TableInfo}
use Rattle.dbl_model_table.specs.declared.change.Cell.{Cell}
use Rattle.dbl_model_table.specs.declared.change.Change.{Change}
use Rattle.dbl_model_table.specs.declared.change.Change.TheVariants.{Insert, Update, Delete, Clear}
use Rattle.dbl_model_table.specs.declared.change.Commit.{Commit}
use Rattle.dbl_model_table.specs.Keys.{key_of, new_key_of, same_key, given_or_null}
use Rattle.dbl_model_table.specs.Rows.{table_of, changes_of}

-- The content of an event. The old row is None if none was sent. An updated row's cells may be unsent. A tombstone follows a delete, so
-- that a log which keeps the last record of each key can drop the key.
pub data Content : Type 0 where
  Created : Row → Content
  Updated : Option Row → List Cell → Content
  Deleted : Option Row → Content
  Tombstone : Content
  Truncated : Content

-- The content of an event with its table and key.
pub record Notice : Type 0 where
  -- The table's index among the captured ones, and its description.
  pub table : ℕ
  pub info : TableInfo
  -- The key, None if the event is of the whole table.
  pub key : Option Key
  pub content : Content
  -- In a delete made by a moved key: the key that the row has now.
  pub newkey : Option Key
  -- In a create made by a moved key: the key that the row had.
  pub oldkey : Option Key

-- An event: its content, and its position in the log.
pub record Event : Type 0 where
  pub notice : Notice
  -- The commit's LSN.
  pub position : ℕ
  -- The event's number among those of its commit, from 0.
  pub ordinal : ℕ
  -- Whether it is the last of its commit.
  pub last : Bool

-- The content of an event that isn't part of a moved key.
abbrev pub notice : ℕ → TableInfo → Option Key → Content → Notice
notice table info key content = record { table = table; info = info; key = key; content = content; newkey = None; oldkey = None }

-- The events of an update that moves a row from one key to another: a delete, its tombstone and a create.
abbrev pub move_notices : ℕ → TableInfo → Key → Key → Option Row → Row → List Notice
move_notices table info from to old row =
    record (notice table info (Some from) (Deleted old)) { newkey = Some to }
    ∷ notice table info (Some from) Tombstone
    ∷ record (notice table info (Some to) (Created row)) { oldkey = Some from }
    ∷ []

-- The events of a change of the table.
abbrev pub change_notices : ℕ → TableInfo → Change → List Notice
change_notices table info (Insert _ row) = notice table info (Some (key_of info row.cells)) (Created row) ∷ []
change_notices table info (Update _ key old cells) =
    if same_key key (new_key_of info cells) then notice table info (Some key) (Updated old cells) ∷ []
    else move_notices table info key (new_key_of info cells) old (record { cells = map given_or_null cells })
change_notices table info (Delete _ key old) =
    notice table info (Some key) (Deleted (Some old)) ∷ notice table info (Some key) Tombstone ∷ []
change_notices table info (Clear _) = notice table info None Truncated ∷ []

-- The events of a change, none if no table is captured at its index.
abbrev pub notices : List TableInfo → Change → List Notice
notices infos c = unwrap_or (option_map (λ info. change_notices (table_of c) info c) (slice_get infos (table_of c))) []

-- Whether a list is empty.
abbrev pub is_nil : {A : Type 0} → List A → Bool
is_nil [] = true
is_nil (x ∷ xs) = false

-- The events at a position, numbered from an ordinal on; the last of them is marked as the last.
abbrev pub numbered : ℕ → ℕ → List Notice → List Event
numbered position ordinal [] = []
numbered position ordinal (n ∷ ns) =
    record { notice = n; position = position; ordinal = ordinal; last = is_nil ns } ∷ numbered position (ordinal + 1) ns

-- The events of a commit, change by change. Meant for changes that match the captured tables (`FitsInfos`): for others the result has no
-- meaning.
abbrev pub events_of : List TableInfo → Commit → List Event
events_of infos commit = numbered commit.lsn.0 0 (flat_map (notices infos) (changes_of commit))
