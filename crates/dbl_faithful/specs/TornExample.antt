-- The smallest history with a torn window: insert a, low watermark, insert b, high watermark; and a log that has only the row of a that the
-- window read.
use Rattle.std.specs.Prelude.{ℕ, pos, true, false, Some, None, List, [], ◌∷◌, codes}
use Rattle.dbl_value_types.specs.declared.column_type.PgType.TheVariants as type
use Rattle.dbl_value_types.specs.declared.value.Val.TheVariants as val
use Rattle.dbl_record.specs.declared.record.Record.{Record}
use Rattle.dbl_model_table.specs.declared.identity.Identity.{Identity}
use Rattle.dbl_model_table.specs.declared.row.Key.{Key}
use Rattle.dbl_model_table.specs.declared.row.Row.{Row}
use Rattle.dbl_model_table.specs.declared.table.TableInfo.{TableInfo}
use Rattle.dbl_model_table.specs.declared.change.Body.{Body}
use Rattle.dbl_model_table.specs.declared.change.Body.TheVariants.{Changes, Mark}
use Rattle.dbl_model_table.specs.declared.change.Change.TheVariants.{Insert}
use Rattle.dbl_consume_laws.specs.ModelEvent.declared.closed.Closed.{Closed}
use Rattle.dbl_consume_laws.specs.ModelEvent.Snapshots.{read_record}
use Rattle.dbl_consume_courses.specs.Versions.{Versioned, plain_commit}
use Rattle.dbl_consume_courses.specs.FitVersions.{AreFitVersions}
use Rattle.dbl_faithful.specs.Controls.{IsTornWindow}

-- The identity of the example.
abbrev pub example_identity : Identity
example_identity = record { prefix = codes "p"; db = codes "d"; placeholder = codes "unset" }

-- A table with one column of texts, which is the key.
abbrev pub example_table : TableInfo
example_table = record {
  name = record { schema = codes "public"; name = codes "t" };
  columns = record { name = codes "k"; ty = type.Text } ∷ [];
  key = 0 ∷ [];
  -- The name is allowed, and the key is a column.
  sound = λ i. true;
}

-- The row with this text.
abbrev pub example_text_row : List ℕ → Row
example_text_row text = record { cells = val.Text text ∷ [] }

-- The key with this text.
abbrev pub keyed : List ℕ → Key
keyed text = record { cells = val.Text text ∷ [] }

-- A commit with this LSN and these contents, of a history where no table is altered.
abbrev pub example_version_at : ℕ → Body → Versioned
example_version_at lsn body = record {
  lsn = record { 0 = lsn };
  end_lsn = record { 0 = lsn };
  time = pos 0;
  xid = 1;
  body = body;
  infos = example_table ∷ [];
  altered = None;
}

-- The commit that inserts a.
abbrev pub first : Versioned
first = example_version_at 1 (Changes (Insert 0 (example_text_row (codes "a")) ∷ []))

-- The commit of the low watermark.
abbrev pub low_mark : Versioned
low_mark = example_version_at 2 (Mark (codes "1-1-L"))

-- The commit that inserts b.
abbrev pub late : Versioned
late = example_version_at 3 (Changes (Insert 0 (example_text_row (codes "b")) ∷ []))

-- The commit of the high watermark.
abbrev pub high_mark : Versioned
high_mark = example_version_at 4 (Mark (codes "1-1-H"))

-- The commits of the example.
abbrev pub example_versions : List Versioned
example_versions = first ∷ low_mark ∷ late ∷ high_mark ∷ []

-- A window of at most one row.
abbrev pub example_window : Closed
example_window = record {
  table = 0;
  rows = (keyed (codes "a"), example_text_row (codes "a")) ∷ [];
  through = Some (keyed (codes "a"));
  done = false;
}

-- The log of the example.
abbrev pub example_records : List Record
example_records =
    read_record example_identity example_table (plain_commit high_mark) (pos 0) 0 (keyed (codes "a"), example_text_row (codes "a")) ∷ []

-- The history is valid, and the window is torn after the first commit.
abbrev pub TornWindowsStand : Type 0
TornWindowsStand = AreFitVersions (example_table ∷ []) example_versions
    × IsTornWindow example_identity (example_table ∷ []) example_versions 1 late example_records
