-- Three sessions over a small history of one table without rows. The first stops after its first store, and another client commits. The
-- second reads and confirms that commit, and stops after it wrote the low watermark of its first window. The third finds that watermark.
use Rattle.std.specs.Prelude.{ℕ, pos, true, false, Some, None, List, [], ◌∷◌, codes}
use Rattle.dbl_model_table.specs.Value.declared.column_type.PgType.TheVariants as type
use Rattle.dbl_model_table.specs.declared.config.Config.{Config}
use Rattle.dbl_model_table.specs.declared.identity.Identity.{Identity}
use Rattle.dbl_model_table.specs.declared.table.RawTable.{RawTable}
use Rattle.dbl_model_table.specs.declared.table.TableInfo.{TableInfo}
use Rattle.dbl_model_table.specs.declared.table.TableName.{TableName}
use Rattle.dbl_model_history.specs.declared.cursor.Cursor.{Cursor}
use Rattle.dbl_model_history.specs.History.{RawBody, RawCommit, History}
use Rattle.dbl_model_history.specs.History.RawBody.{Changes, Mark}
use Rattle.dbl_model_history.specs.MarkTexts.{Low, mark_text}
use Rattle.dbl_capture_laws.specs.Offset.declared.offset.Offset.{Offset}
use Rattle.dblog_promise.specs.Restarts.{FoundStores, ByRules, After, IsUnused}

-- The identity of the example's connector.
abbrev pub example_identity : Identity
example_identity = record { prefix = codes "p"; db = codes "d"; placeholder = codes "unset" }

-- The name of the example's table.
abbrev pub example_name : TableName
example_name = record { schema = codes "public"; name = codes "t" }

-- The example's table in the catalogue: a column of texts, which is its key.
abbrev pub example_entry : RawTable
example_entry = record { name = example_name; columns = record { name = codes "k"; oid = 25 } ∷ []; key = codes "k" ∷ []; version = 1 }

-- The example's table as it is captured.
abbrev pub example_table : TableInfo
example_table = record {
  name = example_name;
  columns = record { name = codes "k"; ty = type.Text } ∷ [];
  key = 0 ∷ [];
  -- A proof that the name is valid and the key is a column.
  sound = λ i. true;
}

-- The configuration of each of the example's sessions: the table, and a store after every commit.
abbrev pub example_config : Config
example_config = record { identity = example_identity; tables = example_name ∷ []; chunk = 1; every = 1; messages = 1 }

-- A commit with this LSN and this body.
abbrev pub example_raw_commit : ℕ → RawBody → RawCommit
example_raw_commit lsn body = record { lsn = record { 0 = lsn }; end_lsn = record { 0 = lsn }; time = pos 0; xid = 1; body = body }

-- A history of these commits, with the table.
abbrev pub example_history_of : List RawCommit → History
example_history_of commits = record { tables = example_entry ∷ []; commits = commits }

-- The history that the first session finds.
abbrev pub one_commit : History
one_commit = example_history_of (example_raw_commit 1 (Changes []) ∷ [])

-- The history after another client has committed.
abbrev pub two_commits : History
two_commits = example_history_of (example_raw_commit 1 (Changes []) ∷ (example_raw_commit 2 (Changes []) ∷ []))

-- The history with the low watermark that the second session wrote.
abbrev pub marked : History
marked = example_history_of
    (example_raw_commit 1 (Changes []) ∷ (example_raw_commit 2 (Changes []) ∷ (example_raw_commit 3 (Mark (mark_text 2 1 Low)) ∷ [])))

-- The progress of the table's copy: none of its rows was read.
abbrev pub example_cursor : Cursor
example_cursor = record { last = None; done = false }

-- An offset of this incarnation, at this LSN.
abbrev pub example_offset : ℕ → ℕ → Offset
example_offset incarnation lsn = record {
  identity = example_identity;
  incarnation = incarnation;
  start = record { 0 = 1 };
  lsn = record { 0 = lsn };
  end_lsn = record { 0 = lsn };
  infos = example_table ∷ [];
  cursors = example_cursor ∷ [];
  versions = 1 ∷ [];
}

-- What the first session finds: one commit, an empty topic log and no offset.
abbrev pub example_first : FoundStores
example_first = record { history = one_commit; confirmed = record { 0 = 0 }; groups = []; offset = None }

-- What the third session leaves.
abbrev pub example_last : FoundStores
example_last = record { history = marked; confirmed = record { 0 = 2 }; groups = []; offset = Some (example_offset 3 2) }

-- Three sessions by the rules lead from unused stores to the example's last state.
abbrev pub ThreeSessionsStand : Type 0
ThreeSessionsStand = IsUnused example_first
    × After ByRules example_first (example_config ∷ (example_config ∷ (example_config ∷ []))) example_last
