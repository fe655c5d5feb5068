-- The smallest whole log with a row in it: one transaction, which describes a table of one column and inserts a row.
use Rattle.std.specs.Prelude.{◌≡◌, ℕ, pos, true, Some, None, List, [], ◌∷◌, map, codes}
use Rattle.std.specs.Str.{byte}
use Rattle.dbl_pgmsg.specs.declared.messages.Message.{Message}
use Rattle.dbl_pgmsg.specs.declared.messages.Message.TheVariants as says
use Rattle.dbl_pgmsg.specs.declared.messages.TupleCell.TheVariants as cell
use Rattle.dbl_pgmsg.specs.Grammar.{spelling}
use Rattle.dbl_value_types.specs.declared.column_type.PgType.TheVariants as type
use Rattle.dbl_value_types.specs.declared.value.Val.TheVariants as val
use Rattle.dbl_model_table.specs.declared.identity.Identity.{Identity}
use Rattle.dbl_model_table.specs.declared.row.Key.{Key}
use Rattle.dbl_model_table.specs.declared.table.RawTable.{RawTable}
use Rattle.dbl_model_table.specs.declared.table.TableInfo.{TableInfo}
use Rattle.dbl_model_table.specs.declared.table.TableName.{TableName}
use Rattle.dbl_model_history.specs.History.{RawCommit, History}
use Rattle.dbl_model_history.specs.History as raw
use Rattle.dbl_model_history.specs.Typed.{typed}
use Rattle.dbl_consume_laws.specs.Laws.{last_rows}
use Rattle.dblog_run.specs.Replay.declared.options.LogOptions.{LogOptions}
use Rattle.dblog_run.specs.Replay.Log.{lines_in}
use Rattle.dblog_laws.specs.Pipe.{IsWholeLog}

-- The identity of the example's connector.
abbrev pub example_identity : Identity
example_identity = record { prefix = codes "p"; db = codes "d"; placeholder = codes "unset" }

-- The options of `replay` in the example.
abbrev pub example_options : LogOptions
example_options = record { identity = example_identity; keys = []; mask = None }

-- The name of the example's table.
abbrev pub example_name : TableName
example_name = record { schema = codes "public"; name = codes "t" }

-- The messages of the transaction BEGIN; INSERT INTO t VALUES ('a'); COMMIT, after CREATE TABLE.
abbrev pub example_messages : List Message
example_messages =
    says.Begin (record { 0 = 16 }) (pos 0) 1
    ∷ says.Relation 1 (codes "public") (codes "t") (byte "d") (record { flags = 1; name = codes "k"; oid = 25; modifier = pos 0 } ∷ [])
    ∷ says.Insert 1 (record { cells = cell.Text (codes "a") ∷ [] })
    ∷ says.Commit 0 (record { 0 = 16 }) (record { 0 = 24 }) (pos 0)
    ∷ []

-- The bytes of the example's messages.
abbrev pub example_log : List (List ℕ)
example_log = map spelling example_messages

-- The example's table in the catalogue.
abbrev pub example_entry : RawTable
example_entry = record { name = example_name; columns = record { name = codes "k"; oid = 25 } ∷ []; key = codes "k" ∷ []; version = 1 }

-- The example's table as it is captured.
abbrev pub example_table : TableInfo
example_table = record {
  name = example_name;
  columns = record { name = codes "k"; ty = type.Text } ∷ [];
  key = 0 ∷ [];
  -- A proof that the name is valid and the key is a column.
  sound = λ i. true;
}

-- The example's transaction in the history.
abbrev pub example_commit : RawCommit
example_commit = record {
  lsn = record { 0 = 16 };
  end_lsn = record { 0 = 24 };
  time = pos 0;
  xid = 1;
  body = raw.Changes (raw.Insert example_name (record { cells = Some (codes "a") ∷ [] }) ∷ []);
}

-- The example's history.
abbrev pub example_history : History
example_history = record { tables = example_entry ∷ []; commits = example_commit ∷ [] }

-- The lines that `replay` writes for the example.
abbrev pub example_lines : List (List ℕ)
example_lines = lines_in example_identity (example_table ∷ []) (typed (example_table ∷ []) example_history) (pos 0)

-- The key of the example's row.
abbrev pub example_key : Key
example_key = record { cells = val.Text (codes "a") ∷ [] }

-- The example is a whole log of its history, whose last rows contain the example's row.
abbrev pub WholeLogsStand : Type 0
WholeLogsStand = IsWholeLog example_options (pos 0) example_log example_lines example_history
    × (last_rows (example_table ∷ []) (typed (example_table ∷ []) example_history) 0 example_key ≡ Some (val.Text (codes "a") ∷ []))
