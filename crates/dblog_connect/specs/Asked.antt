-- The session that the arguments of `capture` and `resume` request.
use Rattle.std.specs.Prelude.{◌≡◌, ◌-◌, ◌^◌, ℕ, Option, Some, None, unwrap_or, List, [], ◌∷◌, map}
use Rattle.dbl_hooks_gate.specs.declared.rule.Rule.{Rule}
use Rattle.dbl_hooks_gate.specs.declared.rule.Rule.TheVariants.{MaxValue}
use Rattle.dbl_model_table.specs.declared.config.Config.{Config}
use Rattle.dbl_model_table.specs.declared.table.TableInfo.{TableInfo}
use Rattle.dbl_model_table.specs.declared.table.TableName.{TableName}
use Rattle.dbl_cli_commands.specs.declared.commands.CaptureOptions.{CaptureOptions}
use Rattle.dbl_cli_commands.specs.declared.commands.ResumeOptions.{ResumeOptions}
use Rattle.dbl_cli_commands.specs.Limits.{AreGoodNames, AreGoodTables, IsGoodPace}
use Rattle.dbl_offset_content.specs.declared.offset.Offset.{Offset}
use Rattle.dbl_demo.specs.DemoWal.Wals.{Wal}
use Rattle.dblog_promise.specs.Contents.{Contents}
use Rattle.dblog_connect.specs.declared.asked.Asked.{Asked}
use Rattle.dblog_connect.specs.declared.asked.Asked.TheVariants.{First, Again}
use Rattle.dblog_connect_ends.specs.declared.error.ConnectError.{ConnectError}
use Rattle.dblog_connect_ends.specs.declared.error.ConnectError.TheVariants.{AlreadyStarted, NotStarted}

-- The arguments are within the limits.
abbrev pub IsAskedWithinLimits : Asked → Type 0
IsAskedWithinLimits (First options) =
    AreGoodNames options.prefix options.db options.placeholder × IsGoodPace options.chunk options.every options.messages
    × AreGoodTables options.tables
IsAskedWithinLimits (Again options) = IsGoodPace options.chunk options.every options.messages

-- ---- captured tables

-- The names of some tables.
abbrev pub names_of : List TableInfo → List TableName
names_of infos = map (λ info. info.name) infos

-- The names of a workload's tables, in the order of their lines.
abbrev pub workload_tables : Wal → List TableName
workload_tables wal = map (λ table. table.info.name) wal.workload.tables

-- The tables that the arguments name, or all if they name none.
abbrev pub tables_or : List TableName → List TableName → List TableName
tables_or [] all = all
tables_or (table ∷ tables) all = table ∷ tables

-- ---- configuration

-- The configuration of a first session, of a source with these tables.
abbrev pub config_of : CaptureOptions → List TableName → Config
config_of options all = record {
  identity = record { prefix = options.prefix; db = options.db; placeholder = options.placeholder };
  tables = tables_or options.tables all;
  chunk = options.chunk;
  every = options.every;
  messages = options.messages;
}

-- The configuration of a later session, with the connector and the tables of the offset.
abbrev pub config_again : Offset → ResumeOptions → Config
config_again offset options = record {
  identity = offset.identity;
  tables = names_of offset.infos;
  chunk = options.chunk;
  every = options.every;
  messages = options.messages;
}

-- The configuration of a session over a source with these tables, or none if it is refused: a first one requires that no offset is stored,
-- a later one that one is.
abbrev pub asks_of : Asked → List TableName → Option Offset → Option Config
asks_of (First options) all None = Some (config_of options all)
asks_of (First options) all (Some offset) = None
asks_of (Again options) all None = None
asks_of (Again options) all (Some offset) = Some (config_again offset options)

-- The error of a refused session: an offset is stored, or none is.
abbrev pub Refuses : Asked → Option Offset → ConnectError → Type 0
Refuses (First options) None e = ⊥
Refuses (First options) (Some offset) e = e ≡ AlreadyStarted
Refuses (Again options) None e = e ≡ NotStarted
Refuses (Again options) (Some offset) e = ⊥

-- The maximum length in bytes of a record's value, if the arguments name one.
abbrev pub limit_of : Asked → Option ℕ
limit_of (First options) = options.max_value
limit_of (Again options) = options.max_value

-- What the session's receiver accepts: any record if the arguments name no length.
abbrev pub rule_of : Asked → Rule
rule_of asked = MaxValue (unwrap_or (limit_of asked) (2 ^ 64 - 1))

-- How many messages the session may read.
abbrev pub budget_of : Asked → ℕ
budget_of (First options) = options.messages
budget_of (Again options) = options.messages

-- The configuration of a session over disks with these contents, or none if it is refused.
abbrev pub asks_in : Asked → Contents → Option Config
asks_in asked held = asks_of asked (workload_tables held.wal) held.offset
