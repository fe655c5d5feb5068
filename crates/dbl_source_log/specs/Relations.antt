-- The tables of a log, their OIDs, and the Relations that describe them. PostgreSQL's "Logical Replication Message Formats", Relation; the
-- OIDs are this project's own.
use Rattle.std.specs.Prelude.{◌^◌, ℕ, negsuc, ◌+◌, ◌-◌, ◌==◌, ◌||◌, nat_lt, not, Bool, if◌then◌else◌}
use Rattle.std.specs.Prelude.{Option, Some, None, option_map, filter, slice_get, List, [], ◌∷◌, map, codes}
use Rattle.std.specs.List.{list_any}
use Rattle.std.specs.Str.{byte, bytes_eq}
use Rattle.dbl_pgmsg.specs.declared.messages.Message.{Message}
use Rattle.dbl_pgmsg.specs.declared.messages.Message.TheVariants as says
use Rattle.dbl_pgmsg.specs.declared.messages.RelationColumn.{RelationColumn}
use Rattle.dbl_pgmsg.specs.declared.messages.TupleCell.TheVariants as cell
use Rattle.dbl_model_table.specs.declared.table.RawColumn.{RawColumn}
use Rattle.dbl_model_table.specs.declared.table.RawTable.{RawTable}
use Rattle.dbl_model_table.specs.Tables.{is_watermark}
use Rattle.dbl_source_log.specs.declared.logged.LogTable.{LogTable}

-- The OID of the first table, where PostgreSQL's own OIDs of users' tables begin; table number i, from 0, has the OID 16384 + i.
abbrev pub first_oid : ℕ
first_oid = 16384

-- The limit of the number of tables, below which OIDs have 32 bits.
abbrev pub oid_limit : ℕ
oid_limit = 2 ^ 31

-- The OID of the watermark table, before all others.
abbrev pub watermark_oid : ℕ
watermark_oid = 16383

-- The table with this OID.
abbrev pub table_at : List LogTable → ℕ → Option LogTable
table_at tables oid = if nat_lt oid first_oid then None else slice_get tables (oid - first_oid)

-- The tables of the source's catalogue. The watermark table isn't one of them: its rows are not captured.
abbrev pub catalogue : List LogTable → List RawTable
catalogue tables = filter (λ raw. not (is_watermark raw.name)) (map (λ table. table.raw) tables)

-- Whether a column is in the replica identity: every one under full identity, otherwise those of the primary key.
abbrev pub is_in_identity : LogTable → RawColumn → Bool
is_in_identity table column = table.full || list_any (bytes_eq column.name) table.raw.key

-- The description of a column in a Relation.
abbrev pub relation_column : LogTable → RawColumn → RelationColumn
relation_column table
    column = record { flags = (if is_in_identity table column then 1 else 0); name = column.name; oid = column.oid; modifier = negsuc 0 }

-- The letter of a table's replica identity.
abbrev pub identity_of : LogTable → ℕ
identity_of table = if table.full then byte "f" else byte "d"

-- The Relation of the table with this OID.
abbrev pub relation_message : ℕ → LogTable → Message
relation_message oid table =
    says.Relation oid table.raw.name.schema table.raw.name.name (identity_of table) (map (relation_column table) table.raw.columns)

-- The columns of the watermark table: a key `id` of int4, and a text `value`.
abbrev pub watermark_columns : List RelationColumn
watermark_columns =
    record { flags = 1; name = codes "id"; oid = 23; modifier = negsuc 0 }
    ∷ record { flags = 0; name = codes "value"; oid = 25; modifier = negsuc 0 } ∷ []

-- The Relation of the watermark table.
abbrev pub watermark_relation : Message
watermark_relation = says.Relation watermark_oid (codes "public") (codes "dblog_watermark") (byte "d") watermark_columns

-- The Update that sets the one row of the watermark table to this value.
abbrev pub mark_message : List ℕ → Message
mark_message value = says.Update watermark_oid None (record { cells = cell.Text (codes "1") ∷ cell.Text value ∷ [] })

-- The Relation of the table with this OID, the watermark table included.
abbrev pub relation_at : List LogTable → ℕ → Option Message
relation_at tables oid = if oid == watermark_oid then Some watermark_relation else option_map (relation_message oid) (table_at tables oid)

-- The Relations of tables whose first one has this OID.
abbrev pub relations_from : ℕ → List LogTable → List Message
relations_from oid [] = []
relations_from oid (table ∷ tables) = relation_message oid table ∷ relations_from (oid + 1) tables

-- The Relations of all tables.
abbrev pub all_relations : List LogTable → List Message
all_relations tables = relations_from first_oid tables
