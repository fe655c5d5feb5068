-- Fair logs: their changes are such as a server sends, so that the messages read of them state their history.
use Rattle.std.specs.Prelude.{◌≡◌, ◌≢◌, false, IsTrue, None, IsSomeAnd, List, [], ◌∷◌, map}
use Rattle.std.specs.List.{AllByRecursion}
use Rattle.dbl_pgmsg.specs.declared.messages.Message.{Message}
use Rattle.dbl_pgmsg.specs.declared.messages.Message.TheVariants as says
use Rattle.dbl_pgmsg.specs.Grammar.{Fits}
use Rattle.dbl_model_table.specs.declared.table.TableInfo.{TableInfo}
use Rattle.dbl_model_table.specs.Tables.{is_watermark, same_name, are_distinct}
use Rattle.dbl_source_model.specs.ModelHistory.Fit.{AreInfosOf}
use Rattle.dbl_source_model.specs.ModelCommit.Stated.{err_of, stated_in}
use Rattle.dbl_source_model.specs.Stated.{MayStand}
use Rattle.dbl_source_log.specs.declared.logged.LogTable.{LogTable}
use Rattle.dbl_source_log.specs.declared.logged.Logged.{Logged}
use Rattle.dbl_source_log.specs.declared.logged.Logged.TheVariants.{Changes, Mark, Alter}
use Rattle.dbl_source_log.specs.Relations.{table_at, catalogue, all_relations}
use Rattle.dbl_source_log.specs.Alterations.{IsUnaltered, altered_table, tables_after}
use Rattle.dbl_source_log.specs.Sent.{oids_of, onto_relations}

-- Whether a message is a change: an Insert, an Update, a Delete or a Truncate.
abbrev pub IsChange : Message → Type 0
IsChange (says.Insert oid new) = Unit {0}
IsChange (says.Update oid before new) = Unit {0}
IsChange (says.Delete oid before) = Unit {0}
IsChange (says.Truncate options oids) = Unit {0}
IsChange m = ⊥

-- Whether a message is a change that has an encoding, of tables of the log, and not of the watermark table.
pub record IsChangeOf (tables : List LogTable) (message : Message) : Type 0 where
  pub change : IsChange message
  pub fits : Fits message
  pub known : AllByRecursion (λ oid. IsSomeAnd (table_at tables oid) (λ table. is_watermark table.raw.name ≡ false)) (oids_of message)

-- Whether, for any captured tables, the change has no error except of content after the Relations of its tables, in a transaction without a
-- watermark.
abbrev pub HasFewFaults : List LogTable → Message → Type 0
HasFewFaults tables message =
    (infos : List TableInfo) → AreInfosOf (record { tables = catalogue tables; commits = [] }) infos
    → MayStand (err_of (stated_in infos message (onto_relations tables (oids_of message) []) None false))

-- The change messages of a commit; a watermark's message is the log's own, and an alteration has none.
abbrev pub changes_given : Logged → List Message
changes_given (Changes ms) = ms
changes_given (Mark value) = []
changes_given (Alter name columns rows) = []

-- Whether the tables have distinct names, also as their Relations name them: an empty schema would be read as `pg_catalog`.
pub record AreNamed (tables : List LogTable) : Type 0 where
  pub schemas : AllByRecursion (λ table. table.raw.name.schema ≢ []) tables
  pub distinct : IsTrue (are_distinct same_name (map (λ table. table.raw.name) tables))

-- Whether the changes of a commit are such as a server sends, of tables as they are just before it. After an alteration each table's Relation
-- has an encoding.
abbrev pub IsFairEntry : List LogTable → Logged → Type 0
IsFairEntry tables (Changes ms) = AllByRecursion (λ message. IsChangeOf tables message × HasFewFaults tables message) ms
IsFairEntry tables (Mark value) = Unit {0}
IsFairEntry tables (Alter name columns rows) = AllByRecursion Fits (all_relations (map (altered_table name columns) tables))

-- Whether each commit of a log is such, given the tables just before the first.
abbrev pub AreFairEntries : List LogTable → List Logged → Type 0
AreFairEntries tables [] = Unit {0}
AreFairEntries tables (entry ∷ log) = IsFairEntry tables entry × AreFairEntries (tables_after entry tables) log

-- Whether a log is fair: its tables are named distinctly, its Relations and changes are such as a server sends, and no commit alters a table.
pub record IsFairLog (tables : List LogTable) (log : List Logged) : Type 0 where
  pub named : AreNamed tables
  -- Each table's Relation has an encoding.
  pub relations : AllByRecursion Fits (all_relations tables)
  pub entries : AreFairEntries tables log
  pub unaltered : IsUnaltered log
