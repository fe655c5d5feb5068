-- Theorems over the definitions of logs, for both a played source and that of a demo.
use Rattle.std.specs.Prelude.{◌≡◌, ◌≤◌, ℕ, Bool, Some, None, option_map, unwrap_or, Ok, IsSome}
use Rattle.std.specs.Prelude.{filter_map, slice_get, List, [], ◌++◌, length, take, reverse}
use Rattle.std.specs.List.{AllByRecursion}
use Rattle.dbl_base.specs.declared.lsn.Lsn.{Lsn}
use Rattle.dbl_pgmsg.specs.declared.messages.Message.{Message}
use Rattle.dbl_model_table.specs.declared.row.Key.{Key}
use Rattle.dbl_model_table.specs.declared.table.TableInfo.{TableInfo}
use Rattle.dbl_model_table.specs.declared.table.TableName.{TableName}
use Rattle.dbl_model_table.specs.Infos.{column_types}
use Rattle.dbl_model_table.specs.declared.change.Change.{Change}
use Rattle.dbl_source_model.specs.ModelHistory.Typed.{typed_cells, typed_change}
use Rattle.dbl_source_model.specs.ModelHistory.Fit.{IsKeyOf, AreInfosOf, IsFitHistory}
use Rattle.dbl_source_model.specs.ModelHistory.InForce.{entry_at, version_at}
use Rattle.dbl_source_model.specs.ModelHistory.KeptKeys.{entry_in}
use Rattle.dbl_source_model.specs.ModelCommit.Past.{relation_of}
use Rattle.dbl_source_model.specs.ModelCommit.Stated.{list_of, stated_in, commits_of}
use Rattle.dbl_source_model.specs.Growth.{Grows}
use Rattle.dbl_source_model.specs.Stated.{commits_after, IsReadRight}
use Rattle.dbl_source_model.specs.Selected.{rows_up_to}
use Rattle.dbl_source_log.specs.declared.logged.LogTable.{LogTable}
use Rattle.dbl_source_log.specs.declared.logged.Logged.{Logged}
use Rattle.dbl_source_log.specs.declared.reader_position.ReaderPosition.{ReaderPosition}
use Rattle.dbl_source_log.specs.Relations.{catalogue, relation_at}
use Rattle.dbl_source_log.specs.Alterations.{tables_through, IsOthers}
use Rattle.dbl_source_log.specs.Sent.{oids_of, sent_after, index_of, told_at, IsPlaceIn}
use Rattle.dbl_source_log.specs.TextRows.{TextRows}
use Rattle.dbl_source_log.specs.RawChanges.{raw_changes}
use Rattle.dbl_source_log.specs.Histories.{history_of, rows_of}
use Rattle.dbl_source_log.specs.Fair.{AreNamed, IsChangeOf, IsFairLog}
use Rattle.dbl_source_log.specs.FitLogs.{AreFitLog}

-- Whether the messages that were read describe each of these tables as the log does.
abbrev pub AreDescribed : List LogTable → List ℕ → List Message → Type 0
AreDescribed tables oids past =
    AllByRecursion (λ oid. (relation_of oid past ≡ relation_of oid (list_of (relation_at tables oid))) × IsSome (relation_of oid past)) oids

-- A change without an error after the messages before states, of the captured tables, the changes that the history has for it.
abbrev pub ChangesStateThemselves : Type 0
ChangesStateThemselves = (tables : List LogTable) (infos : List TableInfo) (rows : TextRows) (past : List Message) (message : Message)
    (changed : Bool) (changes : List Change)
    → AreNamed tables → AreInfosOf (history_of tables []) infos → IsChangeOf tables message → AreDescribed tables (oids_of message) past
    → stated_in infos message past None changed ≡ Ok changes → changes ≡ filter_map (typed_change infos) (raw_changes tables rows message)

-- A log whose changes are valid as texts has a valid history, for any captured tables.
abbrev pub FitLogsHaveFitHistories : Type 0
FitLogsHaveFitHistories = (tables : List LogTable) (log : List Logged) → AreFitLog tables log → IsFitHistory (history_of tables log)

-- The rows of such a log, read as values, are the history's.
abbrev pub FitLogsHaveTheirRows : Type 0
FitLogsHaveTheirRows = (tables : List LogTable) (log : List Logged) (infos : List TableInfo) (table : ℕ) (info : TableInfo) (key : Key)
    → AreFitLog tables log → AreInfosOf (history_of tables log) infos
    → slice_get infos table ≡ Some info → IsKeyOf info key
    → rows_up_to infos (history_of tables log) (length log) table key ≡ option_map (typed_cells (column_types info))
    (rows_of tables log info.name key)

-- The messages that a reader of a fair log has read are correct, at any position.
abbrev pub FairLogsAreReadRight : Type 0
FairLogsAreReadRight = (tables : List LogTable) (log : List Logged) (place : ReaderPosition) → IsFairLog tables log
    → IsReadRight (history_of tables log) (record { after = place.after; messages = told_at tables log place })

-- A reader at the end of a fair log has read every commit after its start.
abbrev pub ReadersAtTheEndHaveReadAll : Type 0
ReadersAtTheEndHaveReadAll = (tables : List LogTable) (log : List Logged) (place : ReaderPosition) (infos : List TableInfo)
    → IsFairLog tables log → IsPlaceIn log place → length log ≤ index_of place
    → length (commits_after place.after (history_of tables log).commits) ≤ length (commits_of infos (told_at tables log place))

-- The messages read up to a position stay the same when the log grows.
abbrev pub ReadMessagesStay : Type 0
ReadMessagesStay = (tables : List LogTable) (log more : List Logged) (place : ReaderPosition) → IsPlaceIn log place
    → told_at tables (log ++ more) place ≡ told_at tables log place

-- The history of a log grows with it, unless a watermark was written.
abbrev pub LogsThatGrowHaveHistoriesThatGrow : Type 0
LogsThatGrowHaveHistoriesThatGrow = (tables : List LogTable) (log more : List Logged) → AllByRecursion IsOthers more
    → Grows (history_of tables log) (history_of tables (log ++ more))

-- After some commits of a log its history has the catalogue of the tables after these commits.
abbrev pub EntriesAreOfTables : Type 0
EntriesAreOfTables = (tables : List LogTable) (log : List Logged) (place : ℕ) (name : TableName)
    → (entry_at (history_of tables log) place name ≡ entry_in (catalogue (tables_through (take place log) tables)) name)
    × (version_at (history_of tables log) place name
    ≡ unwrap_or (option_map (λ raw. raw.version) (entry_in (catalogue (tables_through (take place log) tables)) name)) 1)

-- The messages that were read are a prefix of those that are sent.
abbrev pub ReadersReadWhatIsSent : Type 0
ReadersReadWhatIsSent = (tables : List LogTable) (log : List Logged) (place : ReaderPosition)
    → (rest : List Message) × (sent_after tables place.after log ≡ reverse (told_at tables log place) ++ rest)

-- The messages sent of a log are a prefix of those sent after it grows.
abbrev pub SentMessagesStay : Type 0
SentMessagesStay = (tables : List LogTable) (after : Lsn) (log more : List Logged)
    → (rest : List Message) × (sent_after tables after (log ++ more) ≡ sent_after tables after log ++ rest)
