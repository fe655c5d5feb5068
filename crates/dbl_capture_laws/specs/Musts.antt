-- When a session has to stop with an error.
use Rattle.std.specs.Prelude.{◌≡◌, ◌⊎◌, ℕ, ℤ, ◌+◌, ◌<◌, ◌≤◌, Contains, Option, Some, None, Result, Err, List, [], ◌∷◌, ◌++◌, length, slice_get}
use Rattle.std.specs.List.{AllByRecursion}
use Rattle.dbl_base.specs.declared.lsn.Lsn.{Lsn}
use Rattle.dbl_pgmsg.specs.declared.error.MsgError.{MsgError}
use Rattle.dbl_record.specs.declared.record.Record.{Record}
use Rattle.dbl_record.specs.Groups.{group_form}
use Rattle.dbl_model_table.specs.declared.config.Config.{Config}
use Rattle.dbl_model_table.specs.declared.error.ModelError.{ModelError}
use Rattle.dbl_model_table.specs.declared.change.Body.TheVariants.{Changes}
use Rattle.dbl_model_table.specs.declared.change.Change.{Change}
use Rattle.dbl_model_table.specs.declared.change.Commit.{Commit}
use Rattle.dbl_model_table.specs.declared.table.RawTable.{RawTable}
use Rattle.dbl_model_table.specs.declared.table.TableName.{TableName}
use Rattle.dbl_model_table.specs.Made.{table_fault}
use Rattle.dbl_pgmsg.specs.declared.messages.Message.{Message}
use Rattle.dbl_capture_work.specs.ModelCommit.Blocks.{AreWithoutFault}
use Rattle.dbl_capture_work.specs.ModelCommit.declared.txn_error.TxnError.{TxnError}
use Rattle.dbl_capture_work.specs.ModelEvent.Clashes.{Clash, clash_of}
use Rattle.dbl_capture_work.specs.ModelEvent.EventJson.{envelopes}
use Rattle.dbl_capture_work.specs.ModelHistory.History.{History}
use Rattle.dbl_capture_work.specs.SourceModel.declared.selected.Selected.{Selected}
use Rattle.dbl_capture_work.specs.SourceModel.Standings.{Reading, SourceState}
use Rattle.dbl_capture_work.specs.SourceModel.declared.started.Started.TheVariants.{Gone}
use Rattle.dbl_capture_work.specs.SourceModel.Trace.{Trace, Began, Described, RowsSelected}
use Rattle.dbl_capture_work.specs.Offset.declared.offset.Offset.{Offset}
use Rattle.dbl_capture_work.specs.Window.declared.error.WindowError.{WindowError}
use Rattle.dbl_capture_work.specs.Window.Plans.{Plan}
use Rattle.dbl_capture_work.specs.Window.Reading.{answer_read}
use Rattle.dbl_capture_work.specs.declared.halt.Halt.{Halt}
use Rattle.dbl_capture_work.specs.declared.halt.Halt.TheVariants as halt
use Rattle.dbl_capture_work.specs.declared.report.Ending.{Ending}
use Rattle.dbl_capture_work.specs.declared.report.Report.{Report}
use Rattle.dbl_capture_work.specs.Begins.{CanBeCaptured, IsExhausted}
use Rattle.dbl_capture_work.specs.Causes.{IsLongRecord}
use Rattle.dbl_capture_work.specs.Halts.{window_halt}
use Rattle.dbl_capture_work.specs.Works.{open_commit}
use Rattle.dbl_capture_laws.specs.Found.{HasStored}
use Rattle.dbl_capture_laws.specs.Halted.{EndsCommit, IsMessageFault, IsNextPlan, IsTxnFault, WasStood, WasTold}
use Rattle.dbl_topic.specs.Sinks.{group_limit}

-- The session stops with this error, or out of memory.
abbrev pub HaltsWith : Halt → Result Ending Halt → Type 0
HaltsWith h result = (result ≡ Err h) ⊎ (result ≡ Err halt.Memory)

-- The session stops with this error, out of memory, or because a call of the source failed.
abbrev pub HaltsOrFails : Halt → Result Ending Halt → Type 0
HaltsOrFails h result = HaltsWith h result ⊎ (result ≡ Err halt.Source)

-- The session stops because a record is too long, the sink failed before it, or memory ran out.
abbrev pub HaltsAtRecord : List Record → Result Ending Halt → Type 0
HaltsAtRecord records result = (h : Halt) × (result ≡ Err h) × ((h ≡ halt.Memory) ⊎ ((h ≡ halt.Sink) ⊎ IsLongRecord records h))

-- ---- by the messages that were read

-- The session stops if the newest message is invalid; or if the changes that the messages, but perhaps the newest, state in a transaction
-- have a value equal to the placeholder, or else a record that is too long, once the record after it is known not to be the transaction's
-- last one, or at the transaction's end.
pub record MustHaltBy (now : ℤ) (offset : Offset) (reading : Reading) (result : Result Ending Halt) : Type 0 where
  pub txn : (number : ℕ) (error : TxnError) → IsTxnFault offset.infos reading number error → HaltsWith (halt.Txn number error) result
  pub clash : (commit : Commit) (changes : List Change) (c : Clash) → EndsCommit offset.infos reading commit → commit.body ≡ Changes changes
      → clash_of offset.identity offset.infos commit ≡ Some c → HaltsWith (halt.Clash c.table c.column) result
  pub met : (newest earlier : List Message) (c : Clash) → length newest ≤ 1 → reading.messages ≡ newest ++ earlier
      → AreWithoutFault offset.infos reading.after earlier
      → clash_of offset.identity offset.infos (open_commit offset.infos earlier) ≡ Some c → HaltsWith (halt.Clash c.table c.column) result
  pub long_so_far : (newest earlier : List Message) (place : ℕ) (item : Record) → length newest ≤ 1 → reading.messages ≡ newest ++ earlier
      → AreWithoutFault offset.infos reading.after earlier
      → clash_of offset.identity offset.infos (open_commit offset.infos earlier) ≡ None
      → slice_get (envelopes offset.identity offset.infos (open_commit offset.infos earlier) now) place ≡ Some item
      → place + 2 < length (envelopes offset.identity offset.infos (open_commit offset.infos earlier) now)
      → group_limit < length (group_form (item ∷ []))
      → HaltsAtRecord (envelopes offset.identity offset.infos (open_commit offset.infos earlier) now) result
  pub long : (commit : Commit) (changes : List Change) (place : ℕ) (item : Record) → EndsCommit offset.infos reading commit
      → commit.body ≡ Changes changes
      → clash_of offset.identity offset.infos commit ≡ None
      → slice_get (envelopes offset.identity offset.infos commit now) place ≡ Some item → group_limit < length (group_form (item ∷ []))
      → HaltsAtRecord (envelopes offset.identity offset.infos commit now) result

-- The session stops with the error that the messages of the source's trace require.
abbrev pub MustHaltTold : Config → ℤ → Option Offset → Option Offset → Report → Trace → Result Ending Halt → Type 0
MustHaltTold config now old new report told result =
    (reading : Reading) → (was : WasTold config old new report (Some told) reading) → MustHaltBy now was.stored.offset reading result

-- The session stops with the error that the messages of the source's state require.
abbrev pub MustHaltStood : Config → ℤ → Option Offset → Option Offset → Report → SourceState → Result Ending Halt → Type 0
MustHaltStood config now old new report t result =
    (reading : Reading) → (was : WasStood config old new report t reading) → MustHaltBy now was.stored.offset reading result

-- ---- by the source's last answer

-- The session stops with an error if the source's last answer is invalid.
pub record MustHalt (config : Config) (old new : Option Offset) (report : Report) (t : Trace) (result : Result Ending Halt) : Type 0 where
  pub message : (number : ℕ) (error : MsgError) → length t.read ≡ report.messages → IsMessageFault t.read number error
      → HaltsWith (halt.Message number error) result
  -- The version and the rows of the next window require the error of their first fault.
  pub rows : (answered : Selected) (stored : HasStored config old new) (plan : Plan) (error : WindowError)
      → t.answer ≡ RowsSelected answered → IsNextPlan config report stored.offset plan → answer_read plan answered ≡ Err error
      → HaltsOrFails (window_halt plan.info.name error) result
  pub described : (raw : RawTable) (error : ModelError) → old ≡ None → new ≡ None → t.answer ≡ Described (Some raw)
      → table_fault raw ≡ Some error → HaltsOrFails (halt.Model error) result
  -- The answer doesn't reveal which of the configured tables is unknown.
  pub unknown : old ≡ None → new ≡ None → t.answer ≡ Described None
      → (name : TableName) × Contains config.tables name × HaltsOrFails (halt.UnknownTable name) result
  pub gone : (first : Lsn) (stored : HasStored config old new) → t.answer ≡ Began (Gone first)
      → HaltsOrFails (halt.Gone stored.offset.lsn first) result

-- ---- by what the session found

-- The session stops if the stored incarnation is the greatest that is possible.
abbrev pub MustExhaust : Option Offset → Result Ending Halt → Type 0
MustExhaust old result = (h : Halt) → IsExhausted old h → result ≡ Err h

-- If the session stored a first offset, each of its tables can be captured as the catalogue has it.
abbrev pub CapturesAll : Config → Option Offset → Option Offset → History → Type 0
CapturesAll config old new history = old ≡ None → HasStored config old new → AllByRecursion (CanBeCaptured history) config.tables
