-- What `replay` makes of the pieces of a log: the lines of the commits of their messages, up to the first error. Lists of messages have the
-- newest first.
use Rattle.std.specs.Prelude.{◌≡◌, ◌⊎◌, ℕ, ℤ, Bool, true, false, Option, Some, None, is_some, option_map, option_and_then, List, [], ◌∷◌}
use Rattle.std.specs.Prelude.{◌++◌, map, flat_map}
use Rattle.dbl_lines.specs.declared.status.Status.{Status}
use Rattle.dbl_lines.specs.declared.status.Status.TheVariants.{Done}
use Rattle.dbl_base.specs.declared.lsn.Lsn.{Lsn}
use Rattle.dbl_pgmsg.specs.declared.messages.Message.{Message}
use Rattle.dbl_record.specs.Line.{line_of}
use Rattle.dbl_model_table.specs.declared.identity.Identity.{Identity}
use Rattle.dbl_model_table.specs.declared.table.TableInfo.{TableInfo}
use Rattle.dbl_model_table.specs.declared.change.Commit.{Commit}
use Rattle.dbl_model_event.specs.Clashes.{Clash, clash_of}
use Rattle.dbl_model_event.specs.EventJson.{envelopes}
use Rattle.dbl_model_commit.specs.declared.txn_error.TxnError.{TxnError}
use Rattle.dbl_model_commit.specs.Past.{begin_of}
use Rattle.dbl_model_commit.specs.Stated.{list_of, ended_commit, transaction_fault}
use Rattle.dblog_replay.specs.declared.log_fault.LogFault.{LogFault}
use Rattle.dblog_replay.specs.declared.log_fault.LogFault.TheVariants as log
use Rattle.dblog_replay.specs.declared.options.LogOptions.{LogOptions}
use Rattle.dblog_replay.specs.Altered.{table_fault_of}
use Rattle.dblog_replay.specs.Captures.{AreCaptured}
use Rattle.dblog_replay.specs.LogFaults.{log_status, log_line}
use Rattle.dblog_replay.specs.Pieces.{Piece, Carries, Stops}

-- The lines of the records of these commits.
abbrev pub lines_in : Identity → List TableInfo → List Commit → ℤ → List (List ℕ)
lines_in identity infos commits now = map line_of (flat_map (λ commit. envelopes identity infos commit now) commits)

-- The start of a log, from which it is replayed.
abbrev pub log_start : Lsn
log_start = record { 0 = 0 }

-- After these messages the table that a message describes, if it describes one, can be captured or read in its columns, and these are the
-- captured tables from the message on.
pub record HasTables (options : LogOptions) (ms : List Message) (m : Message) (infos : List TableInfo) : Type 0 where
  pub before : List TableInfo
  pub known : AreCaptured options.keys ms before
  pub readable : (number : ℕ) → table_fault_of options before number m ms ≡ None
  pub captured : AreCaptured options.keys (m ∷ ms) infos

-- The error of a cell whose text is equal to the placeholder of unsent values.
abbrev pub placeholder_fault : Clash → LogFault
placeholder_fault clash = log.Placeholder clash.table clash.column

-- Why a commit's records can't be made.
abbrev pub commit_fault : Identity → List TableInfo → Commit → Option LogFault
commit_fault identity infos commit = option_map placeholder_fault (clash_of identity infos commit)

-- Why the records of the commit that a message ends can't be made.
abbrev pub records_fault : Identity → List TableInfo → Message → List Message → Option LogFault
records_fault identity infos m ms = option_and_then (commit_fault identity infos) (ended_commit infos m ms)

-- The error of a message of this number after these: the table that it describes can't be captured, or not be read in its columns; it
-- can't follow them; or it ends a commit whose records can't be made.
pub data IsLogFault (options : LogOptions) (ms : List Message) (number : ℕ) (m : Message) (fault : LogFault) : Type 0 where
  no_table : (before : List TableInfo) → AreCaptured options.keys ms before → table_fault_of options before number m ms ≡ Some fault
      → IsLogFault options ms number m fault
  no_place : (infos : List TableInfo) (error : TxnError) → HasTables options ms m infos
      → transaction_fault infos log_start m ms ≡ Some error
      → fault ≡ log.Transaction number error → IsLogFault options ms number m fault
  no_records : (infos : List TableInfo) → HasTables options ms m infos → transaction_fault infos log_start m ms ≡ None
      → records_fault options.identity infos m ms ≡ Some fault → IsLogFault options ms number m fault

-- A message after these has no error, and these are the captured tables then.
pub record IsTaken (options : LogOptions) (ms : List Message) (m : Message) (infos : List TableInfo) : Type 0 where
  pub tables : HasTables options ms m infos
  pub placed : transaction_fault infos log_start m ms ≡ None
  pub made : records_fault options.identity infos m ms ≡ None

-- The error of a log's end, which may be within a transaction.
abbrev pub end_fault : Bool → Option LogFault
end_fault true = Some log.Unfinished
end_fault false = None

-- The message of this number, after these, has an error: no line is written.
pub record IsStopped (options : LogOptions) (ms : List Message) (number : ℕ) (m : Message) (lines : List (List ℕ)) (end : Option LogFault)
    : Type 0 where
  pub fault : LogFault
  pub is : IsLogFault options ms number m fault
  pub none : lines ≡ []
  pub told : end ≡ Some fault

-- Pieces after these messages write these lines, those of the commits before the first error, and end with this error or none.
abbrev pub LogWrites : LogOptions → ℤ → List Message → List Piece → List (List ℕ) → Option LogFault → Type 0
LogWrites options now ms [] lines end = (lines ≡ []) × (end ≡ end_fault (is_some (begin_of ms)))
LogWrites options now ms (Stops fault ∷ pieces) lines end = (lines ≡ []) × (end ≡ Some fault)
LogWrites options now ms (Carries number m ∷ pieces) lines end =
    IsStopped options ms number m lines end
    ⊎ ((infos : List TableInfo) × (more : List (List ℕ)) × IsTaken options ms m infos
    × (lines ≡ lines_in options.identity infos (list_of (ended_commit infos m ms)) now ++ more)
    × LogWrites options now (m ∷ ms) pieces more end)

-- The status of a log's end.
abbrev pub end_status : Option LogFault → Status
end_status None = Done
end_status (Some fault) = log_status fault

-- The line of a log's error, if there is one.
abbrev pub end_lines : Option LogFault → List (List ℕ)
end_lines None = []
end_lines (Some fault) = log_line fault ∷ []
