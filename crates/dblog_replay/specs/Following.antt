-- For private clauses: the state after the processed messages.
use Rattle.std.specs.Prelude.{◌≡◌, ◌⊎◌, ℕ, Option, None, Some, Result, Ok, Err, option_map, List, ◌∷◌}
use Rattle.std.specs.List.{AllByRecursion}
use Rattle.dbl_pgmsg.specs.declared.messages.Message.{Message}
use Rattle.dbl_pgmsg.specs.declared.messages.RelationColumn.{RelationColumn}
use Rattle.dbl_pgmsg.specs.Grammar.{FitsFields, Spells}
use Rattle.dbl_model_table.specs.declared.table.TableInfo.{TableInfo}
use Rattle.dbl_model_table.specs.declared.change.Commit.{Commit}
use Rattle.dbl_model_commit.specs.Past.{table_named}
use Rattle.dbl_model_commit.specs.Stated.{ended_commit, transaction_fault}
use Rattle.dbl_model_commit.specs.declared.txn_error.TxnError.{TxnError}
use Rattle.dbl_model_commit.specs.Shapes.{shape_fault}
use Rattle.dbl_txn_shapes.specs.declared.reader.Read.{Read}
use Rattle.dbl_model_commit.specs.Shaped.{shapes_after}
use Rattle.dbl_txn_shapes.specs.Shaping.{StandsShaped, TakenShaped, reading_fault}
use Rattle.dblog_replay.specs.declared.log_fault.LogFault.{LogFault}
use Rattle.dblog_replay.specs.declared.log_fault.LogFault.TheVariants as log
use Rattle.dblog_replay.specs.declared.options.LogOptions.{LogOptions}
use Rattle.dblog_replay.specs.declared.masking.MaskingReplayer.{MaskingReplayer}
use Rattle.dblog_replay.specs.declared.replay.Replayer.{Replayer}
use Rattle.dblog_replay.specs.Altered.{table_fault_of, masking_in}
use Rattle.dblog_replay.specs.Captures.{entry_of, new_table, tables_in, AreCaptured}
use Rattle.dblog_replay.specs.Masked.{masked_with, all_masked, AreMapped}
use Rattle.dblog_replay.specs.Pieces.{IsPiece, Stops}
use Rattle.dblog_replay.specs.Log.{log_start, HasTables, IsLogFault}

-- The state after these messages, with these tables captured, each in the columns of its last Relation.
pub record HasReplayed (options : LogOptions) (infos : List TableInfo) (ms : List Message) (r : Replayer) : Type 0 where
  pub stands : StandsShaped infos log_start ms r.assembler
  pub identity : r.writer.identity ≡ options.identity
  pub keys : r.keys ≡ options.keys
  pub mask : r.mask ≡ options.mask
  pub writes : r.writer.infos ≡ infos

-- The state after these messages, with the tables captured that they describe.
pub record FollowsMessages (options : LogOptions) (ms : List Message) (r : Replayer) : Type 0 where
  pub infos : List TableInfo
  pub replayed : HasReplayed options infos ms r
  pub captured : AreCaptured options.keys ms infos
  pub fields : AllByRecursion FitsFields ms

-- The state after these messages, each masked as the options request.
pub record FollowsMasked (options : LogOptions) (ms : List Message) (r : MaskingReplayer) : Type 0 where
  pub knows : AreMapped options.mask ms r.mapper
  pub follows : FollowsMessages options (all_masked options.mask ms) r.replayer

-- Some messages were masked and processed.
pub record IsReplaying (r : MaskingReplayer) : Type 0 where
  pub options : LogOptions
  pub ms : List Message
  pub follows : FollowsMasked options ms r

-- The result of reading the byte string of this number: its piece, unless memory ran out.
abbrev pub ReadsBytes : ℕ → List ℕ → Result Message LogFault → Type 0
ReadsBytes number bytes (Ok m) = Spells bytes m
ReadsBytes number bytes (Err e) = (e ≡ log.Memory) ⊎ IsPiece number bytes (Stops e)

-- The table of a Relation isn't described for the first time, or is that of the watermarks.
abbrev pub IsToldBefore : LogOptions → List Message → List ℕ → List ℕ → List RelationColumn → Type 0
IsToldBefore options ms namespace name columns =
    new_table (tables_in options.keys ms) (entry_of options.keys (table_named namespace name) columns) ≡ None

-- Why the table that the next message describes can't be captured, or not be read in its columns.
abbrev pub IsTableFault : LogOptions → List Message → ℕ → Message → LogFault → Type 0
IsTableFault options ms number m e =
    (before : List TableInfo) × AreCaptured options.keys ms before × (table_fault_of options before number m ms ≡ Some e)

-- What follows for the captured tables once the table that a message is the first to describe is among them: the tables after the message,
-- if its columns aren't refused and its column can be masked; or else its error.
pub record AreNextTables (options : LogOptions) (ms : List Message) (m : Message) (infos : List TableInfo) : Type 0 where
  pub tables : shape_fault infos m ms ≡ None → masking_in options.mask infos m ≡ None → HasTables options ms m (shapes_after m infos)
  pub refused : (number : ℕ) (error : TxnError) → shape_fault infos m ms ≡ Some error
      → IsTableFault options ms number m (log.Transaction number error)
  pub unmasked : (number : ℕ) (fault : LogFault) → shape_fault infos m ms ≡ None → masking_in options.mask infos m ≡ Some fault
      → IsTableFault options ms number m fault

-- The table that the next message is the first to describe is captured.
pub record IsReplayerReady (options : LogOptions) (ms : List Message) (m : Message) (r : Replayer) : Type 0 where
  pub infos : List TableInfo
  pub replayed : HasReplayed options infos ms r
  pub next : AreNextTables options ms m infos

-- The result of capturing the table that the next message, which has this number, is the first to describe.
abbrev pub Prepares : {A : Type 0} → LogOptions → List Message → ℕ → Message → Replayer → Result A LogFault → Type 0
Prepares options ms number m r (Ok x) = IsReplayerReady options ms m r
Prepares options ms number m r (Err e) = (e ≡ log.Memory) ⊎ IsTableFault options ms number m e

-- The assembler has read the next message, and the records are still those of the tables before it.
pub record HasRead (options : LogOptions) (infos : List TableInfo) (ms : List Message) (m : Message) (r : Replayer) (read : Read)
    : Type 0 where
  pub taken : TakenShaped infos log_start m ms r.assembler read
  pub identity : r.writer.identity ≡ options.identity
  pub keys : r.keys ≡ options.keys
  pub mask : r.mask ≡ options.mask
  pub writes : r.writer.infos ≡ infos

-- The result of reading the next message, which has this number.
abbrev pub ReadsMessage : LogOptions → List TableInfo → List Message → ℕ → Message → Replayer → Result Read LogFault → Type 0
ReadsMessage options infos ms number m r (Ok read) = HasRead options infos ms m r read
ReadsMessage options infos ms number m r (Err e) = (e ≡ log.Memory)
    ⊎ (option_map (log.Transaction number) (reading_fault infos log_start m ms) ≡ Some e)

-- The next message was read, and ends this commit.
pub record IsEnded (options : LogOptions) (infos : List TableInfo) (ms : List Message) (m : Message) (r : Replayer) (o : Option Commit)
    : Type 0 where
  pub clean : reading_fault infos log_start m ms ≡ None
  pub commit : o ≡ ended_commit (shapes_after m infos) m ms
  pub replayed : HasReplayed options (shapes_after m infos) (m ∷ ms) r

-- The result of ending the processing of the next message.
abbrev pub EndsRead : LogOptions → List TableInfo → List Message → Message → Replayer → Result (Option Commit) LogFault → Type 0
EndsRead options infos ms m r (Ok o) = IsEnded options infos ms m r o
EndsRead options infos ms m r (Err e) = e ≡ log.Memory

-- The next message was processed, and its column can be masked.
pub record IsAppended (options : LogOptions) (infos : List TableInfo) (ms : List Message) (m : Message) (r : Replayer) (o : Option Commit)
    : Type 0 where
  pub ended : IsEnded options infos ms m r o
  pub masked : masking_in options.mask infos m ≡ None

-- Why the next message, which has this number, isn't processed: it can't be read, or its column can't be masked.
abbrev pub IsAppendFault : LogOptions → List TableInfo → List Message → ℕ → Message → LogFault → Type 0
IsAppendFault options infos ms number m e = (option_map (log.Transaction number) (reading_fault infos log_start m ms) ≡ Some e)
    ⊎ ((reading_fault infos log_start m ms ≡ None) × (masking_in options.mask infos m ≡ Some e))

-- The result of processing the next message, which has this number, after its table was captured.
abbrev pub AppendsMessage : LogOptions → List TableInfo → List Message → ℕ → Message → Replayer → Result (Option Commit) LogFault → Type 0
AppendsMessage options infos ms number m r (Ok o) = IsAppended options infos ms m r o
AppendsMessage options infos ms number m r (Err e) = (e ≡ log.Memory) ⊎ IsAppendFault options infos ms number m e

-- A message that may follow was processed, and ends this commit.
pub record IsNextMessage (options : LogOptions) (ms : List Message) (m : Message) (r : Replayer) (o : Option Commit) : Type 0 where
  pub infos : List TableInfo
  pub tables : HasTables options ms m infos
  pub placed : transaction_fault infos log_start m ms ≡ None
  pub commit : o ≡ ended_commit infos m ms
  pub replayed : HasReplayed options infos (m ∷ ms) r
  pub fields : AllByRecursion FitsFields (m ∷ ms)

-- The result of processing the next message, which has this number.
abbrev pub TakesMessage : LogOptions → List Message → ℕ → Message → Replayer → Result (Option Commit) LogFault → Type 0
TakesMessage options ms number m r (Ok o) = IsNextMessage options ms m r o
TakesMessage options ms number m r (Err e) = (e ≡ log.Memory) ⊎ IsLogFault options ms number m e

-- The next message was masked and processed, and ends this commit.
pub record IsNextMasked (options : LogOptions) (ms : List Message) (m : Message) (r : MaskingReplayer) (o : Option Commit) : Type 0 where
  pub knows : AreMapped options.mask (m ∷ ms) r.mapper
  pub next : IsNextMessage options (all_masked options.mask ms) (masked_with options.mask ms m) r.replayer o

-- The result of masking and processing the next message, which has this number.
abbrev pub TakesMasked : LogOptions → List Message → ℕ → Message → MaskingReplayer → Result (Option Commit) LogFault → Type 0
TakesMasked options ms number m r (Ok o) = IsNextMasked options ms m r o
TakesMasked options ms number m r (Err e) =
    (e ≡ log.Memory) ⊎ IsLogFault options (all_masked options.mask ms) number (masked_with options.mask ms m) e
