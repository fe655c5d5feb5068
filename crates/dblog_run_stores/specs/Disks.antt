-- What a run does over the disks of the stores, and what it leaves of them.
use Rattle.std.specs.Prelude.{◌≡◌, ◌≢◌, ◌⊎◌, ℕ, ◌≤◌, Option, Ok, Err, List, [], ◌∷◌, ◌++◌, take}
use Rattle.dbl_base.specs.Lines.{lines_text}
use Rattle.dbl_base.specs.Streams.{FaultCounted}
use Rattle.dbl_disk.specs.Model.{DiskModel}
use Rattle.dbl_journal.specs.Stored.{IsSteady}
use Rattle.dblog_stores.specs.declared.error.CommandError.{CommandError}
use Rattle.dblog_stores.specs.declared.error.CommandError.TheVariants.{OutputFailed, Failed}
use Rattle.dblog_stores.specs.declared.error.Store.{Store}
use Rattle.dblog_stores.specs.declared.error.Store.TheVariants.{Topics, Offsets}
use Rattle.dblog_stores.specs.Answers.{LinesAnswer as StoreAnswer}
use Rattle.dblog_stores.specs.Ends.{CommandEnd}
use Rattle.dblog_stores.specs.Errors.{error_line, error_status}
use Rattle.dbl_lines.specs.declared.status.Status.{Status}
use Rattle.dbl_lines.specs.declared.status.Status.TheVariants.{Done, TopicsFailed, OffsetsFailed, StdoutFailed, OutOfMemory}
use Rattle.dbl_lines.specs.declared.run_error.RunError.TheVariants.{Memory}
use Rattle.dbl_lines.specs.Faults.{fault_line}
use Rattle.dblog_streams.specs.Answers.{RunAnswer, done, Ends, IsExternalStatus}
use Rattle.dbl_lines.specs.Says.{IsCutShort, Writes}

-- The statuses of a run in which a disk failed that a command over the stores reads.
abbrev pub IsDiskStatus : Status → Type 0
IsDiskStatus status = (status ≡ TopicsFailed) ⊎ (status ≡ OffsetsFailed)

-- The answer of an error of a store: only its line.
abbrev pub store_fault : CommandError → RunAnswer
store_fault error = record { status = error_status error; lines = error_line error ∷ []; one_by_one = [] }

-- The answer of a command over the stores: the lines that it is to write, or the line of its error.
abbrev pub store_answer : StoreAnswer → RunAnswer
store_answer (Ok lines) = done lines
store_answer (Err error) = store_fault error

-- The answer of a command is one of these answers over the stores.
abbrev pub IsAnswerOf : (StoreAnswer → Type 0) → RunAnswer → Type 0
IsAnswerOf Allows answer = (told : StoreAnswer) × Allows told × (answer ≡ store_answer told)

-- The first fact for the topic log's disk, the second for the offset's.
abbrev pub OfDisk : Type 0 → Type 0 → Store → Type 0
OfDisk topics offsets Topics = topics
OfDisk topics offsets Offsets = offsets

-- The end of a run with this answer in which a disk failed: that failure's line came after some of the lines that are written one by one.
pub record DiskFails (failed : Store → Type 0) (answer : RunAnswer) (status : Status) (before after : Option (List ℕ)) : Type 0 where
  pub store : Store
  pub cause : failed store
  pub count : ℕ
  pub writes : Writes (error_status (Failed store))
      (lines_text (take count answer.one_by_one) ++ lines_text (error_line (Failed store) ∷ [])) status before after

-- A run with this answer ended as the answer says, or a disk failed.
abbrev pub EndsOrFails : (Store → Type 0) → RunAnswer → Status → Option (List ℕ) → Option (List ℕ) → Type 0
EndsOrFails failed answer status before after = Ends answer status before after ⊎ DiskFails failed answer status before after

-- What a run with this status leaves of a disk that it only reads: the same contents, and a failure by its status only if its count of
-- faults rose.
pub record IsOnlyRead
    {D : Type 0}
    (model : DiskModel D)
    (fault status : Status)
    (old new : D) : Type 0 where
  pub same : model.seen new ≡ model.seen old
  pub crash : (crashed : List ℕ) → model.may_leave new crashed → model.may_leave old crashed
  pub later : model.faults old ≤ model.faults new
  pub cause : status ≡ fault → FaultCounted (model.faults old) (model.faults new)
  pub steady : status ≢ fault → ¬ IsCutShort status → IsSteady model old new

-- For private clauses: the error's line was to be written and its status returned, or those of out of memory.
abbrev pub SaysError : CommandError → Status → Option (List ℕ) → Option (List ℕ) → Type 0
SaysError error status before after =
    Writes (error_status error) (lines_text (error_line error ∷ [])) status before after
    ⊎ Writes OutOfMemory (lines_text (fault_line Memory ∷ [])) status before after

-- For private clauses: the status after a command over the stores, whose error's line was to be written unless the output failed.
abbrev pub Finishes : CommandEnd → Status → Option (List ℕ) → Option (List ℕ) → Type 0
Finishes (Ok nothing) status before after = (status ≡ Done) × (after ≡ before)
Finishes (Err OutputFailed) status before after = (status ≡ StdoutFailed) × (after ≡ before)
Finishes (Err error) status before after = SaysError error status before after

-- For private clauses: the end of a run of a command over the stores with these answers.
pub record RunsStores (Allows : StoreAnswer → Type 0) (failed : Store → Type 0) (status : Status)
    (before after : Option (List ℕ)) : Type 0 where
  pub ended : (told : StoreAnswer) → Allows told → EndsOrFails failed (store_answer told) status before after
  pub meant : IsExternalStatus status ⊎ (IsDiskStatus status ⊎ ((told : StoreAnswer) × Allows told × ((store_answer told).status ≡ status)))
