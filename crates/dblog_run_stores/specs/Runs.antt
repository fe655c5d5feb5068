-- How a run of a command over the stores, and of `init`, ends.
use Rattle.std.specs.Prelude.{◌≡◌, ◌⊎◌, ℕ, Option, List}
use Rattle.dblog_init.specs.Answers as inits
use Rattle.dbl_lines.specs.declared.status.Status.{Status}
use Rattle.dbl_lines.specs.declared.status.Status.TheVariants.{Done, StartMismatch, TopicsFailed, OffsetsFailed, InvalidStore}
use Rattle.dblog_stores.specs.declared.error.Store.{Store}
use Rattle.dblog_run_stores.specs.Disks.{EndsOrFails, IsDiskStatus}
use Rattle.dblog_run_stores.specs.Inits.{AnswersInit}
use Rattle.dblog_streams.specs.Answers.{RunAnswer, IsExternalStatus}
use Rattle.dbl_lines.specs.Says.{IsCutShort}

-- The statuses with which a command that opens the disk of the topic log has opened it.
abbrev pub HasOpenedTopics : Status → Type 0
HasOpenedTopics status = (status ≡ Done) ⊎ ((status ≡ StartMismatch) ⊎ ((status ≡ OffsetsFailed) ⊎ (status ≡ InvalidStore)))

-- The statuses of `topics`, for every behaviour of the disks and the output.
abbrev pub IsTopicsStatus : Status → Type 0
IsTopicsStatus status = (status ≡ Done) ⊎ ((status ≡ TopicsFailed) ⊎ ((status ≡ InvalidStore) ⊎ IsCutShort status))

-- The statuses of `offsets`, for every behaviour of the disks and the output.
abbrev pub IsOffsetsStatus : Status → Type 0
IsOffsetsStatus status =
    (status ≡ Done) ⊎ ((status ≡ StartMismatch) ⊎ ((status ≡ OffsetsFailed) ⊎ ((status ≡ InvalidStore) ⊎ IsCutShort status)))

-- The statuses of `compact`, and of `apply` over the stores, for every behaviour of the disks and the output.
abbrev pub IsRowsStatus : Status → Type 0
IsRowsStatus status = (status ≡ TopicsFailed) ⊎ IsOffsetsStatus status

-- For private clauses: the end of a run of `init`.
pub record RunsInit (given : inits.InitInput) (failed : Store → Type 0) (status : Status) (before after : Option (List ℕ)) : Type 0 where
  pub ended : (answer : RunAnswer) → AnswersInit given answer → EndsOrFails failed answer status before after
  pub meant : IsExternalStatus status ⊎ (IsDiskStatus status ⊎ ((answer : RunAnswer) × AnswersInit given answer × (answer.status ≡ status)))
