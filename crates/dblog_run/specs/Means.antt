-- The meaning of the arguments of a command line, with the contents of the input and the disks.
pub use Rattle.dblog_run_stores.specs.Runs.{HasOpenedTopics, IsTopicsStatus, IsOffsetsStatus, IsRowsStatus, RunsInit}
use Rattle.std.specs.Prelude.{◌≡◌, ◌⊎◌, ℕ, ℤ, ◌||◌, Bool, true, false, Option, Some, List}
use Rattle.dbl_record.specs.declared.record.Record.{Record}
use Rattle.dbl_topic.specs.Logs.{IsLog}
use Rattle.dbl_cli_commands.specs.declared.commands.Command.{Command}
use Rattle.dbl_cli_commands.specs.declared.commands.Command.TheVariants.{Init, Topics, Offsets, Compact, Capture, Resume, Replay, Apply, Gen}
use Rattle.dbl_cli.specs.Commands.{Spells}
use Rattle.dblog_init.specs.Answers as inits
use Rattle.dbl_lines.specs.declared.status.Status.{Status}
use Rattle.dbl_lines.specs.declared.status.Status.TheVariants.{Done, StartMismatch, InvalidInput, InvalidStore}
use Rattle.dbl_lines.specs.declared.run_error.RunError.TheVariants.{Usage}
use Rattle.dblog_stores.specs.Answers.{AnswersTopics, AnswersOffsets, AnswersApply, AnswersCompact}
use Rattle.dblog_stores.specs.declared.error.Store.{Store}
use Rattle.dblog_capture.specs.Ends.{IsSessionStatus}
use Rattle.dblog_capture.specs.Generated.{IsGeneratedStatus}
use Rattle.dblog_run_stores.specs.Disks.{EndsOrFails, IsAnswerOf, IsDiskStatus}
use Rattle.dblog_run_stores.specs.Inits.{AnswersInit, FailsSource, IsInitAnswer, IsInitStatus}
use Rattle.dblog_streams.specs.Answers.{RunAnswer, fault, FailsReading, IsExternalStatus}
use Rattle.dblog_streams.specs.Replays.{Replays}
use Rattle.dblog_streams.specs.Applies.{Applies}
use Rattle.dblog_streams.specs.Statuses.{IsReplayAnswer, IsReplayStatus, IsApplyStatus}
use Rattle.dbl_lines.specs.Says.{IsCutShort}
use Rattle.dblog_streams.specs.Generates.{made}

-- The contents that a run reads: the unread bytes of the input, and those of the three disks.
pub record RunInput : Type 0 where
  pub input : List ℕ
  pub wal : List ℕ
  pub topics : List ℕ
  pub offsets : List ℕ

-- The contents that a run reads, as `init` takes them.
abbrev pub given_init : RunInput → inits.InitInput
given_init given = record { wal = given.wal; topics = given.topics; offsets = given.offsets; input = given.input }

-- The answer of a command at a time for these contents. The result of a session isn't determined by them, as its source and stores may fail
-- at any call (`RunsSession`, and `EndsGenerated` for a generated workload).
abbrev pub Answers : Command → ℤ → RunInput → RunAnswer → Type 0
Answers (Replay options) now given answer = Replays options now given.input answer
Answers (Apply true placeholder) now given answer = Applies placeholder given.input answer
Answers (Apply false placeholder) now given answer = IsAnswerOf (AnswersApply given.topics given.offsets) answer
Answers Compact now given answer = IsAnswerOf (AnswersCompact given.topics given.offsets) answer
Answers Topics now given answer = IsAnswerOf (AnswersTopics given.topics) answer
Answers Offsets now given answer = IsAnswerOf (AnswersOffsets given.offsets) answer
Answers Init now given answer = AnswersInit (given_init given) answer
Answers (Gen number rows groups false) now given answer = answer ≡ made number rows groups
Answers (Capture options) now given answer = ⊥
Answers (Resume options) now given answer = ⊥
Answers (Gen number rows groups true) now given answer = ⊥

-- The answer of the program at a time for these arguments and contents.
pub data Means (words : List (List ℕ)) (now : ℤ) (given : RunInput) (answer : RunAnswer) : Type 0 where
  usage : ((command : Command) → Spells words command → ⊥) → answer ≡ fault Usage → Means words now given answer
  spelled : (command : Command) → Spells words command → Answers command now given answer → Means words now given answer

-- The end of a run for these arguments and contents at a time, in which only such disks failed: as one of the answers says, or with the
-- status of a failure.
pub record Runs (words : List (List ℕ)) (now : ℤ) (given : RunInput) (failed : Store → Type 0) (status : Status)
    (before after : Option (List ℕ)) : Type 0 where
  pub ended : (answer : RunAnswer) → Means words now given answer → EndsOrFails failed answer status before after
  pub meant : IsExternalStatus status
      ⊎ (IsDiskStatus status ⊎ ((answer : RunAnswer) × Means words now given answer × (answer.status ≡ status)))

-- Whether the command reads the input.
abbrev pub reads : Command → Bool
reads (Replay options) = true
reads (Apply lines placeholder) = lines
reads Init = true
reads command = false

-- Whether the command only reads the disk of the topic log.
abbrev pub opens_topics : Command → Bool
opens_topics Topics = true
opens_topics (Apply false placeholder) = true
opens_topics Compact = true
opens_topics command = false

-- Whether the command only reads the disk of the offset.
abbrev pub opens_offsets : Command → Bool
opens_offsets Offsets = true
opens_offsets (Apply false placeholder) = true
opens_offsets Compact = true
opens_offsets command = false

-- Whether the command makes the stores, on all of the disks.
abbrev pub makes : Command → Bool
makes Init = true
makes (Gen number rows groups run) = run
makes command = false

-- Whether the command runs a session of the connector, over all of the disks.
abbrev pub connects : Command → Bool
connects (Capture options) = true
connects (Resume options) = true
connects (Gen number rows groups run) = run
connects command = false

-- Whether the command writes the disks.
abbrev pub writes : Command → Bool
writes command = makes command || connects command

-- Whether the command reads or writes the disk of the topic log.
abbrev pub uses_topics : Command → Bool
uses_topics command = opens_topics command || writes command

-- Whether the command reads or writes the disk of the offset.
abbrev pub uses_offsets : Command → Bool
uses_offsets command = opens_offsets command || writes command

-- The statuses with which a command that opens the disk of the offset has opened it; 14 may be of the topic log.
abbrev pub HasOpenedOffsets : Command → Status → Type 0
HasOpenedOffsets command status = (status ≡ Done) ⊎ ((status ≡ StartMismatch) ⊎ ((opens_topics command ≡ false) × (status ≡ InvalidStore)))

-- The disk of the topic log has no valid log, after which the command reads no other disk.
abbrev pub FindsNoLog : Command → List ℕ → Type 0
FindsNoLog command topics = (opens_topics command ≡ true) × ((groups : List (List Record)) → ¬ IsLog topics groups)

-- The input and the disks have these contents, as far as the command reads them.
pub record ReadsGivenInput (command : Command) (input wal topics offsets : Option (List ℕ)) (given : RunInput) : Type 0 where
  pub input_is : reads command ≡ true → input ≡ Some given.input
  pub wal_is : makes command ≡ true → wal ≡ Some given.wal
  pub topics_are : uses_topics command ≡ true → topics ≡ Some given.topics
  pub offsets_are : uses_offsets command ≡ true → FindsNoLog command given.topics ⊎ (offsets ≡ Some given.offsets)

-- The input and the disks have these contents, as far as the command of the arguments reads them.
abbrev pub Tell : List (List ℕ) → Option (List ℕ) → Option (List ℕ) → Option (List ℕ) → Option (List ℕ) → RunInput → Type 0
Tell words input wal topics offsets given = (command : Command) → Spells words command
    → ReadsGivenInput command input wal topics offsets given

-- The arguments are of a command with this property.
abbrev pub SpellSome : List (List ℕ) → (Command → Bool) → Type 0
SpellSome words holds = (command : Command) × Spells words command × (holds command ≡ true)

-- The arguments are of no command with this property.
abbrev pub SpellNone : List (List ℕ) → (Command → Bool) → Type 0
SpellNone words holds = (command : Command) → Spells words command → holds command ≡ false

-- The end of a run whose input failed: the command reads it, and that failure's line was to be written.
pub record InputFails (words : List (List ℕ)) (was now : ℕ) (status : Status) (before after : Option (List ℕ)) : Type 0 where
  pub command : Command
  pub spells : Spells words command
  pub reading : reads command ≡ true
  pub fails : FailsReading was now status before after

-- The end of a run in which the disk of the source's log failed: the command makes the store there, and that failure's line was to be
-- written.
pub record WalFails (words : List (List ℕ)) (was now : ℕ) (status : Status) (before after : Option (List ℕ)) : Type 0 where
  pub command : Command
  pub spells : Spells words command
  pub making : makes command ≡ true
  pub fails : FailsSource was now status before after

-- The answer of a command that reads neither the input nor a disk.
abbrev pub StandsAlone : Command → RunAnswer → Type 0
StandsAlone (Replay options) answer = ⊥
StandsAlone (Apply lines placeholder) answer = ⊥
StandsAlone Init answer = ⊥
StandsAlone Topics answer = ⊥
StandsAlone Offsets answer = ⊥
StandsAlone Compact answer = ⊥
StandsAlone (Capture options) answer = ⊥
StandsAlone (Resume options) answer = ⊥
StandsAlone (Gen number rows groups false) answer = answer ≡ made number rows groups
StandsAlone (Gen number rows groups true) answer = ⊥

-- The statuses of an answer about the contents of the input, which was then read to its end.
abbrev pub ReportsInputStatus : Command → Status → Type 0
ReportsInputStatus (Replay options) status = IsReplayAnswer status
ReportsInputStatus (Apply true placeholder) status = (status ≡ Done) ⊎ (status ≡ InvalidInput)
ReportsInputStatus Init status = IsInitAnswer status
ReportsInputStatus command status = ⊥

-- The statuses of a command, for every behaviour of the streams and the disks.
abbrev pub IsStatusOf : Command → Status → Type 0
IsStatusOf (Replay options) status = IsReplayStatus status
IsStatusOf (Apply true placeholder) status = IsApplyStatus status
IsStatusOf (Apply false placeholder) status = IsRowsStatus status
IsStatusOf Compact status = IsRowsStatus status
IsStatusOf Init status = IsInitStatus status
IsStatusOf Topics status = IsTopicsStatus status
IsStatusOf Offsets status = IsOffsetsStatus status
IsStatusOf (Capture options) status = IsSessionStatus status
IsStatusOf (Resume options) status = IsSessionStatus status
IsStatusOf (Gen number rows groups false) status = (status ≡ Done) ⊎ IsCutShort status
IsStatusOf (Gen number rows groups true) status = IsGeneratedStatus status

-- For private clauses: the end of a run of a command.
pub record RunsCommand (command : Command) (now : ℤ) (given : RunInput) (failed : Store → Type 0) (status : Status)
    (before after : Option (List ℕ)) : Type 0 where
  pub ended : (answer : RunAnswer) → Answers command now given answer → EndsOrFails failed answer status before after
  pub meant : IsExternalStatus status
      ⊎ (IsDiskStatus status ⊎ ((answer : RunAnswer) × Answers command now given answer × (answer.status ≡ status)))
