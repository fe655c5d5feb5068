-- The state of a session between two of its calls.
use Rattle.std.specs.Prelude.{◌≡◌, ◌⊎◌, ℕ, ◌≤◌, ◌<◌, max, List, [], ◌∷◌, ◌++◌, length}
use Rattle.std.specs.List.{AllByRecursion}
use Rattle.dbl_base.specs.declared.lsn.Lsn.{Lsn}
use Rattle.dbl_pgmsg.specs.declared.messages.Message.{Message}
use Rattle.dbl_record.specs.declared.record.Record.{Record}
use Rattle.dbl_record.specs.Cuts.{joined}
use Rattle.dbl_model_table.specs.declared.change.Commit.{Commit}
use Rattle.dbl_faithful.specs.ModelHistory.History.{History}
use Rattle.dbl_faithful.specs.ModelHistory.Typed.{typed}
use Rattle.dbl_follow.specs.ModelCommit.Stated.{commits_of}
use Rattle.dbl_follow.specs.SourceModel.Stated.{to_state}
use Rattle.dbl_faithful.specs.Offset.declared.offset.Offset.{Offset}
use Rattle.dbl_follow.specs.Followed.{Following}
use Rattle.dbl_faithful.specs.Stores.{top_position}
use Rattle.dbl_capture_model.specs.Entries.{SessionStart}

-- The source's history and confirmed LSN; the messages that were read, newest first; the sink's groups; the offset that the session stored
-- first, after whose LSN it reads, and the one that it stored last; LSN and end of the last commit that was followed; the follower's state;
-- the commits followed since the last store, and the windows read.
pub record Stage : Type 0 where
  pub history : History
  pub confirmed : Lsn
  pub messages : List Message
  pub groups : List (List Record)
  pub first : Offset
  pub stored : Offset
  pub lsn : Lsn
  pub end_lsn : Lsn
  pub following : Following
  pub since : ℕ
  pub number : ℕ

-- The records of the topic log at this stage.
abbrev pub records_of_stage : Stage → List Record
records_of_stage stage = joined stage.groups

-- The offset that would be stored at this stage.
abbrev pub next_offset : Stage → Offset
next_offset stage = record stage.first { lsn = stage.lsn; end_lsn = stage.end_lsn; cursors = stage.following.cursors }

-- A later offset of the same session.
pub record IsOfSession (first later : Offset) : Type 0 where
  pub identity : later.identity ≡ first.identity
  pub infos : later.infos ≡ first.infos
  pub versions : later.versions ≡ first.versions
  pub start : later.start ≡ first.start
  pub incarnation : later.incarnation ≡ first.incarnation

-- The commits of the history, as changes of the captured tables.
abbrev pub commits_at : Stage → List Commit
commits_at stage = typed stage.first.infos stage.history

-- The commits that the messages read so far state.
abbrev pub read_at : Stage → List Commit
read_at stage = commits_of stage.first.infos stage.messages

-- ---- how far it has read

-- These commits end with one of this LSN.
pub record IsLastAt (position : ℕ) (commits : List Commit) : Type 0 where
  pub front : List Commit
  pub last : Commit
  pub spelled : commits ≡ front ++ last ∷ []
  pub lsn_is : last.lsn.0 ≡ position

-- The last commit that was followed is the last one that was read; before the first one, the stage's LSN is where reading began.
abbrev pub IsLastRead : Stage → Type 0
IsLastRead stage = ((stage.lsn ≡ stage.first.lsn) × (read_at stage ≡ [])) ⊎ IsLastAt stage.lsn.0 (read_at stage)

-- The history is split at the session's position: the commits up to where reading began, those that it has read, and those that it hasn't.
pub record PartsHistory (stage : Stage) : Type 0 where
  pub old : List Commit
  pub later : List Commit
  pub spelled : commits_at stage ≡ (old ++ read_at stage) ++ later
  pub stated : to_state stage.first.infos stage.first.lsn stage.history ≡ read_at stage ++ later
  pub last : IsLastRead stage
  pub under : AllByRecursion (λ commit. commit.lsn.0 ≤ stage.lsn.0) (old ++ read_at stage)
  pub over : AllByRecursion (λ commit. stage.lsn.0 < commit.lsn.0) later
  pub order : stage.first.lsn.0 ≤ stage.lsn.0

-- The number of commits of the history up to the session's position.
abbrev pub later_count : {stage : Stage} → PartsHistory stage → ℕ
later_count {stage} parts = length (parts.old ++ read_at stage)

-- The greatest position of the topic log: of the records that the session found, and of the commits that it followed.
abbrev pub far_at : SessionStart → Stage → ℕ
far_at entry stage = max (top_position (joined entry.groups)) stage.lsn.0
