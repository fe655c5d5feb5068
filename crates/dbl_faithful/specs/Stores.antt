-- A connector's stores: its source, its topic log and its offset.
use Rattle.std.specs.Prelude.{◌≡◌, ◌⊎◌, ◌&&◌, ◌<◌, ◌≤◌, ℕ, max, nat_lt, nat_le, Option, Some}
use Rattle.std.specs.Prelude.{None, List, [], ◌++◌, length, map, fold, filter, slice_get}
use Rattle.std.specs.List.{AllByRecursion}
use Rattle.dbl_base.specs.declared.lsn.Lsn.{Lsn}
use Rattle.dbl_record.specs.declared.record.Record.{Record}
use Rattle.dbl_record.specs.Places.{Place, IsTop}
use Rattle.dbl_consume_laws.specs.ModelHistory.History.{RawCommit, History, IsRising}
use Rattle.dbl_offset_content.specs.declared.offset.Offset.{Offset}

-- The stores of a connector: the source's history, the confirmed position up to which its log isn't needed, the records of the topic log,
-- and the offset, if one is stored.
pub record Stores : Type 0 where
  pub history : History
  pub confirmed : Lsn
  pub records : List Record
  pub offset : Option Offset

-- ---- positions

-- The LSNs of a history's commits.
abbrev pub lsns_of : History → List ℕ
lsns_of history = map (λ commit. commit.lsn.0) history.commits

-- Whether some commit of the history has this LSN.
abbrev pub IsCommitAt : History → ℕ → Type 0
IsCommitAt history position = (place : ℕ) × (slice_get (lsns_of history) place ≡ Some position)

-- Whether the position is one of the history: 0 or a commit's LSN.
abbrev pub IsPositionOf : History → ℕ → Type 0
IsPositionOf history position = (position ≡ 0) ⊎ IsCommitAt history position

-- The greatest position of records, 0 if there are none (theorem TopPositionsAreTops).
abbrev pub top_position : List Record → ℕ
top_position records = fold (λ far item. max far item.position) 0 records

-- The greatest position of records is that of the greatest record.
abbrev pub TopPositionsAreTops : Type 0
TopPositionsAreTops = (records : List Record) (top : Place) → IsTop records top → top_position records ≡ top.0

-- ---- the lag of an offset relative to its log

-- The commits after an offset's LSN up to the log's greatest position: those that a restart redelivers (theorem
-- RepeatedCommitsStandTogether).
abbrev pub repeated : History → List Record → Offset → List RawCommit
repeated history records offset =
    filter (λ commit. nat_lt offset.lsn.0 commit.lsn.0 && nat_le commit.lsn.0 (top_position records)) history.commits

-- The number of commits that a restart redelivers, 0 if no offset is stored.
abbrev pub lag : History → List Record → Option Offset → ℕ
lag history records None = 0
lag history records (Some offset) = length (repeated history records offset)

-- An offset has no lag to a log without records.
abbrev pub EmptyLogsHaveNoLag : Type 0
EmptyLogsHaveNoLag = (history : History) (offset : Option Offset) → lag history [] offset ≡ 0

-- If a history has three parts, the first up to the offset's LSN and the last after every record of the log, at most the commits between
-- are redelivered.
abbrev pub LagsAreBounded : Type 0
LagsAreBounded = (history : History) (records : List Record) (offset : Offset) (before between later : List RawCommit)
    → history.commits ≡ before ++ (between ++ later)
    → AllByRecursion (λ commit. commit.lsn.0 ≤ offset.lsn.0) before
    → AllByRecursion (λ commit. top_position records < commit.lsn.0) later
    → lag history records (Some offset) ≤ length between

-- A later offset causes no more redelivered commits.
abbrev pub LaterOffsetsLagLess : Type 0
LaterOffsetsLagLess = (history : History) (records : List Record) (old new : Offset) → old.lsn.0 ≤ new.lsn.0
    → lag history records (Some new) ≤ lag history records (Some old)

-- Whether a history consists of the commits that a restart doesn't read, the redelivered ones, and those without a record in the log.
pub record StandTogether (history : History) (records : List Record) (offset : Offset) : Type 0 where
  pub before : List RawCommit
  pub later : List RawCommit
  pub spelled : history.commits ≡ before ++ (repeated history records offset ++ later)
  pub unread : AllByRecursion (λ commit. commit.lsn.0 ≤ offset.lsn.0) before
  pub redelivered : AllByRecursion (λ commit. (offset.lsn.0 < commit.lsn.0) × (commit.lsn.0 ≤ top_position records))
      (repeated history records offset)
  pub undelivered : AllByRecursion (λ commit. (offset.lsn.0 < commit.lsn.0) × (top_position records < commit.lsn.0)) later

-- The redelivered commits lie between those up to the offset and those after the log.
abbrev pub RepeatedCommitsStandTogether : Type 0
RepeatedCommitsStandTogether = (history : History) (records : List Record) (offset : Offset) → IsRising history
    → StandTogether history records offset
