-- Changes other than a session's own records that keep stores faithful: a longer history, a confirmed position, a later session's offset.
use Rattle.std.specs.Prelude.{◌≡◌, ◌≤◌, Option, Some, None, List, ◌++◌}
use Rattle.std.specs.List.{AllByRecursion}
use Rattle.dbl_base.specs.declared.lsn.Lsn.{Lsn}
use Rattle.dbl_record.specs.declared.record.Record.{Record}
use Rattle.dbl_consume_laws.specs.ModelHistory.History.{RawBody, RawCommit, IsRising, History}
use Rattle.dbl_consume_laws.specs.ModelHistory.Fit.{IsFitHistory}
use Rattle.dbl_offset_content.specs.declared.offset.Offset.{Offset}
use Rattle.dbl_faithful.specs.Lag.{IsMarkedBy, IsOffsetOf, IsBehind}
use Rattle.dbl_faithful.specs.Faithful.{HasNoMark, IsFaithfulTo, IsFaithful}

-- ---- a longer history

-- Whether the history is the old one extended by these commits, with the same catalogue.
pub record HasGrown (old new : History) (more : List RawCommit) : Type 0 where
  pub tables : new.tables ≡ old.tables
  pub commits : new.commits ≡ old.commits ++ more

-- Whether the contents of a new commit are no watermark, or one of the connector's own, of an incarnation up to the offset's; without a
-- stored offset no watermark is allowed.
abbrev pub IsNewBody : Option Offset → RawBody → Type 0
IsNewBody None body = HasNoMark body
IsNewBody (Some offset) body = IsMarkedBy offset.incarnation body

-- A longer valid history, by commits of other clients and watermarks of the connector, keeps stores faithful.
abbrev pub LongerHistoriesStayFaithful : Type 0
LongerHistoriesStayFaithful = (old new : History) (more : List RawCommit) (confirmed : Lsn) (records : List Record)
    (offset : Option Offset)
    → IsFitHistory old → IsFitHistory new → HasGrown old new more → AllByRecursion (λ commit. IsNewBody offset commit.body) more
    → IsFaithful old confirmed records offset → IsFaithful new confirmed records offset

-- A longer history keeps an offset in agreement with the stores, and a connector able to restart from it.
abbrev pub LongerHistoriesKeepOffsets : Type 0
LongerHistoriesKeepOffsets = (old new : History) (more : List RawCommit) (confirmed : Lsn) (records : List Record)
    (offset : Offset)
    → HasGrown old new more → IsRising new → AllByRecursion (λ commit. IsMarkedBy offset.incarnation commit.body) more
    → (IsOffsetOf old confirmed records offset → IsOffsetOf new confirmed records offset)
    × (IsBehind old confirmed records offset → IsBehind new confirmed records offset)

-- ---- more records

-- Records that aren't before an offset's LSN, of any kind, keep it in agreement with the stores, and a connector able to restart from it.
abbrev pub MoreRecordsKeepOffsets : Type 0
MoreRecordsKeepOffsets = (history : History) (confirmed : Lsn) (records more : List Record) (offset : Offset)
    → AllByRecursion (λ item. offset.lsn.0 ≤ item.position) more
    → (IsOffsetOf history confirmed records offset → IsOffsetOf history confirmed (records ++ more) offset)
    × (IsBehind history confirmed records offset → IsBehind history confirmed (records ++ more) offset)

-- An offset whose LSN is its start requires no event of the log.
abbrev pub StartOffsetsLag : Type 0
StartOffsetsLag = (history : History) (confirmed : Lsn) (records : List Record) (offset : Offset)
    → offset.lsn.0 ≡ offset.start.0 → IsOffsetOf history confirmed records offset → IsBehind history confirmed records offset

-- ---- confirmed positions

-- Confirming a position that isn't after the LSN keeps stores faithful.
abbrev pub ConfirmsStayFaithful : Type 0
ConfirmsStayFaithful = (history : History) (confirmed next : Lsn) (records : List Record) (offset : Offset)
    → next.0 ≤ offset.lsn.0
    → IsFaithfulTo history confirmed records offset → IsFaithfulTo history next records offset

-- ---- a later session

-- Whether the new offset is the old one with a later session's incarnation.
pub record IsTakenOver (old new : Offset) : Type 0 where
  pub identity : new.identity ≡ old.identity
  pub infos : new.infos ≡ old.infos
  pub versions : new.versions ≡ old.versions
  pub start : new.start ≡ old.start
  pub lsn : new.lsn ≡ old.lsn
  pub cursors : new.cursors ≡ old.cursors
  pub incarnation : old.incarnation ≤ new.incarnation

-- A later session's offset with the same position keeps stores faithful.
abbrev pub LaterSessionsStayFaithful : Type 0
LaterSessionsStayFaithful = (history : History) (confirmed : Lsn) (records : List Record) (old new : Offset)
    → IsTakenOver old new
    → (IsOffsetOf history confirmed records old → IsOffsetOf history confirmed records new)
    × (IsFaithfulTo history confirmed records old → IsFaithfulTo history confirmed records new)
