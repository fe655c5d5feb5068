-- The steps of a session keep its invariant. The theorems are about lists, not about a source, sink or store.
use Rattle.std.specs.Prelude.{◌≡◌, ℕ, ℤ, ◌+◌, ◌^◌, ◌<◌, ◌≤◌, max, false, Some, None, [], ◌∷◌, ◌++◌, length, slice_get}
use Rattle.dbl_base.specs.declared.lsn.Lsn.{Lsn}
use Rattle.dbl_pgmsg.specs.declared.messages.Message.{Message}
use Rattle.dbl_pgmsg.specs.Grammar.{FitsFields}
use Rattle.dbl_record.specs.Cuts.{cut}
use Rattle.dbl_model_table.specs.declared.change.Commit.{Commit}
use Rattle.dbl_faithful.specs.ModelHistory.declared.cursor.Cursor.{Cursor}
use Rattle.dbl_faithful.specs.ModelHistory.History.{History}
use Rattle.dbl_faithful.specs.ModelHistory.Fit.{AreInfosOf, IsFitHistory}
use Rattle.dbl_faithful.specs.ModelHistory.Cursors.{AreCursorsOf}
use Rattle.dbl_faithful.specs.ModelHistory.Ranges.{IsMomentInRange}
use Rattle.dbl_faithful.specs.ModelEvent.SnapshotLists.{IsSnapshot}
use Rattle.dbl_follow.specs.ModelCommit.Stated.{ended_commit, transaction_fault}
use Rattle.dbl_follow.specs.SourceModel.Growth.{Grows, Marks}
use Rattle.dbl_follow.specs.SourceModel.Stated.{to_state, ReadsRight}
use Rattle.dbl_faithful.specs.Offset.declared.offset.Offset.{Offset}
use Rattle.dbl_follow.specs.Window.Plans.{Chunk, low_text, high_text}
use Rattle.dbl_follow.specs.Window.Selected.{IsSelected}
use Rattle.dbl_follow.specs.declared.window.Window.TheVariants.{Absent, Armed}
use Rattle.dbl_follow.specs.Followed.{Following}
use Rattle.dbl_follow.specs.Steps.{Steps, mark_of, clash_by, closed_of, closing, records_by}
use Rattle.dbl_capture_model.specs.Entries.{SessionStart}
use Rattle.dbl_capture_model.specs.Stages.{Stage, next_offset}
use Rattle.dbl_capture_model.specs.Going.{BeganWith, IsGoing}

-- The messages read so far and this one state the history's commits.
abbrev pub ReadsOneMore : Stage → Message → Type 0
ReadsOneMore stage m =
    ReadsRight stage.first.infos stage.first.lsn (to_state stage.first.infos stage.first.lsn stage.history) (m ∷ stage.messages)

-- ---- the beginning

-- A session that has stored its first offset, and will read after its LSN.
abbrev pub begun_at : SessionStart → History → Offset → Following → Stage
begun_at entry history first following = record {
  history = history;
  confirmed = entry.confirmed;
  messages = [];
  groups = entry.groups;
  first = first;
  stored = first;
  lsn = first.lsn;
  end_lsn = first.end_lsn;
  following = following;
  since = 0;
  number = 0;
}

-- The follower's state at an offset, without a window.
abbrev pub following_of : Offset → Following
following_of offset = record { identity = offset.identity; infos = offset.infos; cursors = offset.cursors; window = Absent; part = None }

-- The invariant is true after the first store, while only others have committed.
abbrev pub SessionsBegin : Type 0
SessionsBegin = (entry : SessionStart) (history : History) (first : Offset)
    → 1 ≤ entry.config.every → first.incarnation < 2 ^ 64 → Grows entry.history history → IsFitHistory entry.history → IsFitHistory history
    → AreInfosOf history first.infos
    → AreCursorsOf first.infos first.cursors → BeganWith entry history first
    → IsGoing entry (begun_at entry history first (following_of first))

-- ---- the source

-- Commits of others keep the invariant.
abbrev pub OthersKeepGoing : Type 0
OthersKeepGoing = (entry : SessionStart) (stage : Stage) (history : History)
    → Grows stage.history history → IsFitHistory history → IsGoing entry stage → IsGoing entry (record stage { history = history })

-- Confirming a position up to the stored LSN keeps the invariant.
abbrev pub ConfirmsKeepGoing : Type 0
ConfirmsKeepGoing = (entry : SessionStart) (stage : Stage) (history : History) (confirmed upto : Lsn)
    → Grows stage.history history → IsFitHistory history → upto.0 ≤ stage.stored.lsn.0
    → confirmed.0 ≡ max stage.confirmed.0 upto.0 → IsGoing entry stage
    → IsGoing entry (record stage { history = history; confirmed = confirmed })

-- Reading a message that ends no commit keeps the invariant.
abbrev pub MessagesKeepGoing : Type 0
MessagesKeepGoing = (entry : SessionStart) (stage : Stage) (m : Message)
    → FitsFields m → transaction_fault stage.first.infos stage.first.lsn m stage.messages ≡ None
    → ended_commit stage.first.infos m stage.messages ≡ None → ReadsOneMore stage m → IsGoing entry stage
    → IsGoing entry (record stage { messages = m ∷ stage.messages })

-- ---- windows

-- A window of an unfinished table was read, with this session's next number: its low watermark was written, its rows were selected, and its
-- high watermark was written, while others may have committed.
pub record WasArmed (stage : Stage) (limit : ℕ) (history : History) (chunk : Chunk) : Type 0 where
  pub marked : History
  pub looked : History
  pub low_is : Marks (low_text chunk.plan) stage.history marked
  pub rows_are : Grows marked looked
  pub high_is : Marks (high_text chunk.plan) looked history
  pub selected : IsSelected stage.first.infos looked (length marked.commits) (length looked.commits) chunk
  pub captured : slice_get stage.first.infos chunk.plan.table ≡ Some chunk.plan.info
  pub cursor : Cursor
  pub cursor_is : slice_get stage.following.cursors chunk.plan.table ≡ Some cursor
  pub not_done : cursor.done ≡ false
  pub above : chunk.plan.above ≡ cursor.last
  pub limit_is : chunk.plan.limit ≡ limit
  pub incarnation_is : chunk.plan.incarnation ≡ stage.first.incarnation
  pub number_is : chunk.plan.number ≡ stage.number + 1
  pub in_range : chunk.plan.number < 2 ^ 64

-- The stage after a window was read.
abbrev pub armed_at : Stage → History → Chunk → Stage
armed_at stage history chunk =
    record stage { history = history; following = record stage.following { window = Armed chunk }; number = stage.number + 1 }

-- Reading a window keeps the invariant, if no window was waiting.
abbrev pub WindowsKeepGoing : Type 0
WindowsKeepGoing = (entry : SessionStart) (stage : Stage) (history : History) (chunk : Chunk)
    → stage.following.window ≡ Absent → 1 ≤ entry.config.chunk → WasArmed stage entry.config.chunk history chunk
    → IsFitHistory history → IsGoing entry stage → IsGoing entry (armed_at stage history chunk)

-- ---- commits

-- A message ended a commit, which the follower processed without an error.
pub record WasFollowed (stage : Stage) (now : ℤ) (m : Message) (commit : Commit) (new : Following) : Type 0 where
  pub fields : FitsFields m
  pub clean : transaction_fault stage.first.infos stage.first.lsn m stage.messages ≡ None
  pub ends : ended_commit stage.first.infos m stage.messages ≡ Some commit
  pub right : ReadsOneMore stage m
  pub steps : Steps stage.following commit new
  pub no_clash : clash_by stage.following commit ≡ None
  -- The records of a window that the commit closes are those of its snapshot.
  pub listed : (chunk : Chunk) → closing stage.following.window (mark_of commit) ≡ Some chunk
      → IsSnapshot stage.following.identity stage.following.infos (closed_of chunk) commit now (records_by stage.following commit now)

-- The stage after a commit was followed and its records were appended.
abbrev pub followed_at : Stage → ℤ → Message → Commit → Following → Stage
followed_at stage now m commit new = record stage {
  messages = m ∷ stage.messages;
  groups = stage.groups ++ cut (records_by stage.following commit now);
  lsn = commit.lsn;
  end_lsn = commit.end_lsn;
  following = new;
  since = stage.since + 1;
}

-- Following a commit and appending its records keeps the invariant.
abbrev pub CommitsKeepGoing : Type 0
CommitsKeepGoing = (entry : SessionStart) (stage : Stage) (m : Message) (commit : Commit) (new : Following)
    → IsMomentInRange entry.now → stage.since < entry.config.every → WasFollowed stage entry.now m commit new → IsGoing entry stage
    → IsGoing entry (followed_at stage entry.now m commit new)

-- ---- stores

-- The stage after the next offset was stored.
abbrev pub stored_at : Stage → Stage
stored_at stage = record stage { stored = next_offset stage; since = 0 }

-- Storing the next offset keeps the invariant.
abbrev pub StoresKeepGoing : Type 0
StoresKeepGoing = (entry : SessionStart) (stage : Stage) → IsGoing entry stage → IsGoing entry (stored_at stage)
