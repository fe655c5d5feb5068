-- The rules of one session, stated without a source, sink or store, so that they apply to every implementation that follows them. After
-- Andreakis and Papapanagiotou, "DBLog: A Watermark Based Change-Data-Capture Framework" (2020).
use Rattle.std.specs.Prelude.{◌≡◌, ℤ, ◌+◌, ◌<◌, ◌≤◌, ◌^◌, max, Option, Some, None, ◌∷◌}
use Rattle.dbl_base.specs.declared.lsn.Lsn.{Lsn}
use Rattle.dbl_pgmsg.specs.declared.messages.Message.{Message}
use Rattle.dbl_pgmsg.specs.Grammar.{FitsFields}
use Rattle.dbl_model_table.specs.declared.config.Config.{Config}
use Rattle.dbl_model_table.specs.declared.change.Commit.{Commit}
use Rattle.dbl_model_history.specs.History.{History}
use Rattle.dbl_model_history.specs.Fit.{AreInfosOf, IsFitHistory}
use Rattle.dbl_model_history.specs.Ranges.{IsMomentInRange}
use Rattle.dbl_model_commit.specs.Stated.{ended_commit, transaction_fault}
use Rattle.dbl_source.specs.SourceModel.Growth.{Grows}
use Rattle.dbl_capture_laws.specs.Offset.declared.offset.Offset.{Offset}
use Rattle.dbl_capture_laws.specs.Window.Plans.{Chunk}
use Rattle.dbl_capture_laws.specs.Follow.declared.window.Window.TheVariants.{Absent}
use Rattle.dbl_capture_laws.specs.Follow.Followed.{Following}
use Rattle.dbl_capture_laws.specs.CaptureModel.Entries.{SessionStart}
use Rattle.dbl_capture_laws.specs.CaptureModel.Stages.{Stage}
use Rattle.dbl_capture_laws.specs.CaptureModel.Going.{BeganWith}
use Rattle.dbl_capture_laws.specs.CaptureModel.Steps.{ReadsOneMore, begun_at, following_of, WasArmed}
use Rattle.dbl_capture_laws.specs.CaptureModel.Steps.{armed_at, WasFollowed, followed_at, stored_at}

-- A valid request for a session: at least one row a window, a store after at least one commit, and a time in the supported range.
pub record IsAsked (config : Config) (now : ℤ) : Type 0 where
  pub chunk : 1 ≤ config.chunk
  pub every : 1 ≤ config.every
  pub moment : IsMomentInRange now

-- ---- the beginning

-- A first offset captures tables as the source's catalogue described them; a later session reads no descriptions.
abbrev pub WasDescribed : History → Offset → Option Offset → Type 0
WasDescribed history first None = AreInfosOf history first.infos
WasDescribed history first (Some old) = Unit {0}

-- The offset that a session stores before anything else, while only others have committed: the one that it found, with the next
-- incarnation, or a first one at the head of the history, with no table started. Incarnations fit in 64 bits.
pub record BeginsSession (entry : SessionStart) (history : History) (first : Offset) : Type 0 where
  pub grows : Grows entry.history history
  pub fit : IsFitHistory history
  pub began : BeganWith entry history first
  pub described : WasDescribed history first entry.offset
  pub incarnation_fits : first.incarnation < 2 ^ 64

-- The offset with which the next session begins, if this one is stored.
abbrev pub raised : Offset → Offset
raised old = record old { incarnation = old.incarnation + 1 }

-- ---- its steps

-- A message was read that may follow those before it, and that ends no commit.
pub record EndsNoCommit (stage : Stage) (m : Message) : Type 0 where
  pub fields : FitsFields m
  pub clean : transaction_fault stage.first.infos stage.first.lsn m stage.messages ≡ None
  pub ends : ended_commit stage.first.infos m stage.messages ≡ None
  pub right : ReadsOneMore stage m

-- The stages that a session may reach. After it stored its first offset, in any order that the rules allow: others commit; a message is
-- read; a window is read between its two watermarks, if none is open; a message ends a commit, whose records, or those of the window that
-- it closes, are appended; the next offset is stored; a position up to the stored LSN is confirmed. The source is conforming.
pub data Run (entry : SessionStart) : Stage → Type 0 where
  begins : (history : History) (first : Offset) → BeginsSession entry history first
      → Run entry (begun_at entry history first (following_of first))
  others : (stage : Stage) (history : History) → Run entry stage → Grows stage.history history → IsFitHistory history
      → Run entry (record stage { history = history })
  reads : (stage : Stage) (m : Message) → Run entry stage → EndsNoCommit stage m
      → Run entry (record stage { messages = m ∷ stage.messages })
  arms : (stage : Stage) (history : History) (chunk : Chunk) → Run entry stage → stage.following.window ≡ Absent
      → WasArmed stage entry.config.chunk history chunk → IsFitHistory history
      → Run entry (armed_at stage history chunk)
  follows : (stage : Stage) (m : Message) (commit : Commit) (new : Following) → Run entry stage
      → stage.since < entry.config.every → WasFollowed stage entry.now m commit new
      → Run entry (followed_at stage entry.now m commit new)
  stores : (stage : Stage) → Run entry stage → Run entry (stored_at stage)
  confirms : (stage : Stage) (history : History) (confirmed upto : Lsn) → Run entry stage
      → Grows stage.history history → IsFitHistory history
      → upto.0 ≤ stage.stored.lsn.0 → confirmed.0 ≡ max stage.confirmed.0 upto.0
      → Run entry (record stage { history = history; confirmed = confirmed })
