-- The watermarks that a session waits for, among those that the source hasn't sent yet.
use Rattle.std.specs.Prelude.{◌≡◌, ◌⊎◌, ℕ, ◌≤◌, ◌++◌, map, Option, Some, None, IfSome, List, [], ◌∷◌}
use Rattle.dbl_base.specs.declared.lsn.Lsn.{Lsn}
use Rattle.dbl_model_table.specs.declared.change.Commit.{Commit}
use Rattle.dbl_capture_work.specs.ModelHistory.History.{RawBody, RawCommit, History, IsRising}
use Rattle.dbl_capture_work.specs.ModelHistory.History.RawBody.{Changes, Mark, Alter}
use Rattle.dbl_capture_work.specs.ModelCommit.Stated.{commits_of}
use Rattle.dbl_capture_work.specs.SourceModel.Calls.{head_of}
use Rattle.dbl_capture_work.specs.SourceModel.Standings.{Reading, SourceState}
use Rattle.dbl_capture_work.specs.SourceModel.Stated.{commits_after}
use Rattle.dbl_capture_work.specs.Offset.declared.offset.Offset.{Offset}
use Rattle.dbl_capture_work.specs.Faithful.Stores.{IsPositionOf}
use Rattle.dbl_capture_work.specs.Window.Plans.{low_text, high_text}
use Rattle.dbl_capture_work.specs.Follow.declared.window.Window.{Window}
use Rattle.dbl_capture_work.specs.Follow.declared.window.Window.TheVariants.{Absent, Armed, Open}
use Rattle.dbl_capture_work.specs.Follow.Steps.{mark_of}
use Rattle.dbl_capture_work.specs.declared.work.SessionState.{SessionState}

-- ---- within the log

-- No offset was stored, or its LSN isn't above the last commit of the source's log.
abbrev pub IsWithinLog : History → Option Offset → Type 0
IsWithinLog history stored = IfSome stored (λ offset. offset.lsn.0 ≤ (head_of history.commits).0)

-- Some position of the log isn't below the LSN.
pub record HasPositionInLog (lsn : Lsn) (history : History) : Type 0 where
  pub position : ℕ
  pub at : IsPositionOf history position
  pub not_below : lsn.0 ≤ position

-- ---- watermarks

-- The text of a watermark, and None for changes and for an alteration.
abbrev pub raw_mark_in : RawBody → Option (List ℕ)
raw_mark_in (Changes changes) = None
raw_mark_in (Mark value) = Some value
raw_mark_in (Alter name columns rows) = None

-- The watermark texts of a history's commits, in order.
abbrev pub marks_at : List RawCommit → List (Option (List ℕ))
marks_at commits = map (λ commit. raw_mark_in commit.body) commits

-- The watermark texts of the commits after an LSN, in order.
abbrev pub watermarks_since : Lsn → List RawCommit → List (Option (List ℕ))
watermarks_since after commits = marks_at (commits_after after commits)

-- The watermark texts of the commits that messages state, in order.
abbrev pub marks_of : List Commit → List (Option (List ℕ))
marks_of commits = map mark_of commits

-- One of the watermarks has this text.
abbrev pub HasMark : List ℕ → List (Option (List ℕ)) → Type 0
HasMark value [] = ⊥
HasMark value (mark ∷ marks) = (mark ≡ Some value) ⊎ HasMark value marks

-- One of the watermarks has the text `low`, and one after it the text `high`.
abbrev pub HasBoth : List ℕ → List ℕ → List (Option (List ℕ)) → Type 0
HasBoth low high [] = ⊥
HasBoth low high (mark ∷ marks) = ((mark ≡ Some low) × HasMark high marks) ⊎ HasBoth low high marks

-- The watermarks that a window waits for are among these.
abbrev pub AreAwaited : List (Option (List ℕ)) → Window → Type 0
AreAwaited marks Absent = Unit {0}
AreAwaited marks (Armed chunk) = HasBoth (low_text chunk.plan) (high_text chunk.plan) marks
AreAwaited marks (Open chunk) = HasMark (high_text chunk.plan) marks

-- The commits that the source still has to send include the watermarks that the session waits for.
pub record Awaits {S : Type 0} (stands : S → SourceState → Type 0) (work : SessionState) (src : S) : Type 0 where
  pub standing : SourceState
  pub is : stands src standing
  pub reading : Reading
  pub reading_is : standing.reading ≡ Some reading
  pub within : HasPositionInLog reading.after standing.history
  pub later : List (Option (List ℕ))
  pub parted : watermarks_since reading.after standing.history.commits ≡ marks_of (commits_of work.offset.infos reading.messages) ++ later
  pub awaited : AreAwaited later work.follower.window

-- ---- theorem

-- An offset at a position of the log isn't above its last commit.
abbrev pub StoodOffsetsAreWithin : Type 0
StoodOffsetsAreWithin = (history : History) (stored : Option Offset) → IsRising history
    → IfSome stored (λ offset. IsPositionOf history offset.lsn.0) → IsWithinLog history stored
