-- The effect of each call of a source on its state, and the meaning of its answer.
use Rattle.std.specs.Prelude.{◌≡◌, ℕ, ◌<◌, ◌≤◌, max, Some, None, List, [], ◌∷◌, length, take}
use Rattle.dbl_base.specs.declared.lsn.Lsn.{Lsn}
use Rattle.dbl_model_commit.specs.Pgmsg.declared.messages.Message.{Message}
use Rattle.dbl_model_commit.specs.ModelTable.declared.table.TableInfo.{TableInfo}
use Rattle.dbl_model_commit.specs.ModelHistory.History.{RawCommit}
use Rattle.dbl_model_commit.specs.ModelHistory.Fit.{AreInfosOf}
use Rattle.dbl_model_commit.specs.ModelHistory.VersionRows.{WereInfosOf}
use Rattle.dbl_model_commit.specs.Stated.{commits_of}
use Rattle.dbl_model_commit.specs.Blocks.{AreWithoutFault}
use Rattle.dbl_source_model.specs.declared.started.Started.{Started}
use Rattle.dbl_source_model.specs.declared.started.Started.TheVariants.{Ready, Gone}
use Rattle.dbl_source_model.specs.Standings.{Reading, SourceState}
use Rattle.dbl_source_model.specs.Growth.{Grows, Marks}
use Rattle.dbl_model_commit.specs.Shaped.{AreReadable, shaped_commits}
use Rattle.dbl_source_model.specs.Stated.{commits_after}

-- Whether at most commits of other sessions were added.
pub record Moved (s t : SourceState) : Type 0 where
  pub grows : Grows s.history t.history
  pub confirmed : t.confirmed ≡ s.confirmed
  pub reading : t.reading ≡ s.reading

-- Whether one watermark of this value was written, besides commits of other sessions.
pub record IsMarked (value : List ℕ) (s t : SourceState) : Type 0 where
  pub marks : Marks value s.history t.history
  pub confirmed : t.confirmed ≡ s.confirmed
  pub reading : t.reading ≡ s.reading

-- The LSN of the last of some commits after others, the last of which has this LSN.
abbrev pub head_after : Lsn → List RawCommit → Lsn
head_after lsn [] = lsn
head_after lsn (commit ∷ commits) = head_after commit.lsn commits

-- The LSN of the last commit, 0 if there is none.
abbrev pub head_of : List RawCommit → Lsn
head_of commits = head_after (record { 0 = 0 }) commits

-- Whether the LSN is the head at one position between the call and the return.
pub record IsHead (lsn : Lsn) (s t : SourceState) : Type 0 where
  pub place : ℕ
  pub not_before : length s.history.commits ≤ place
  pub not_after : place ≤ length t.history.commits
  pub is : lsn ≡ head_of (take place t.history.commits)

-- Whether reading begins with the first commit after the LSN, and nothing has been read yet.
pub record IsBegun (after : Lsn) (s t : SourceState) : Type 0 where
  pub grows : Grows s.history t.history
  pub confirmed : t.confirmed ≡ s.confirmed
  pub reading : t.reading ≡ Some (record { after = after; messages = [] })

-- Whether the log after the LSN is gone: only the log up to the confirmed position is ever dropped.
pub record IsGone (after first : Lsn) (s t : SourceState) : Type 0 where
  pub grows : Grows s.history t.history
  pub confirmed : t.confirmed ≡ s.confirmed
  pub reading : t.reading ≡ None
  pub later : after.0 < first.0
  pub dropped : first.0 ≤ s.confirmed.0

-- The effect of a start, by its answer.
abbrev pub Starts : Lsn → Started → SourceState → SourceState → Type 0
Starts after Ready s t = IsBegun after s t
Starts after (Gone first) s t = IsGone after first s t

-- Whether the answer of a start is exact: whether the log after the LSN is still there, and if it is gone, where the log begins.
abbrev pub TellsLog : (keeps_from begins_at : SourceState → Lsn → Type 0) → SourceState → Lsn → Started → Type 0
TellsLog keeps_from begins_at s after Ready = keeps_from s after
TellsLog keeps_from begins_at s after (Gone first) = (¬ keeps_from s after) × begins_at s first

-- Whether the LSN isn't below the confirmed position: a source that drops all of its log up to there still has the log after such an LSN.
abbrev pub IsConfirmedUpTo : SourceState → Lsn → Type 0
IsConfirmedUpTo s after = s.confirmed.0 ≤ after.0

-- Whether the LSN is the confirmed position, where the log of such a source begins.
abbrev pub IsConfirmedAt : SourceState → Lsn → Type 0
IsConfirmedAt s first = first ≡ s.confirmed

-- Whether one more message was read.
pub record HasReadOneMore (message : Message) (s t : SourceState) : Type 0 where
  pub grows : Grows s.history t.history
  pub confirmed : t.confirmed ≡ s.confirmed
  pub before : Reading
  pub was : s.reading ≡ Some before
  pub is : t.reading ≡ Some (record { after = before.after; messages = message ∷ before.messages })

-- Whether all commits after the start that existed at the call were read. Stated of messages without an error in the columns of the last
-- Relations, for any captured tables as they were described at any positions, by the number of commits that the messages state, which are
-- the first ones after the start.
pub record HasReadAll (s t : SourceState) : Type 0 where
  pub each : (reading : Reading) → t.reading ≡ Some reading
      → (infos : List TableInfo) → WereInfosOf t.history (length t.history.commits) infos
      → AreReadable infos reading.after reading.messages
      → length (commits_after reading.after s.history.commits) ≤ length (shaped_commits infos reading.messages)

-- Whether all commits after the start that existed at the call were read, of messages without an error in the columns of the catalogue.
pub record HasReadAllPlainly (s t : SourceState) : Type 0 where
  pub each : (reading : Reading) → t.reading ≡ Some reading → (infos : List TableInfo) → AreInfosOf t.history infos
      → AreWithoutFault infos reading.after reading.messages
      → length (commits_after reading.after s.history.commits) ≤ length (commits_of infos reading.messages)

-- Whether the confirmed position is the greater of the old one and the supplied one.
pub record IsConfirmed (upto : Lsn) (s t : SourceState) : Type 0 where
  pub grows : Grows s.history t.history
  pub confirmed : t.confirmed.0 ≡ max s.confirmed.0 upto.0
  pub reading : t.reading ≡ s.reading
