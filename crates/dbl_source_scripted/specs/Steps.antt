-- A source that is played from a script as a `Source`, and the results of its `read`.
use Rattle.std.specs.Prelude.{◌≡◌, ◌⊎◌, ℕ, ◌<◌, ◌≤◌, IsTrue, Option, Some, IsSomeAnd, slice_get, List, ◌∷◌, ◌++◌, length, take}
use Rattle.std.specs.BTreeMap.{BTreeMap}
use Rattle.dbl_base.specs.Memory.{Plan}
use Rattle.dbl_pgmsg.specs.declared.messages.Message.{Message}
use Rattle.dbl_pgmsg.specs.declared.messages.RelationColumn.{RelationColumn}
use Rattle.dbl_pgmsg.specs.Grammar.{Fits, Spells}
use Rattle.dbl_source_model.specs.Standings.{SourceState, CrashState, left_of}
use Rattle.dbl_source_log.specs.declared.logged.LogTable.{LogTable}
use Rattle.dbl_source_log.specs.declared.logged.Logged.{Logged}
use Rattle.dbl_source_log.specs.declared.reader_position.ReaderPosition.{ReaderPosition}
use Rattle.dbl_source_log.specs.Alterations.{HaveVersions}
use Rattle.dbl_source_log.specs.Sent.{sent_after, index_of, told_at, IsPlaceIn}
use Rattle.dbl_source_scripted.specs.declared.asked.Asked.{Asked}
use Rattle.dbl_source_log.specs.declared.error.SourceError.{SourceError}
use Rattle.dbl_source_log.specs.declared.error.SourceError.TheVariants.{Failed, Memory}
use Rattle.dbl_source_log.specs.declared.reading.Step.{Step}
use Rattle.dbl_source_log.specs.Readings.{IsNext, Describes}
use Rattle.dbl_source_log.specs.Numbers.{commit_limit}
use Rattle.dbl_source_scripted.specs.Fairness.{IsFair}
use Rattle.dbl_source_scripted.specs.Played.{Played, standing_of, IsFullBy, IsPlannedToFail, with_counted_call, committed, with_fault}

-- Whether the source can be used, and this is its state.
abbrev pub HasPlayedState : Played → SourceState → Type 0
HasPlayedState s t = IsTrue s.live × (t ≡ standing_of s)

-- Whether a crash may leave this: its state, also if the source can't be used.
abbrev pub MayLeavePlayed : Played → CrashState → Type 0
MayLeavePlayed s l = l ≡ left_of (standing_of s)

-- Whether its script has been fair so far.
abbrev pub WasFair : Played → Type 0
WasFair s = IsFair s.tables s.log s.asked s.rows

-- The message that a reader at this position reads next, None at the end of the log.
abbrev pub next_message : Played → ReaderPosition → Option Message
next_message s place = slice_get (sent_after s.tables place.after s.log) (length (told_at s.tables s.log place))

-- Whether the next message has no encoding, so that a read fails.
abbrev pub IsUnfit : Played → Type 0
IsUnfit s = (place : ReaderPosition) × (s.place ≡ Some place) × IsSomeAnd (next_message s place) (λ message. ¬ Fits message)

-- Whether the plan is that after a call: the call is counted, and a fault if and only if it was planned to fail.
abbrev pub HasCountedCall : Played → Plan → Type 0
HasCountedCall old plan = ((¬ IsPlannedToFail old) × (plan ≡ (with_counted_call old).plan))
    ⊎ (IsPlannedToFail old × (plan ≡ (with_fault (with_counted_call old)).plan))

-- Whether memory ran out in a call that was to add these commits: some first ones of them are in the log, and nothing else changed but the
-- counts of the plan.
pub record AddedFirst (commits : List Logged) (old new : Played) : Type 0 where
  pub count : ℕ
  pub few : count ≤ length commits
  pub counts : HasCountedCall old new.plan
  pub is : new ≡ record old { log = old.log ++ take count commits; plan = new.plan }

-- ---- for private clauses and invariants

-- The invariant of a played source: fewer than 2^40 commits; each select so far returned when there were no more commits than now; and the
-- reader, if there is one, is at a position in the log.
pub record KeepsPlayed (s : Played) : Type 0 where
  pub few : length s.log < commit_limit
  pub before : (n : ℕ) (question : Asked) → slice_get s.asked n ≡ Some question → question.upto ≤ length s.log
  pub placed : (p : ReaderPosition) → s.place ≡ Some p → IsPlaceIn s.log p

-- Whether some first ones of these commits were appended to the log.
pub record HasPlayed (commits old new : List Logged) : Type 0 where
  pub count : ℕ
  pub few : count ≤ length commits
  pub is : new ≡ old ++ take count commits

-- Whether a call that was to add these commits of other clients, and some of its own, failed: with nothing committed if the history is
-- full, otherwise after these commits if it was planned to fail.
abbrev pub HasFailed : List Logged → ℕ → Played → Played → Type 0
HasFailed before own old new =
    (IsFullBy (length before) own old × (new ≡ with_fault (with_counted_call old)))
    ⊎ (IsPlannedToFail old × (¬ IsFullBy (length before) own old) × (new ≡ with_fault (committed before (with_counted_call old))))

-- Whether a reader at this position has no more messages.
abbrev pub IsAtEnd : List Logged → ReaderPosition → Type 0
IsAtEnd log place = length log ≤ index_of place

-- Whether these bytes are the next message, the reader is now after it, and nothing else changed.
pub record IsReadBy (old new : Played) (bytes : List ℕ) : Type 0 where
  pub place : ReaderPosition
  pub was : old.place ≡ Some place
  pub next : ReaderPosition
  pub is : new ≡ record old { place = Some next }
  pub same : next.after ≡ place.after
  pub message : Message
  pub spelled : Spells bytes message
  pub told : told_at old.tables old.log next ≡ message ∷ told_at old.tables old.log place

-- Whether the step reads the next message of a source with a reader.
pub record ReadsNextMessage (s : Played) (step : Step) : Type 0 where
  pub place : ReaderPosition
  pub was : s.place ≡ Some place
  pub next : IsNext s.tables s.log place step

-- Whether nothing is left to be read, and nothing changed.
pub record IsUnmoved (old new : Played) : Type 0 where
  pub is : new ≡ old
  pub ends : (place : ReaderPosition) → old.place ≡ Some place → IsAtEnd old.log place

-- Whether a read failed: a fault is counted if the message has no encoding, and nothing changed if memory ran out.
abbrev pub FailsToRead : Played → Played → SourceError → Type 0
FailsToRead old new e = ((e ≡ Memory) × (new ≡ old)) ⊎ ((e ≡ Failed) × (new ≡ with_fault old) × IsUnfit old)

-- The invariant of the parts of each played source: as above, with the Relations that the reader has read as they were described; and the
-- versions of its tables have 64 bits after any alterations.
pub record IsPlayed (tables : List LogTable) (log : List Logged) (asked : List Asked) (place : Option ReaderPosition)
    (described : BTreeMap ℕ (List RelationColumn)) : Type 0 where
  pub few : length log < commit_limit
  pub before : (n : ℕ) (question : Asked) → slice_get asked n ≡ Some question → question.upto ≤ length log
  pub placed : (p : ReaderPosition) → place ≡ Some p → IsPlaceIn log p
  pub recalled : (p : ReaderPosition) → place ≡ Some p → Describes described (told_at tables log p)
  pub versions : HaveVersions commit_limit tables
