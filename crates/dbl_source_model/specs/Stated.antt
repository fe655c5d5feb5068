-- Correctly read messages: they state the history's commits in order. Lists of messages have the newest first. PostgreSQL's "Logical
-- Streaming Replication Protocol".
use Rattle.std.specs.Prelude.{◌≡◌, nat_lt, Option, Some, None, IfSome, filter, List, [], ◌∷◌, ◌++◌, length, map, slice_get}
use Rattle.std.specs.List.{AllByRecursion}
use Rattle.dbl_base.specs.declared.lsn.Lsn.{Lsn}
use Rattle.dbl_model_commit.specs.Pgmsg.declared.messages.Message.{Message}
use Rattle.dbl_model_commit.specs.ModelTable.declared.table.TableInfo.{TableInfo}
use Rattle.dbl_model_commit.specs.ModelTable.declared.change.Commit.{Commit}
use Rattle.dbl_model_commit.specs.ModelHistory.History.{RawCommit, History}
use Rattle.dbl_model_commit.specs.ModelHistory.Typed.{typed_commit}
use Rattle.dbl_model_commit.specs.ModelHistory.Fit.{AreInfosOf}
use Rattle.dbl_model_commit.specs.ModelHistory.InForce.{Versioned, plain_commit, versioned}
use Rattle.dbl_model_commit.specs.ModelHistory.VersionRows.{WereInfosOf}
use Rattle.dbl_model_commit.specs.declared.txn_error.TxnError.{TxnError}
use Rattle.dbl_model_commit.specs.declared.txn_error.TxnError.TheVariants as errors
use Rattle.dbl_model_commit.specs.Stated.{commits_of, transaction_fault}
use Rattle.dbl_model_commit.specs.Blocks.{AreWithoutFault}
use Rattle.dbl_model_commit.specs.BegunCommits.{BeginsNext}
use Rattle.dbl_source_model.specs.Standings.{Reading}
use Rattle.dbl_model_commit.specs.Shaped.{shapes, message_fault, AreReadable, shaped_commits, changed_targets, HasSameColumns}

-- The commits after an LSN.
abbrev pub commits_after : Lsn → List RawCommit → List RawCommit
commits_after after commits = filter (λ commit. nat_lt after.0 commit.lsn.0) commits

-- The commits that messages read after an LSN have to state: those after it, of the captured tables only, with cells as values.
abbrev pub to_state : List TableInfo → Lsn → History → List Commit
to_state infos after history = map (typed_commit infos) (commits_after after history.commits)

-- Whether an error is of content of a valid history that can't be captured: a table that can't be read in its other columns, a moved key
-- with an unsent cell, a text that doesn't parse.
abbrev pub IsOfContent : TxnError → Type 0
IsOfContent (errors.SchemaChanged table) = Unit {0}
IsOfContent (errors.MovedUnchanged table column) = Unit {0}
IsOfContent (errors.Value table column error) = Unit {0}
IsOfContent errors.OutsideTransaction = ⊥
IsOfContent errors.NestedBegin = ⊥
IsOfContent (errors.CommitMismatch begin commit) = ⊥
IsOfContent (errors.LsnOrder last got) = ⊥
IsOfContent (errors.UnknownRelation oid) = ⊥
IsOfContent (errors.ColumnCount want got) = ⊥
IsOfContent (errors.KeyNotInIdentity table) = ⊥
IsOfContent (errors.MissingOld table) = ⊥
IsOfContent (errors.UnchangedCell table column) = ⊥
IsOfContent (errors.NullKey table) = ⊥
IsOfContent errors.BadMark = ⊥
IsOfContent errors.Memory = ⊥

-- Whether the next message of a conforming source may have this error: none, or one of content.
abbrev pub MayStand : Option TxnError → Type 0
MayStand None = Unit {0}
MayStand (Some e) = IsOfContent e

-- Whether the messages state the first of these commits, each as a whole, and an open transaction after them begins the next commit.
pub record StatesSome (infos : List TableInfo) (commits : List Commit) (ms : List Message) : Type 0 where
  pub later : List Commit
  pub stated : commits ≡ commits_of infos ms ++ later
  pub next : BeginsNext infos ms later

-- Whether the messages are correct, one by one: the first error, if any, is one of content, and the messages before it state the first of
-- the commits. Messages after an error are not restricted.
abbrev pub ReadsRight : List TableInfo → Lsn → List Commit → List Message → Type 0
ReadsRight infos after commits [] = Unit {0}
ReadsRight infos after commits (m ∷ ms) =
    (AreWithoutFault infos after ms → MayStand (transaction_fault infos after m ms))
    × (AreWithoutFault infos after (m ∷ ms) → StatesSome infos commits (m ∷ ms)) × ReadsRight infos after commits ms

-- Whether, for any tables as the catalogue describes them before all commits, the messages are correct for the history in its present
-- state.
abbrev pub IsReadPlainly : History → Reading → Type 0
IsReadPlainly history reading = (infos : List TableInfo) → AreInfosOf history infos
    → ReadsRight infos reading.after (to_state infos reading.after history) reading.messages

-- ---- histories whose tables may be altered

-- The commits after an LSN, each with the captured tables in the columns in force at it.
abbrev pub versions_after : Lsn → List Versioned → List Versioned
versions_after after versions = filter (λ v. nat_lt after.0 v.lsn.0) versions

-- Whether a table that the message changes has by its last Relation the columns in force: those at the commit that the message is of, which
-- comes after the commits that the messages before it state.
abbrev pub IsInForce : List TableInfo → List Versioned → Message → List Message → Type 0
IsInForce infos versions m ms = IfSome (slice_get versions (length (shaped_commits infos ms)))
    (λ v. AllByRecursion (HasSameColumns v.infos (shapes infos ms)) (changed_targets (shapes infos ms) m ms))

-- Whether the messages, read in the columns of the last Relations, state the first of these commits, each as a whole, and an open
-- transaction after them begins the next commit.
pub record StatesFirst (infos : List TableInfo) (commits : List Commit) (ms : List Message) : Type 0 where
  pub later : List Commit
  pub stated : commits ≡ shaped_commits infos ms ++ later
  pub next : BeginsNext (shapes infos ms) ms later

-- Whether the messages are correct, one by one: the first error, if any, is one of content; up to there the last Relation of a table before
-- a change has the columns in force, and the messages before the error state the first of the commits. Messages after an error are not
-- restricted.
abbrev pub ReadsInForce : List TableInfo → Lsn → List Versioned → List Message → Type 0
ReadsInForce infos after versions [] = Unit {0}
ReadsInForce infos after versions (m ∷ ms) =
    (AreReadable infos after ms → MayStand (message_fault infos after m ms) × IsInForce infos versions m ms)
    × (AreReadable infos after (m ∷ ms) → StatesFirst infos (map plain_commit versions) (m ∷ ms)) × ReadsInForce infos after versions ms

-- Whether the messages are correct for the history in its present state, for any captured tables as they were described at any positions of
-- the history: their descriptions give names and keys only, since each message is read in the columns of the last Relations.
abbrev pub IsReadRight : History → Reading → Type 0
IsReadRight history reading = (infos : List TableInfo) → WereInfosOf history (length history.commits) infos
    → ReadsInForce infos reading.after (versions_after reading.after (versioned infos history)) reading.messages
