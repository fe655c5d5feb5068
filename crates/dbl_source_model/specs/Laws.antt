-- Theorems over the definitions of a source's history and answers.
use Rattle.std.specs.Prelude.{◌≡◌, ◌↔◌, ◌⊎◌, ◌<◌, ◌≤◌, ℕ, is_some, not, Option, Some, None, IfSome, IsSomeAnd}
use Rattle.std.specs.Prelude.{List, [], ◌∷◌, ◌++◌, length, map, slice_get}
use Rattle.std.specs.List.{AllByRecursion}
use Rattle.dbl_base.specs.declared.lsn.Lsn.{Lsn}
use Rattle.dbl_model_commit.specs.Value.declared.value.Val.{Val}
use Rattle.dbl_model_commit.specs.Pgmsg.declared.messages.Message.{Message}
use Rattle.dbl_model_commit.specs.ModelTable.declared.table.TableName.{TableName}
use Rattle.dbl_model_commit.specs.ModelTable.declared.table.RawRow.{RawRow}
use Rattle.dbl_model_commit.specs.ModelTable.declared.table.TableInfo.{TableInfo}
use Rattle.dbl_model_commit.specs.ModelTable.declared.row.Key.{Key}
use Rattle.dbl_model_commit.specs.ModelTable.declared.change.Commit.{Commit}
use Rattle.dbl_model_commit.specs.ModelTable.Infos.{number_of}
use Rattle.dbl_model_commit.specs.ModelTable.Rows.{table_of, changes_of, rows, moment_of}
use Rattle.dbl_model_commit.specs.ModelHistory.History.{History, IsRising, entry_of}
use Rattle.dbl_model_commit.specs.ModelHistory.Typed.{typed}
use Rattle.dbl_model_commit.specs.ModelHistory.Fit.{IsKeyOf, AreInfosOf, IsFitHistory}
use Rattle.dbl_model_commit.specs.ModelHistory.InForce.{entry_at, version_at, Versioned, plain_commit, versioned}
use Rattle.dbl_model_commit.specs.ModelHistory.VersionRows.{rows_in_force, infos_in_force, WereInfosOf}
use Rattle.dbl_model_commit.specs.ModelHistory.KeyBounds.{IsAbove, IsUpTo}
use Rattle.dbl_model_commit.specs.ModelHistory.KeyedRows.{row_in, last_key}
use Rattle.dbl_model_commit.specs.Past.{begin_of}
use Rattle.dbl_model_commit.specs.Stated.{is_empty, ended_commit, commits_of}
use Rattle.dbl_model_commit.specs.Blocks.{onto, States, AreWithoutFault}
use Rattle.dbl_model_commit.specs.BegunCommits.{BeginsNext}
use Rattle.dbl_source_model.specs.declared.selected.Selected.{Selected}
use Rattle.dbl_source_model.specs.Standings.{Reading, SourceState, CrashState}
use Rattle.dbl_source_model.specs.Growth.{KeepsColumns, Grows, Marks, marks_in}
use Rattle.dbl_model_commit.specs.Shaped.{shapes, AreReadable, shaped_commits, HasOwnColumns}
use Rattle.dbl_source_model.specs.Stated.{to_state, ReadsRight, IsReadPlainly, versions_after, ReadsInForce, IsReadRight}
use Rattle.dbl_source_model.specs.Selected.{rows_up_to, keyed_row, AreRowsAt, AreAnswered}
use Rattle.dbl_source_model.specs.Calls.{HasReadAll, HasReadAllPlainly}
use Rattle.dbl_source_model.specs.Leaves.{MayFollow, MayFollowMark}

-- Growth of a history is transitive.
abbrev pub GrownHistoriesGrow : Type 0
GrownHistoriesGrow = (a b c : History) → Grows a b → Grows b c → Grows a c

-- The rows at a position stay as they are when the history grows.
abbrev pub GrownHistoriesKeepRows : Type 0
GrownHistoriesKeepRows = (infos : List TableInfo) (old new : History) (place : ℕ) → Grows old new → place ≤ length old.commits
    → rows_up_to infos new place ≡ rows_up_to infos old place

-- The rows after a number of first commits are those at the point of the history after them.
abbrev pub RowsUpToAreRows : Type 0
RowsUpToAreRows = (infos : List TableInfo) (history : History) (place : ℕ)
    → rows_up_to infos history place ≡ rows infos (typed infos history) (moment_of (typed infos history) place 0)

-- Other sessions write no watermark.
abbrev pub OthersWriteNoMark : Type 0
OthersWriteNoMark = (old new : History) → Grows old new → marks_in new.commits ≡ marks_in old.commits

-- Writing a watermark adds exactly this one.
abbrev pub MarksAreWrittenOnce : Type 0
MarksAreWrittenOnce = (value : List ℕ) (old new : History) → Marks value old new → marks_in new.commits ≡ marks_in old.commits ++ value ∷ []

-- Whether messages in order are transactions that state the first of these commits, followed by a rest, which isn't empty if and only if a
-- transaction is open, and then begins the next commit.
pub record AreFirstBlocks (infos : List TableInfo) (commits : List Commit) (ms : List Message) : Type 0 where
  pub list : List Message
  pub rest : List Message
  pub in_order : onto [] list ≡ ms
  pub later : List Commit
  pub states : States infos list (commits_of infos ms) rest
  pub stated : commits ≡ commits_of infos ms ++ later
  pub is_open : is_some (begin_of ms) ≡ not (is_empty rest)
  pub next : BeginsNext infos ms later

-- Correctly read messages without an error are such transactions and a rest.
abbrev pub ReadMessagesAreBlocks : Type 0
ReadMessagesAreBlocks = (infos : List TableInfo) (after : Lsn) (commits : List Commit) (ms : List Message)
    → ReadsRight infos after commits ms → AreWithoutFault infos after ms → AreFirstBlocks infos commits ms

-- An LSN divides a history: the messages read after it have to state its last commits, and the commits before these are those up to the
-- LSN.
abbrev pub HistoriesPartAtAnLsn : Type 0
HistoriesPartAtAnLsn = (infos : List TableInfo) (after : Lsn) (history : History) → IsRising history
    → (before : List Commit) × (typed infos history ≡ before ++ to_state infos after history)
    × AllByRecursion (λ (commit : Commit). commit.lsn.0 ≤ after.0) before

-- Correctly read messages stay correct when the history grows.
abbrev pub ReadersGoOn : Type 0
ReadersGoOn = (infos : List TableInfo) (after : Lsn) (old new : History) (ms : List Message) → Grows old new
    → ReadsRight infos after (to_state infos after old) ms → ReadsRight infos after (to_state infos after new) ms

-- If all was read, the messages state every commit after the start that existed at the call, possibly followed by others.
abbrev pub AllReadIsAllStated : Type 0
AllReadIsAllStated = (infos : List TableInfo) (s t : SourceState) (reading : Reading) → Grows s.history t.history → t.reading ≡ Some reading
    → WereInfosOf t.history (length t.history.commits) infos → IsReadRight t.history reading
    → AreReadable infos reading.after reading.messages → HasReadAll s t
    → (more : List Commit) × (shaped_commits infos reading.messages
    ≡ map plain_commit (versions_after reading.after (versioned infos s.history)) ++ more)

-- Whether a commit that messages state, read by these captured tables, is a version's, with each table that it changes in the columns in
-- force there.
pub record IsReadAs (now : List TableInfo) (commit : Commit) (v : Versioned) : Type 0 where
  pub is : plain_commit v ≡ commit
  pub columns : AllByRecursion (λ change. slice_get now (table_of change) ≡ slice_get v.infos (table_of change)) (changes_of commit)

-- Whether the commits that the messages state are read as the first of the versions.
abbrev pub AreOfVersions : List TableInfo → List Versioned → List Message → Type 0
AreOfVersions infos versions [] = Unit {0}
AreOfVersions infos versions (m ∷ ms) =
    IfSome (ended_commit (shapes infos (m ∷ ms)) m ms)
    (λ commit. IsSomeAnd (slice_get versions (length (shaped_commits infos ms))) (IsReadAs (shapes infos (m ∷ ms)) commit))
    × AreOfVersions infos versions ms

-- Correct messages without an error state commits that are read in the columns in force.
abbrev pub StatedCommitsAreInForce : Type 0
StatedCommitsAreInForce = (infos : List TableInfo) (after : Lsn) (versions : List Versioned) (ms : List Message)
    → ReadsInForce infos after versions ms → AreReadable infos after ms → AreOfVersions infos versions ms

-- If no commit alters a table, messages that are correct in the columns of the last Relations are correct in those of the catalogue.
abbrev pub UnalteredTablesAreReadPlainly : Type 0
UnalteredTablesAreReadPlainly = (history : History) (reading : Reading) → KeepsColumns history → IsReadRight history reading
    → IsReadPlainly history reading

-- If no commit alters a table and all was read, all was read of messages without an error in the columns of the catalogue.
abbrev pub UnalteredTablesAreAllRead : Type 0
UnalteredTablesAreAllRead = (s t : SourceState) → KeepsColumns t.history → HasReadAll s t → HasReadAllPlainly s t

-- If no commit alters a table and each Relation has its table's own columns, messages that are correct in the columns of the catalogue are
-- correct in those of the last Relations.
abbrev pub OwnColumnsAreReadRight : Type 0
OwnColumnsAreReadRight = (history : History) (reading : Reading) → KeepsColumns history
    → ((infos : List TableInfo) → AreInfosOf history infos → AllByRecursion (HasOwnColumns infos) reading.messages)
    → IsReadPlainly history reading → IsReadRight history reading

-- Whether at a position each table is as the catalogue has it before all commits: its entry, its version, which is 1, what can be captured
-- of it, its columns, and its rows.
pub record HasFirstTables (history : History) (place : ℕ) : Type 0 where
  pub entry : (name : TableName) → entry_at history place name ≡ entry_of history name
  pub version : (name : TableName) → version_at history place name ≡ 1
  pub described : (infos : List TableInfo) → WereInfosOf history place infos ↔ AreInfosOf history infos
  pub columns : (infos : List TableInfo) → AreInfosOf history infos → infos_in_force infos history place ≡ infos
  pub rows : (infos : List TableInfo) → AreInfosOf history infos → rows_in_force infos history place ≡ rows_up_to infos history place

-- A valid history alters no table.
abbrev pub ValidHistoriesKeepTables : Type 0
ValidHistoriesKeepTables = (history : History) (place : ℕ) → IsFitHistory history → HasFirstTables history place

-- At one position, above one key of the table's key types or from the first on, and with one limit, a select has only one correct answer;
-- above another key there is no row.
abbrev pub AnswersAtAPlaceAreOne : Type 0
AnswersAtAPlaceAreOne = (history : History) (place : ℕ) (name : TableName) (above : Option Key) (limit : ℕ) (rows others : List RawRow)
    (infos now : List TableInfo) (table : ℕ) (info : TableInfo)
    → WereInfosOf history place infos → infos_in_force infos history place ≡ now
    → number_of infos name ≡ Some table → slice_get now table ≡ Some info
    → AreRowsAt history place name above limit rows → AreRowsAt history place name above limit others
    → (IfSome above (IsKeyOf info) → map (keyed_row now table info) rows ≡ map (keyed_row now table info) others)
    × ((¬ IfSome above (IsKeyOf info)) → rows ≡ others)

-- Before the first commit a captured table has no rows, so that no answer with a row is correct.
abbrev pub NoRowsBeforeTheFirstCommit : Type 0
NoRowsBeforeTheFirstCommit = (history : History) (from upto : ℕ) (name : TableName) (above : Option Key) (limit : ℕ) (answer : Selected)
    (infos : List TableInfo) (table : ℕ)
    → history.commits ≡ [] → AreInfosOf history infos → number_of infos name ≡ Some table
    → AreAnswered history from upto name above limit answer → answer.rows ≡ []

-- A key without a row at any position between the call and the return has none in a correct answer: neither a row deleted before the call
-- nor one inserted after the return. Stated of captured tables that have the same columns all the while.
abbrev pub RowsOfNoPlaceAreUnanswered : Type 0
RowsOfNoPlaceAreUnanswered = (history : History) (from upto : ℕ) (name : TableName) (above : Option Key) (limit : ℕ) (answer : Selected)
    (infos now : List TableInfo) (table : ℕ) (info : TableInfo) (key : Key)
    → WereInfosOf history from infos → ((place : ℕ) → from ≤ place → place ≤ upto → infos_in_force infos history place ≡ now)
    → number_of infos name ≡ Some table → slice_get now table ≡ Some info
    → AreAnswered history from upto name above limit answer
    → ((place : ℕ) → from ≤ place → place ≤ upto → rows_in_force infos history place table key ≡ None)
    → row_in (map (keyed_row now table info) answer.rows) key ≡ None

-- A key above the bound and within the answer's range has in a correct answer the row, or none, that it has at every position between the
-- call and the return. Stated of captured tables that have the same columns all the while.
abbrev pub StandingRowsAreAnswered : Type 0
StandingRowsAreAnswered = (history : History) (from upto : ℕ) (name : TableName) (above : Option Key) (limit : ℕ) (answer : Selected)
    (infos now : List TableInfo) (table : ℕ) (info : TableInfo) (key : Key) (row : Option (List Val))
    → WereInfosOf history from infos → ((place : ℕ) → from ≤ place → place ≤ upto → infos_in_force infos history place ≡ now)
    → number_of infos name ≡ Some table → slice_get now table ≡ Some info
    → AreAnswered history from upto name above limit answer
    → IfSome above (IsKeyOf info) → IsKeyOf info key → IsAbove above key → (length answer.rows < limit)
    ⊎ IsUpTo (last_key above (map (keyed_row now table info) answer.rows)) key
    → ((place : ℕ) → from ≤ place → place ≤ upto → rows_in_force infos history place table key ≡ row)
    → row_in (map (keyed_row now table info) answer.rows) key ≡ row

-- What a crash may leave of a watermark that wasn't answered: what may be left without it, possibly with the watermark, once. Calls that
-- only read leave no watermark.
pub record MayBeMarked (value : List ℕ) (s : SourceState) (l : CrashState) : Type 0 where
  pub unmarked : MayFollow s l → MayFollowMark value s l
  pub marked : Marks value s.history l.history → l.confirmed ≡ s.confirmed → MayFollowMark value s l
  pub apart : Marks value s.history l.history → MayFollow s l → ⊥

-- A failed write may leave its watermark once or not at all.
abbrev pub FailedMarksMayStand : Type 0
FailedMarksMayStand = (value : List ℕ) (s : SourceState) (l : CrashState) → MayBeMarked value s l
