-- The staleness of cells as the records of changes are delivered. Each theorem is about one change or one commit.
use Rattle.std.specs.Prelude.{◌≡◌, ℕ, ℤ, ◌+◌, ◌≤◌, ◌<◌, Some, None, List, [], ◌∷◌, ◌++◌, length, take, flat_map, slice_get, slice_range}
use Rattle.std.specs.List.{AllByRecursion}
use Rattle.dbl_record.specs.declared.record.Record.{Record}
use Rattle.dbl_model_table.specs.declared.identity.Identity.{Identity}
use Rattle.dbl_model_table.specs.declared.table.TableInfo.{TableInfo}
use Rattle.dbl_model_table.specs.declared.change.Change.{Change}
use Rattle.dbl_model_table.specs.declared.change.Commit.{Commit}
use Rattle.dbl_model_table.specs.Rows.{changes_of}
use Rattle.dbl_model_history.specs.Ranges.{IsMomentInRange}
use Rattle.dbl_model_event.specs.Events.{Event, notices, events_of}
use Rattle.dbl_model_event.specs.EventJson.{print, envelopes}
use Rattle.dbl_model_event.specs.Clashes.{notice_clash, first_found, clash_of}
use Rattle.dbl_consume_laws.specs.Commits.{moment_after, IsCommitAmong}
use Rattle.dbl_consume_laws.specs.Moments.{record_moment, span_end}
use Rattle.dbl_consume_laws.specs.Ages.{IsAged}

-- Whether the record is that of an event of the commit, made at any time.
pub record IsRecordOf (identity : Identity) (infos : List TableInfo) (commit : Commit) (item : Record) : Type 0 where
  pub number : ℕ
  pub event : Event
  pub stands : slice_get (events_of infos commit) number ≡ Some event
  pub now : ℤ
  pub in_range : IsMomentInRange now
  pub printed : item ≡ print identity commit now event

-- Whether the record is that of an event of the commit, made at any time, and no cell of the event is the placeholder.
pub record IsClearRecordOf (identity : Identity) (infos : List TableInfo) (commit : Commit) (item : Record) : Type 0 where
  pub is : IsRecordOf identity infos commit item
  pub clear : notice_clash identity.placeholder is.event.notice ≡ None

-- The number of events of the first changes of a commit.
abbrev pub events_through : List TableInfo → Commit → ℕ → ℕ
events_through infos commit number = length (flat_map (notices infos) (take number (changes_of commit)))

-- The records of the change that has this many changes before it in its commit, made at `now`.
abbrev pub records_of_change : Identity → List TableInfo → Commit → ℤ → ℕ → List Record
records_of_change identity infos commit now number =
    slice_range (envelopes identity infos commit now) (events_through infos commit number) (events_through infos commit (number + 1))

-- ---- some records

-- Any records of the change right after a point in the history, in any order and number, leave records aged that reach this point, where
-- they were aged before.
abbrev pub RecordsOfAChangeKeepAge : Type 0
RecordsOfAChangeKeepAge = (identity : Identity) (infos : List TableInfo)
    (commits before : List Commit) (commit : Commit) (later : List Commit)
    (start from moment : ℕ) (records more : List Record)
    → IsCommitAmong infos commits before commit later
    → AllByRecursion (λ item. IsClearRecordOf identity infos commit item × (record_moment infos commits item ≡ moment + 1)) more
    → from ≤ moment → moment ≤ span_end infos commits start records from
    → IsAged identity infos commits start records from → IsAged identity infos commits start (records ++ more) from

-- Any prefix of a commit's records leaves records aged that reach its start, where they were aged before.
abbrev pub PartsOfCommitsKeepAge : Type 0
PartsOfCommitsKeepAge = (identity : Identity) (infos : List TableInfo)
    (commits before : List Commit) (commit : Commit) (later : List Commit)
    (start from : ℕ) (records : List Record) (now : ℤ) (n : ℕ)
    → IsCommitAmong infos commits before commit later → IsMomentInRange now
    → first_found (notice_clash identity.placeholder) (take n (flat_map (notices infos) (changes_of commit))) ≡ None
    → from ≤ moment_after before → moment_after before ≤ span_end infos commits start records from
    → IsAged identity infos commits start records from
    → IsAged identity infos commits start (records ++ take n (envelopes identity infos commit now)) from

-- ---- all records

-- With all records of the change right after a point in the history, records that were aged there are aged at the point after the change.
abbrev pub ChangesMoveAge : Type 0
ChangesMoveAge = (identity : Identity) (infos : List TableInfo)
    (commits before : List Commit) (commit : Commit) (later : List Commit)
    (earlier : List Change) (change : Change) (others : List Change) (start : ℕ) (records : List Record) (now : ℤ)
    → IsCommitAmong infos commits before commit later → IsMomentInRange now
    → first_found (notice_clash identity.placeholder) (notices infos change) ≡ None
    → changes_of commit ≡ earlier ++ change ∷ others
    → IsAged identity infos commits start records (moment_after before + length earlier)
    → IsAged identity infos commits start (records ++ records_of_change identity infos commit now (length earlier))
    (moment_after before + length earlier + 1)

-- With all records of a commit, records that were aged before it are aged at the point after it.
abbrev pub CommitsMoveAge : Type 0
CommitsMoveAge = (identity : Identity) (infos : List TableInfo)
    (commits before : List Commit) (commit : Commit) (later : List Commit)
    (start : ℕ) (records : List Record) (now : ℤ)
    → IsCommitAmong infos commits before commit later → clash_of identity infos commit ≡ None → IsMomentInRange now
    → IsAged identity infos commits start records (moment_after before)
    → IsAged identity infos commits start (records ++ envelopes identity infos commit now) (moment_after (before ++ commit ∷ []))

-- A commit without events, as that of a watermark, leaves records aged after it that were aged before it.
abbrev pub SilentCommitsMoveAge : Type 0
SilentCommitsMoveAge = (identity : Identity) (infos : List TableInfo)
    (commits before : List Commit) (commit : Commit) (later : List Commit)
    (start : ℕ) (records : List Record) (now : ℤ)
    → IsCommitAmong infos commits before commit later → envelopes identity infos commit now ≡ []
    → IsAged identity infos commits start records (moment_after before)
    → IsAged identity infos commits start records (moment_after (before ++ commit ∷ []))

-- ---- other points, other histories

-- Records that are aged at a point in the history which they reach are aged at each earlier one.
abbrev pub AgeGoesBack : Type 0
AgeGoesBack = (identity : Identity) (infos : List TableInfo) (commits : List Commit) (start from to : ℕ) (records : List Record)
    → from ≤ to → to ≤ span_end infos commits start records from
    → IsAged identity infos commits start records to → IsAged identity infos commits start records from

-- An extension of the history leaves records aged if its new commits are after every record.
abbrev pub AgeStaysAsHistoriesGrow : Type 0
AgeStaysAsHistoriesGrow = (identity : Identity) (infos : List TableInfo) (commits more : List Commit) (start from : ℕ)
    (records : List Record)
    → start ≤ moment_after commits → from ≤ moment_after commits
    → AllByRecursion (λ item. AllByRecursion (λ commit. item.position < commit.lsn.0) more) records
    → IsAged identity infos commits start records from → IsAged identity infos (commits ++ more) start records from
