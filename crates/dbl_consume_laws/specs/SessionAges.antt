-- What a session preserves of its records while it reads and delivers: they are aged at each point from that of its stored offset to the
-- one that it has delivered.
use Rattle.std.specs.Prelude.{◌≡◌, ℕ, ℤ, ◌+◌, ◌≤◌, Option, None, List, [], ◌++◌, take, flat_map}
use Rattle.std.specs.List.{AllByRecursion}
use Rattle.dbl_record.specs.declared.record.Record.{Record}
use Rattle.dbl_model_table.specs.declared.identity.Identity.{Identity}
use Rattle.dbl_model_table.specs.declared.row.Key.{Key}
use Rattle.dbl_model_table.specs.declared.table.TableInfo.{TableInfo}
use Rattle.dbl_model_table.specs.declared.change.Commit.{Commit}
use Rattle.dbl_model_event.specs.declared.closed.Closed.{Closed}
use Rattle.dbl_model_table.specs.Rows.{changes_of, all_changes}
use Rattle.dbl_model_history.specs.Ranges.{IsMomentInRange}
use Rattle.dbl_model_event.specs.Clashes.{notice_clash, first_found, snapshot_clash}
use Rattle.dbl_model_event.specs.Events.{notices}
use Rattle.dbl_model_event.specs.EventJson.{envelopes}
use Rattle.dbl_model_event.specs.SnapshotLists.{IsSnapshot}
use Rattle.dbl_consume_laws.specs.Commits.{moment_after, IsCommitAmong}
use Rattle.dbl_consume_laws.specs.Moments.{record_moment}
use Rattle.dbl_consume_laws.specs.KnownKeys.{AreToldUpTo}
use Rattle.dbl_consume_laws.specs.Ages.{IsAged}
use Rattle.dbl_consume_laws.specs.Windows.{IsRightWindow}
use Rattle.dbl_consume_laws.specs.ChangeLaws.{IsClearRecordOf}

-- Whether records are aged at each point of the history between two.
abbrev pub IsAgedBetween : Identity → List TableInfo → List Commit → ℕ → List Record → ℕ → ℕ → Type 0
IsAgedBetween identity infos commits start records from to =
    (moment : ℕ) → from ≤ moment → moment ≤ to → IsAged identity infos commits start records moment

-- With any records of the change right after the last of these points, records aged at all of them stay so.
abbrev pub RecordsOfAChangeKeepAges : Type 0
RecordsOfAChangeKeepAges = (identity : Identity) (infos : List TableInfo)
    (commits before : List Commit) (commit : Commit) (later : List Commit)
    (start from to : ℕ) (records more : List Record)
    → IsCommitAmong infos commits before commit later
    → AllByRecursion (λ item. IsClearRecordOf identity infos commit item × (record_moment infos commits item ≡ to + 1)) more
    → IsAgedBetween identity infos commits start records from to
    → IsAgedBetween identity infos commits start (records ++ more) from to

-- With any prefix of a commit's records, records aged at all of these points stay so.
abbrev pub PartsOfCommitsKeepAges : Type 0
PartsOfCommitsKeepAges = (identity : Identity) (infos : List TableInfo)
    (commits before : List Commit) (commit : Commit) (later : List Commit)
    (start from : ℕ) (records : List Record) (now : ℤ) (n : ℕ)
    → IsCommitAmong infos commits before commit later → IsMomentInRange now
    → first_found (notice_clash identity.placeholder) (take n (flat_map (notices infos) (changes_of commit))) ≡ None
    → IsAgedBetween identity infos commits start records from (moment_after before)
    → IsAgedBetween identity infos commits start (records ++ take n (envelopes identity infos commit now)) from (moment_after before)

-- With any prefix of the records of a window that is right at its high watermark, the last of these points, records aged at all of them
-- stay so.
abbrev pub PartsOfSnapshotsKeepAges : Type 0
PartsOfSnapshotsKeepAges = (identity : Identity) (infos : List TableInfo)
    (commits before : List Commit) (mark : Commit) (later : List Commit)
    (start from low : ℕ) (above : Option Key) (closed : Closed) (records snapshot : List Record) (now : ℤ) (n : ℕ)
    → IsCommitAmong infos commits before mark later → changes_of mark ≡ [] → IsMomentInRange now
    → IsSnapshot identity infos closed mark now snapshot → snapshot_clash identity infos closed ≡ None
    → IsRightWindow infos (all_changes commits) low (moment_after before) above closed
    → start ≤ low → AreToldUpTo identity infos records closed.table above
    → IsAgedBetween identity infos commits start records from (moment_after before)
    → IsAgedBetween identity infos commits start (records ++ take n snapshot) from (moment_after before)
