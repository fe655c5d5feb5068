-- What a session may leave: its guarantees for one choice of what source, sink and store leave. After Andreakis and Papapanagiotou, "DBLog:
-- A Watermark Based Change-Data-Capture Framework" (2020).
use Rattle.std.specs.Prelude.{◌≡◌, ℕ, ◌+◌, ◌*◌, ◌/◌, ◌≤◌, max, true, Contains, Option, Some, None, List, ◌++◌, length}
use Rattle.std.specs.List.{AllByRecursion}
use Rattle.dbl_value_types.specs.declared.value.Val.{Val}
use Rattle.dbl_record.specs.declared.record.Record.{Record}
use Rattle.dbl_record.specs.Cuts.{cut, joined}
use Rattle.dbl_model_table.specs.declared.row.Key.{Key}
use Rattle.dbl_model_table.specs.declared.table.TableInfo.{TableInfo}
use Rattle.dbl_faithful.specs.ModelHistory.History.{History}
use Rattle.dbl_follow.specs.SourceModel.Growth.{marks_in}
use Rattle.dbl_follow.specs.SourceModel.Selected.{rows_up_to}
use Rattle.dbl_follow.specs.SourceModel.Standings.{CrashState}
use Rattle.dbl_faithful.specs.Offset.declared.offset.Offset.{Offset}
use Rattle.dbl_consume_courses.specs.Versions.{version_rows, versions_to}
use Rattle.dbl_consume_courses.specs.Courses.{infos_after}
use Rattle.dbl_faithful.specs.Stores.{lag}
use Rattle.dbl_faithful.specs.Faithful.{captured_commits, first_infos, IsFaithful}
use Rattle.dbl_faithful.specs.Onward.{GoesOnward, Adds}
use Rattle.dbl_faithful.specs.Complete.{HoldsImage}
use Rattle.dbl_capture_model.specs.Entries.{SessionStart, stores_at, stores_left, appends_after}

-- ---- faithful at every exit

-- What is left is faithful and extends what the session found: nothing is taken back, the confirmed LSN doesn't fall, the appended records
-- are above where it began, with rising places, in batches, and a restart redelivers no more commits than before, or than `every`.
pub record FollowsSession (entry : SessionStart) (left : CrashState) (groups : List (List Record)) (offset : Option Offset) : Type 0 where
  pub faithful : IsFaithful left.history left.confirmed (joined groups) offset
  pub onward : GoesOnward entry.config (stores_at entry) (stores_left left groups offset)
  pub no_fall : entry.confirmed.0 ≤ left.confirmed.0
  pub adds : Adds (appends_after entry.offset offset) (joined entry.groups) (joined groups)
  pub grouped : groups ≡ entry.groups ++ cut adds.more
  pub lag_is : lag left.history (joined groups) offset
      ≤ max entry.config.every (lag entry.history (joined entry.groups) entry.offset)

-- ---- bounded windows

-- The list has each pair of a captured table and a key that had a row at some point in the history.
abbrev pub CoverRows : List TableInfo → History → List (ℕ × Key) → Type 0
CoverRows infos history pairs =
    (place table : ℕ) (key : Key) (row : List Val) → place ≤ length history.commits
    → rows_up_to infos history place table key ≡ Some row → Contains pairs (table, key)

-- At most two watermarks were added for each window, and there are at most as many windows as captured tables, plus the rows that ever
-- existed divided by the chunk size.
pub record HasFewMarks (infos : List TableInfo) (chunk : ℕ) (old new : History) : Type 0 where
  pub windows : ℕ
  pub marks : length (marks_in new.commits) ≤ length (marks_in old.commits) + 2 * windows
  pub few : (pairs : List (ℕ × Key)) → CoverRows infos new pairs → windows ≤ length infos + length pairs / chunk

-- The session added few watermarks, and none if no offset is left.
abbrev pub AddsFewMarks : SessionStart → CrashState → Option Offset → Type 0
AddsFewMarks entry left None = marks_in left.history.commits ≡ marks_in entry.history.commits
AddsFewMarks entry left (Some offset) = HasFewMarks offset.infos entry.config.chunk entry.history left.history

-- ---- complete

-- Each captured table was read to its end; the offset is at or above every commit that existed when the session began, and is confirmed;
-- and a consumer of the records has the source's tables at the offset's LSN, in the columns in force there.
pub record IsComplete (entry : SessionStart) (left : CrashState) (groups : List (List Record)) (offset : Offset) : Type 0 where
  pub done : AllByRecursion (λ cursor. cursor.done ≡ true) offset.cursors
  pub not_before : AllByRecursion (λ commit. commit.lsn.0 ≤ offset.lsn.0) entry.history.commits
  pub confirmed : offset.lsn.0 ≤ left.confirmed.0
  pub images : (topic text : List ℕ) → HoldsImage offset.identity
      (infos_after (first_infos left.history offset) (versions_to offset.lsn.0 (captured_commits left.history offset)))
      (version_rows (versions_to offset.lsn.0 (captured_commits left.history offset))) (joined groups) topic text
