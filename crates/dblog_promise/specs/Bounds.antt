-- How many watermarks a session writes, and how long a disk becomes.
use Rattle.std.specs.Prelude.{◌≡◌, ◌⊎◌, ℕ, ◌+◌, ◌≤◌, max, Option, Some, List, length}
use Rattle.dbl_journal.specs.Form.{IsJournal, up_to_gate}
use Rattle.dbl_model_table.specs.declared.config.Config.{Config}
use Rattle.dbl_model_table.specs.declared.table.TableInfo.{TableInfo}
use Rattle.dbl_capture_laws.specs.CaptureModel.Outcomes.{HasFewMarks}
use Rattle.dbl_capture_laws.specs.CaptureWork.declared.report.Ending.{Ending}
use Rattle.dbl_capture_laws.specs.Sessions.{Captures}
use Rattle.dbl_capture_laws.specs.Written.{AddsExactly, marks_more}
use Rattle.dbl_source.specs.SourceModel.Growth.{marks_in}
use Rattle.dblog_promise.specs.Contents.{Contents, history_at}
use Rattle.dbl_journal.specs.Growth.{growth_room}

-- ---- watermarks

-- No watermark was added, or at most two for each window; and there are at most as many windows as captured tables, plus the rows that ever
-- existed (pairs of a table and a key) divided by the chunk size.
abbrev pub GrowsByFewMarks : Config → Contents → Contents → Type 0
GrowsByFewMarks config old new =
    (marks_in (history_at new).commits ≡ marks_in (history_at old).commits)
    ⊎ ((infos : List TableInfo) × Captures config (history_at old) old.offset infos
    × HasFewMarks infos config.chunk (history_at old) (history_at new))

-- A session that ended normally added exactly two watermarks for each reported window, and two more if its message budget ran out while the
-- stored offset has an unfinished table.
abbrev pub AddsReportedMarks : Ending → ℕ → Contents → Contents → Type 0
AddsReportedMarks ending chunks old new = AddsExactly chunks (marks_more ending new.offset) (history_at old) (history_at new)

-- ---- lengths

-- The disk of a store now has a journal, and is no longer than before, or than 2^30 bytes past the journal's unset commit byte.
pub record StaysShort (before now : List ℕ) : Type 0 where
  pub entries : List (List ℕ)
  pub journal : IsJournal now entries
  pub short : length now ≤ max (length before) (length (up_to_gate entries) + growth_room)

-- The contents of the disk stay known; they are unchanged, or bounded by `StaysShort`.
pub record IsBounded (told_before told_now : Option (List ℕ)) : Type 0 where
  pub each : (before : List ℕ) → told_before ≡ Some before
      → (told_now ≡ Some before) ⊎ ((now : List ℕ) × (told_now ≡ Some now) × StaysShort before now)

-- The contents of the offset's disk stay known, and are no longer than before, or than 2^30 bytes.
pub record IsStoreBounded (told_before told_now : Option (List ℕ)) : Type 0 where
  pub each : (before : List ℕ) → told_before ≡ Some before
      → (now : List ℕ) × (told_now ≡ Some now) × (length now ≤ max (length before) growth_room)
