-- The windows that a session has closed, by the commits that it counts.
use Rattle.std.specs.Prelude.{◌≡◌, ◌≢◌, ℕ, ◌<◌, ◌^◌, take, Option, Some, List}
use Rattle.std.specs.List.{AllByRecursion}
use Rattle.dbl_model_table.specs.declared.change.Body.TheVariants.{Mark}
use Rattle.dbl_model_table.specs.declared.change.Commit.{Commit}
use Rattle.dbl_capture_work.specs.ModelHistory.MarkTexts.{mark_text}
use Rattle.dbl_capture_work.specs.ModelHistory.MarkTexts.Side.{High}
use Rattle.dbl_capture_work.specs.ModelCommit.Stated.{commits_of}
use Rattle.dbl_capture_work.specs.SourceModel.Standings.{Reading, SourceState}
use Rattle.dbl_capture_work.specs.Offset.declared.offset.Offset.{Offset}
use Rattle.dbl_capture_work.specs.declared.report.Report.{Report}

-- None of the commits is the high watermark of the window with this number.
abbrev pub HasNoHigh : ℕ → ℕ → List Commit → Type 0
HasNoHigh incarnation number commits = AllByRecursion (λ commit. commit.body ≢ Mark (mark_text incarnation number High)) commits

-- No commit that a report counts is the high watermark of a window beyond those that it reports, so that each window whose high watermark
-- it counts was closed. Numbers of windows are below 2^64.
abbrev pub HasClosedRead : Option Offset → Report → SourceState → Type 0
HasClosedRead stored report t = (offset : Offset) (reading : Reading) → stored ≡ Some offset → t.reading ≡ Some reading
    → (number : ℕ) → report.chunks < number → number < 2 ^ 64
    → HasNoHigh offset.incarnation number (take report.commits (commits_of offset.infos reading.messages))
