-- The error that a source's last answer requires is returned at every end of a session.
use Rattle.std.specs.Prelude.{◌≡◌, ◌⊎◌, ℕ, ℤ, ◌≤◌, ◌∷◌, Option, Some, None, Result, Err, List, length}
use Rattle.dbl_base.specs.declared.lsn.Lsn.{Lsn}
use Rattle.dbl_pgmsg.specs.declared.messages.Message.{Message}
use Rattle.dbl_model_table.specs.declared.config.Config.{Config}
use Rattle.dbl_capture_work.specs.SourceModel.declared.selected.Selected.{Selected}
use Rattle.dbl_capture_work.specs.SourceModel.declared.started.Started.TheVariants.{Gone}
use Rattle.dbl_capture_work.specs.SourceModel.Trace.{Trace, Began, Head, Read, RowsSelected, LastAnswerIs}
use Rattle.dbl_capture_work.specs.Offset.declared.offset.Offset.{Offset}
use Rattle.dbl_capture_work.specs.Follow.declared.window.Window.TheVariants.{Absent}
use Rattle.dbl_capture_work.specs.declared.halt.Halt.{Halt}
use Rattle.dbl_capture_work.specs.declared.halt.Halt.TheVariants as halt
use Rattle.dbl_capture_work.specs.declared.report.Ending.{Ending}
use Rattle.dbl_capture_work.specs.declared.report.Report.{Report}
use Rattle.dbl_capture_work.specs.declared.work.SessionState.{SessionState}
use Rattle.dbl_capture_work.specs.Begins.{IsTooLong}
use Rattle.dbl_capture_work.specs.Causes.{IsChunkHalt}
use Rattle.dbl_capture_work.specs.Works.{IsOpenTable}
use Rattle.dbl_capture_laws.specs.Reported.{AreSpelled}
use Rattle.dbl_capture_laws.specs.Musts.{MustHalt}
use Rattle.dbl_capture_laws.specs.Underway.{IsBetweenMessages, IsOfFirst, IsOpenHalt}
use Rattle.dbl_capture_laws.specs.Carried.{IsNewestCause}

-- After the first store, the source's trace requires no error if all bytes encode messages and the last answer is neither rows nor a log
-- that is gone.
abbrev pub QuietAnswersAskNothing : Type 0
QuietAnswersAskNothing = (config : Config) (held : Option Offset) (stored : Offset) (report : Report) (t : Trace) (ms : List Message)
    (result : Result Ending Halt)
    → AreSpelled t.read ms → ((answer : Selected) → t.answer ≡ RowsSelected answer → ⊥)
    → ((first : Lsn) → t.answer ≡ Began (Gone first) → ⊥)
    → MustHalt config held (Some stored) report t result

-- After the first store, out of memory and a failed source meet every requirement of a trace whose bytes all encode messages.
abbrev pub FailuresExcuse : Type 0
FailuresExcuse = (config : Config) (held : Option Offset) (stored : Offset) (report : Report) (t : Trace) (ms : List Message) (h : Halt)
    → AreSpelled t.read ms → (h ≡ halt.Memory) ⊎ (h ≡ halt.Source) → MustHalt config held (Some stored) report t (Err h)

-- A stop at the rows of the next window returns the error that they require.
abbrev pub RowsAsk : Type 0
RowsAsk = (config : Config) (now : ℤ) (held : Option Offset) (first stored : Offset) (work : SessionState) (report : Report)
    (table : ℕ) (t : Trace) (ms : List Message) (h : Halt)
    → IsOfFirst config now held first stored work → IsBetweenMessages work stored report.chunks → work.follower.window ≡ Absent
    → IsOpenTable work table → AreSpelled t.read ms → IsChunkHalt work table (Some t) h
    → MustHalt config held (Some stored) report t (Err h)

-- A stop at the newest bytes returns the error that they require.
abbrev pub NewestBytesAsk : Type 0
NewestBytesAsk = (config : Config) (held : Option Offset) (stored : Offset) (report : Report) (t : Trace) (after : Lsn)
    (earlier : List (List ℕ)) (ms : List Message) (bytes : List ℕ) (work : SessionState) (h : Halt)
    → t.answer ≡ Read (Some bytes) → t.read ≡ bytes ∷ earlier → IsNewestCause report.messages after ms bytes work h
    → MustHalt config held (Some stored) report t (Err h)

-- A stop before a message is read returns the error that a description, or a log that is gone, requires. If a new connector's first offset
-- is too long or not stored, the source's last answer was the head of the log.
abbrev pub UnreadAnswersAsk : Type 0
UnreadAnswersAsk = (config : Config) (held stored : Option Offset) (report : Report) (t : Trace) (h : Halt)
    → IsOpenHalt config held stored (Some t) h → 1 ≤ length config.tables → report.messages ≡ 0
    → (held ≡ None → (h ≡ halt.Offsets) ⊎ ((offset : Offset) × IsTooLong offset h) → (lsn : Lsn) × LastAnswerIs (Some t) (Head lsn))
    → MustHalt config held stored report t (Err h)
