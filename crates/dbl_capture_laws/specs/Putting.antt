-- The sink after the next message.
use Rattle.std.specs.Prelude.{Bool, true, false, Option, Some, None, List}
use Rattle.dbl_record.specs.declared.record.Record.{Record}
use Rattle.dbl_topic.specs.Model.{SinkModel}
use Rattle.dbl_capture_work.specs.Source.Model.{SourceModel}
use Rattle.dbl_capture_work.specs.SourceModel.Standings.{SourceState}
use Rattle.dbl_capture_work.specs.SourceModel.Trace.{Trace}
use Rattle.dbl_capture_work.specs.Offset.declared.offset.Offset.{Offset}
use Rattle.dbl_capture_work.specs.declared.report.Report.{Report}
use Rattle.dbl_capture_work.specs.declared.work.SessionState.{SessionState}
use Rattle.dbl_capture_laws.specs.Carried.{Beginning}
use Rattle.dbl_capture_laws.specs.Sinks.{HasPutCommit, IsPutting}

-- The invariant of source and sink after the next message, or none, by whether the offset is due.
abbrev pub PutsOn : {S K : Type 0} → SourceModel S → SinkModel K → List (List Record) → Option SourceState → Option Trace → Beginning
    → Option Offset → SessionState → Report → S → K → Option Bool → Type 0
PutsOn source_model sink_model groups at found b stored work report src sink (Some true) =
    HasPutCommit source_model sink_model groups at found b stored work report src sink
PutsOn source_model sink_model groups at found b stored work report src sink (Some false) =
    IsPutting source_model sink_model groups at found b stored work report src sink
PutsOn source_model sink_model groups at found b stored work report src sink None =
    IsPutting source_model sink_model groups at found b stored work report src sink
