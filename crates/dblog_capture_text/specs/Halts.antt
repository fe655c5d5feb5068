-- The status and the line of each halt of a session.
use Rattle.std.specs.Prelude.{ℕ, List, ◌++◌, codes, decimal}
use Rattle.dbl_lines.specs.declared.status.Status.{Status}
use Rattle.dbl_lines.specs.declared.status.Status.TheVariants.{MalformedLog, Unsupported, SourceFailed, TopicsFailed}
use Rattle.dbl_lines.specs.declared.status.Status.TheVariants.{OffsetsFailed, OutOfMemory, InvalidStore, LogGone}
use Rattle.dbl_model_commit.specs.declared.txn_error.TxnError.TheVariants as txn
use Rattle.dbl_model_table.specs.Tables.{full_name}
use Rattle.dblog_replay.specs.declared.log_fault.LogFault.TheVariants as log
use Rattle.dblog_replay.specs.LogFaults.{log_line, log_status}
use Rattle.dbl_capture_work.specs.declared.halt.Halt.{Halt}
use Rattle.dbl_capture_work.specs.declared.halt.Halt.TheVariants.{Message, Txn, Altered, Chunk, Cell, Clash, RecordTooLong}
use Rattle.dbl_capture_work.specs.declared.halt.Halt.TheVariants.{OffsetTooLong, Model, UnknownTable, Gone, WatermarkMissing}
use Rattle.dbl_capture_work.specs.declared.halt.Halt.TheVariants.{Exhausted, Source, Sink, Offsets, Memory}
use Rattle.dblog_capture_text.specs.Reports.{count_line}

-- The exit status of a halt.
abbrev pub halt_status : Halt → Status
halt_status (Message number error) = log_status (log.Message number error)
halt_status (Txn number error) = log_status (log.Transaction number error)
halt_status (Altered table) = Unsupported
halt_status (Chunk table row) = MalformedLog
halt_status (Cell table column error) = Unsupported
halt_status (Clash table column) = Unsupported
halt_status (RecordTooLong len) = Unsupported
halt_status (OffsetTooLong len) = Unsupported
halt_status (Model error) = Unsupported
halt_status (UnknownTable table) = Unsupported
halt_status (Gone asked first) = LogGone
halt_status (WatermarkMissing value at) = LogGone
halt_status (Exhausted incarnation) = InvalidStore
halt_status Source = SourceFailed
halt_status Sink = TopicsFailed
halt_status Offsets = OffsetsFailed
halt_status Memory = OutOfMemory

-- The line of a halt, without its newline.
abbrev pub halt_line : Halt → List ℕ
halt_line (Message number error) = log_line (log.Message number error)
halt_line (Txn number error) = log_line (log.Transaction number error)
halt_line (Altered table) = codes "dblog: schema changed " ++ full_name table
halt_line (Chunk table row) = codes "dblog: bad chunk row " ++ (decimal row ++ (codes " of " ++ full_name table))
halt_line (Cell table column error) = log_line (log.Transaction 0 (txn.Value table column error))
halt_line (Clash table column) = log_line (log.Placeholder table column)
halt_line (RecordTooLong len) = count_line (codes "dblog: record too long") len
halt_line (OffsetTooLong len) = count_line (codes "dblog: offset too long") len
halt_line (Model error) = log_line (log.Table error)
halt_line (UnknownTable table) = codes "dblog: unknown table " ++ full_name table
halt_line (Gone asked first) = count_line (codes "dblog: log gone before") first.0
halt_line (WatermarkMissing value at) = codes "dblog: watermark missing " ++ value
halt_line (Exhausted incarnation) = codes "dblog: incarnations exhausted"
halt_line Source = codes "dblog: source failed"
halt_line Sink = codes "dblog: topics failed"
halt_line Offsets = codes "dblog: offsets failed"
halt_line Memory = codes "dblog: out of memory"
