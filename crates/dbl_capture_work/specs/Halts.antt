-- The session's error for each error of its parts. Every out of memory becomes the one error `Memory`.
use Rattle.dbl_model_table.specs.declared.error.ModelError.{ModelError}
use Rattle.dbl_model_table.specs.declared.error.ModelError.TheVariants as model
use Rattle.dbl_model_table.specs.declared.table.TableName.{TableName}
use Rattle.dbl_envelope.specs.declared.error.EnvelopeError.TheVariants as writer
use Rattle.dbl_follow.specs.declared.error.FollowError.{FollowError}
use Rattle.dbl_follow.specs.declared.error.FollowError.TheVariants as follow
use Rattle.dbl_source.specs.SourceLog.declared.error.SourceError.{SourceError}
use Rattle.dbl_source.specs.SourceLog.declared.error.SourceError.TheVariants as source
use Rattle.dbl_topic.specs.declared.error.SinkError.{SinkError}
use Rattle.dbl_topic.specs.declared.error.SinkError.TheVariants as sink
use Rattle.dbl_offset.specs.declared.error.OffsetError.{OffsetError}
use Rattle.dbl_offset.specs.declared.error.OffsetError.TheVariants as offset
use Rattle.dbl_window.specs.declared.error.WindowError.{WindowError}
use Rattle.dbl_window.specs.declared.error.WindowError.TheVariants as window
use Rattle.dbl_capture_work.specs.declared.halt.Halt.{Halt}
use Rattle.dbl_capture_work.specs.declared.halt.Halt.TheVariants as halt

-- The session's error for an error of the source.
abbrev pub source_halt : SourceError → Halt
source_halt source.Failed = halt.Source
source_halt source.Memory = halt.Memory

-- The session's error for an error of the sink.
abbrev pub sink_halt : SinkError → Halt
sink_halt sink.Failed = halt.Sink
sink_halt (sink.TooLong len) = halt.RecordTooLong len
sink_halt sink.Memory = halt.Memory

-- The session's error for an error of the offset store.
abbrev pub offset_halt : OffsetError → Halt
offset_halt offset.Failed = halt.Offsets
offset_halt (offset.NotAStore at) = halt.Offsets
offset_halt (offset.BadOffset index) = halt.Offsets
offset_halt (offset.TooLong len) = halt.OffsetTooLong len
offset_halt offset.Memory = halt.Memory

-- The session's error for an error of the follower.
abbrev pub follow_halt : FollowError → Halt
follow_halt (follow.Envelope (writer.PlaceholderClash table column)) = halt.Clash table column
follow_halt (follow.Envelope writer.Memory) = halt.Memory
follow_halt follow.Memory = halt.Memory

-- The session's error for a table that can't be captured.
abbrev pub model_halt : ModelError → Halt
model_halt (model.BadName name) = halt.Model (model.BadName name)
model_halt (model.DuplicateColumn table column) = halt.Model (model.DuplicateColumn table column)
model_halt (model.FloatColumn table column) = halt.Model (model.FloatColumn table column)
model_halt (model.NoKey table) = halt.Model (model.NoKey table)
model_halt (model.KeyType table column) = halt.Model (model.KeyType table column)
model_halt model.Memory = halt.Memory

-- The session's error for an error of a window of this table.
abbrev pub window_halt : TableName → WindowError → Halt
window_halt table (window.Moved version) = halt.Altered table
window_halt table (window.BadChunk row) = halt.Chunk table row
window_halt table (window.Cell column error) = halt.Cell table column error
window_halt table window.Failed = halt.Source
window_halt table window.Memory = halt.Memory
