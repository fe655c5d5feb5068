use Rattle.std.proofs.Common.{◌≡◌, ◌+◌, ◌≤◌, List, [], length}
use Rattle.dblog_replay.specs.declared.options.LogOptions.{LogOptions}
use Rattle.dblog_replay.specs.Following.{FollowsMasked, IsReplaying}
use Rattle.dblog_replay.specs.Pieces.{Piece}
use Rattle.dblog_replay.specs.Streams.{AreReceived}
use Rattle.dblog_replay.specs.Streaming.{IsStreaming}
use Rattle.dblog_replay.proofs.StreamingLemmas.{IsStreamPut}
use Rattle.dblog_replay.proofs.streaming.put_streamed.Given as goal

abbrev pub invariant-strings : goal.invariant-strings
invariant-strings g l =
    ((options : LogOptions) (pieces : List Piece) → FollowsMasked options [] l.fn.replayer → AreReceived 1 [] l.fn.strings.items pieces
    → IsStreamPut options l.now_ms pieces l.bytes-iterator.rest.items l.fn.lines l.lines (g.O.Output.written l.fn.output)
    (g.O.Output.written l.output) l.number l.unstream l.replayer)
    × IsStreaming l.unstream
    × IsReplaying l.replayer
    × (l.number + length l.bytes-iterator.rest.items ≡ length l.fn.strings.items)
    × (g.O.Output.faults l.fn.output ≤ g.O.Output.faults l.output)
