use Rattle.std.proofs.Common.{◌≡◌, ◌+◌, ◌≤◌, List, [], length}
use Rattle.dblog_replay.specs.declared.options.LogOptions.{LogOptions}
use Rattle.dblog_replay.specs.Following.{FollowsMasked, IsReplaying}
use Rattle.dblog_replay.specs.Pieces.{Piece, AreRead}
use Rattle.dblog_replay.proofs.FollowLemmas.{IsLogging}
use Rattle.dblog_replay.proofs.log.put_messages.Given as goal

abbrev pub invariant-messages : goal.invariant-messages
invariant-messages g l =
    ((options : LogOptions) (pieces : List Piece) → FollowsMasked options [] l.fn.replayer → AreRead 1 l.fn.messages.items pieces
    → IsLogging options l.now_ms pieces l.bytes-iterator.rest.items l.fn.lines l.lines (g.O.Output.written l.fn.output)
    (g.O.Output.written l.output) l.number l.replayer)
    × IsReplaying l.replayer
    × (l.number + length l.bytes-iterator.rest.items ≡ length l.fn.messages.items)
    × (g.O.Output.faults l.fn.output ≤ g.O.Output.faults l.output)
