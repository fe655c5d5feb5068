use Rattle.std.proofs.Common.{List, ◌≤◌}
use Rattle.std.specs.List.{AllByRecursion}
use Rattle.dbl_pgmsg.specs.declared.messages.Message.{Message}
use Rattle.dbl_pgmsg.specs.Grammar.{FitsFields}
use Rattle.dblog_replay.specs.declared.options.LogOptions.{LogOptions}
use Rattle.dblog_replay.specs.Following.{FollowsMasked, IsReplaying}
use Rattle.dblog_replay.proofs.StreamingLemmas.{IsAdding}
use Rattle.dblog_replay.proofs.streaming.put_added.Given as goal

abbrev pub invariant-messages : goal.invariant-messages
invariant-messages g l =
    ((options : LogOptions) (ms : List Message) → FollowsMasked options ms l.fn.replayer
    → IsAdding options l.now_ms ms l.number l.fn.messages.items l.message-iterator.rest.items l.fn.lines l.lines (g.O.Output.written l.fn.output)
    (g.O.Output.written l.output) l.replayer)
    × IsReplaying l.replayer
    × AllByRecursion FitsFields l.message-iterator.rest.items
    × (g.O.Output.faults l.fn.output ≤ g.O.Output.faults l.output)
