use Rattle.dblog_replay.specs.Streaming.{stepped}
use Rattle.dblog_replay.proofs.StreamingLemmas.{receive_stopped}
use Rattle.dblog_replay.proofs.streaming.put_received.Goals as goal

pub returns-in-Ok-clause-steps : goal.returns-in-Ok-clause-steps
returns-in-Ok-clause-steps g c = λ options past ms receiving follows.
    stepped c.in-Ok.messages.items (c.in-Ok.ensures.added past receiving) (c.put_added.ensures.puts options ms follows)

pub returns-in-Err-clause-steps : goal.returns-in-Err-clause-steps
returns-in-Err-clause-steps g c = λ options past ms receiving follows.
    receive_stopped options c.args.now_ms.now past ms c.args.number c.args.bytes _ _ c.args.replayer.now c.in-Err.fault c.stop_at.result _
    (c.in-Err.ensures.refused past receiving) c.stop_at.ensures.fault c.stop_at.ensures.other c.stop_at.ensures.err
