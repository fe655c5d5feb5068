use Rattle.std.specs.Int.{w64}
use Rattle.std.proofs.lemmas.Int.{to_z-of_z}
use Rattle.dbl_stream2_pending.specs.Buffers.{remaining_in}
use Rattle.dbl_stream2.proofs.Steps.{appended}
use Rattle.dbl_stream2.proofs.unstream.append_transaction.Goals as goal

pub returns : goal.returns
returns c = appended c.args.flags c.args.xid c.args.lsn c.args.end_lsn _ c.args.time _ _ _ _ (remaining_in c.args.transaction)
    (to_z-of_z w64 c.args.time c.ranges.time) c.in_ok-push.ensures.items c.in_ok-append_remaining.ensures c.in_ok-push-2.ensures.items
