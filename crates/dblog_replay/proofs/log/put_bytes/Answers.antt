use Rattle.dblog_replay.proofs.FollowLemmas.{read_steps, read_stopped}
use Rattle.dblog_replay.proofs.log.put_bytes.Goals as goal

pub put_message-requires-clause-fits : goal.put_message-requires-clause-fits
put_message-requires-clause-fits g c = c.in-Ok.ensures.fits.fields

pub returns-in-Ok-clause-steps : goal.returns-in-Ok-clause-steps
returns-in-Ok-clause-steps g c = λ options ms follows.
    read_steps options c.args.now_ms.now ms c.args.number c.args.bytes c.in-Ok.message _ _ c.put_message.new.replayer c.put_message.result _ _ c.in-Ok.ensures
    (c.put_message.ensures.steps options ms follows)

pub returns-in-Err-clause-steps : goal.returns-in-Err-clause-steps
returns-in-Err-clause-steps g c = λ options ms follows.
    read_stopped options c.args.now_ms.now ms c.args.number c.args.bytes _ c.args.replayer.now c.in-Err.fault c.stop_at.result _ c.in-Err.ensures
    c.stop_at.ensures.fault c.stop_at.ensures.other c.stop_at.ensures.err
