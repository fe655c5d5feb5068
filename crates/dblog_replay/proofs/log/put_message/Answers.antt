use Rattle.dblog_replay.proofs.FollowLemmas.{steps, steps_stopped}
use Rattle.dblog_replay.proofs.SuitLemmas.{next_suits}
use Rattle.dblog_replay.specs.Masked.{masked_with, all_masked}
use Rattle.dblog_replay.specs.Pieces.{Carries}
use Rattle.dblog_replay.proofs.log.put_message.Goals as goal

pub put_ended-requires : goal.put_ended-requires
put_ended-requires g c =
    let f = c.requires.replaying in
    next_suits f.options (all_masked f.options.mask f.ms) (masked_with f.options.mask f.ms c.args.message) c.take.new.self.replayer c.in-Ok.ended
    (c.in-Ok.ensures f.options f.ms f.follows).next

pub returns-in-Ok-clause-steps : goal.returns-in-Ok-clause-steps
returns-in-Ok-clause-steps g c =
    λ options ms follows. steps options c.args.now_ms.now ms c.args.number c.args.message _ _ c.take.new.self c.in-Ok.ended _ _ _
    (c.in-Ok.ensures options ms follows) c.put_ended.ensures.puts

pub returns-in-Err-clause-steps : goal.returns-in-Err-clause-steps
returns-in-Err-clause-steps g c = λ options ms follows.
    steps_stopped options c.args.now_ms.now ms (Carries c.args.number c.args.message) _ c.take.new.self c.in-Err.fault c.stop_at.result _
    (c.in-Err.ensures options ms follows) c.stop_at.ensures.fault c.stop_at.ensures.other c.stop_at.ensures.err
