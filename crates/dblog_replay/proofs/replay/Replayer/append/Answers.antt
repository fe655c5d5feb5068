use Rattle.dblog_replay.proofs.FollowLemmas.{append_unread}
use Rattle.dblog_replay.proofs.replay.Replayer.append.Goals as goal

pub returns-in-Ok : goal.returns-in-Ok
returns-in-Ok c = λ options infos ms replayed.
    c.finish.ensures options infos ms c.args.number c.args.message
    (c.in-Ok.ensures options infos ms replayed)
    (c.check-checked.ensures options infos ms replayed)

pub returns-in-Err : goal.returns-in-Err
returns-in-Err c = λ options infos ms replayed.
    append_unread options infos ms c.args.number c.args.message c.in-Err.fault
    (c.in-Err.ensures options infos ms replayed)
