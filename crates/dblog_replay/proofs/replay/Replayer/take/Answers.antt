use Rattle.dblog_replay.proofs.FollowLemmas.{prepare_fails, put_takes}
use Rattle.dblog_replay.proofs.replay.Replayer.take.Goals as goal

pub returns-in-Err : goal.returns-in-Err
returns-in-Err c = λ options ms follows.
    prepare_fails options ms c.args.number c.args.message c.in-Err.fault (c.in-Err.ensures options ms c.args.number follows)

pub returns-in-Ok : goal.returns-in-Ok
returns-in-Ok c = λ options ms follows.
    let ready = c.in-Ok.ensures options ms c.args.number follows in
    put_takes options ms c.args.number c.args.message c.prepare.new.self ready c.append.new.self c.append.result c.requires follows.fields
    (c.append.ensures options ready.infos ms ready.replayed)
