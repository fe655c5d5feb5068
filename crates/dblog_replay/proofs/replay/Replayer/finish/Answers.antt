use Rattle.std.proofs.Common.{Result, subst}
use Rattle.dblog_replay.specs.declared.log_fault.LogFault.{LogFault}
use Rattle.dblog_replay.specs.Altered.{masking_in}
use Rattle.dblog_replay.specs.Judged.{JudgesLog}
use Rattle.dblog_replay.proofs.FollowLemmas.{append_ended, append_unmasked}
use Rattle.dblog_replay.proofs.replay.Replayer.finish.Goals as goal

pub returns-in-Ok : goal.returns-in-Ok
returns-in-Ok c = λ options infos ms number m has judged.
    append_ended options infos ms number m c.end.new.self c.end.result
    (subst (λ (r : Result Unit LogFault). JudgesLog (masking_in options.mask infos m) r) c.in-Ok.is judged)
    (c.end.ensures options infos ms m has)

pub returns-in-Err : goal.returns-in-Err
returns-in-Err c = λ options infos ms number m has judged.
    append_unmasked options infos ms number m c.in-Err.fault has.taken.clean
    (subst (λ (r : Result Unit LogFault). JudgesLog (masking_in options.mask infos m) r) c.in-Err.is judged)
