use Rattle.std.proofs.Common.{◌∷◌, refl}
use Rattle.dbl_model_commit.specs.Stated.{open_changes}
use Rattle.dbl_model_commit.specs.Shaped.{shapes_after}
use Rattle.dblog_replay.specs.declared.replay.Replayer.{Replayer}
use Rattle.dblog_replay.specs.Log.{log_start}
use Rattle.dblog_replay.proofs.FollowLemmas.{ended_nothing, ended_with_commit, ended_shaped}
use Rattle.dblog_replay.proofs.replay.Replayer.end.Goals as goal

pub returns-in-Nothing : goal.returns-in-Nothing
returns-in-Nothing c = λ options infos ms m has. ended_nothing options infos ms m c.args.self.now c.args.read c.in-Nothing.is has

pub returns-in-Ended : goal.returns-in-Ended
returns-in-Ended c = λ options infos ms m has. ended_with_commit options infos ms m c.args.self.now c.args.read c.in-Ended.commit c.in-Ended.is has

pub returns-in_ok-reshape_from-in-Shaped : goal.returns-in_ok-reshape_from-in-Shaped
returns-in_ok-reshape_from-in-Shaped c = λ options infos ms m has. (
    let now : Replayer = record c.args.self.now { writer = c.reshape_from.new.writer } in
    let after = shapes_after m infos in
    ended_shaped options infos ms m c.args.self.now now c.args.read c.in-Shaped.table c.infos.result.now.items c.in-Shaped.is has
    (c.infos.ensures after log_start (m ∷ ms) (open_changes after (m ∷ ms)) has.taken.stands) has.taken.stands refl refl
    c.in_ok-reshape_from-in-Shaped.ensures.reshaped)
