use Rattle.dbl_model_commit.specs.Stated.{open_changes}
use Rattle.dblog_replay.specs.Log.{log_start}
use Rattle.dblog_replay.proofs.replay.Replayer.inside.Goals as goal

pub returns : goal.returns
returns c = λ options ms follows.
    c.inside.ensures follows.infos log_start ms (open_changes follows.infos ms) follows.replayed.stands
