use Rattle.dblog_replay.specs.Log.{log_start}
use Rattle.dblog_replay.proofs.replay.Replayer.read.Goals as goal

pub returns-in-Ok : goal.returns-in-Ok
returns-in-Ok c = λ options infos ms replayed.
    record {
      taken = c.in-Ok.ensures infos log_start ms replayed.stands;
      identity = replayed.identity;
      keys = replayed.keys;
      mask = replayed.mask;
      writes = replayed.writes;
    }
