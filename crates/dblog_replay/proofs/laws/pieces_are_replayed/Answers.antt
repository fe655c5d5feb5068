use Rattle.dblog_replay.proofs.CommitLaws.{replayed_once, replays_exist}
use Rattle.dblog_replay.proofs.laws.pieces_are_replayed.Goals as goal

pub returns-clause-one : goal.returns-clause-one
returns-clause-one c = replayed_once

pub returns-clause-some : goal.returns-clause-some
returns-clause-some c = replays_exist
