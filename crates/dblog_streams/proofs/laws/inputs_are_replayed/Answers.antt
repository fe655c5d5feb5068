use Rattle.dblog_streams.proofs.ReplayLaws.{replays_one}
use Rattle.dblog_streams.proofs.InputLemmas.{replay_exists}
use Rattle.dblog_streams.proofs.laws.inputs_are_replayed.Goals as goal

pub returns-clause-one : goal.returns-clause-one
returns-clause-one c = replays_one

pub returns-clause-some : goal.returns-clause-some
returns-clause-some c = replay_exists
