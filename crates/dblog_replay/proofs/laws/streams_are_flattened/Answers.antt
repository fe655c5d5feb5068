use Rattle.dblog_replay.proofs.StreamLemmas.{streams_flattened}
use Rattle.dblog_replay.proofs.laws.streams_are_flattened.Goals as goal

pub returns : goal.returns
returns c = streams_flattened
