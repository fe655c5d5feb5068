use Rattle.dblog_replay.proofs.StreamLemmas.{stream_pieces_one, stream_pieces_exist, stream_pieces_fit}
use Rattle.dblog_replay.proofs.laws.streams_are_read.Goals as goal

pub returns-clause-one : goal.returns-clause-one
returns-clause-one c = stream_pieces_one

pub returns-clause-some : goal.returns-clause-some
returns-clause-some c = stream_pieces_exist

pub returns-clause-fit : goal.returns-clause-fit
returns-clause-fit c = stream_pieces_fit
