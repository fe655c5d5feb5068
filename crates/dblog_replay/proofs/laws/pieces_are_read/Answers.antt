use Rattle.dblog_replay.proofs.PieceLemmas.{pieces_one, pieces_exist, pieces_fit}
use Rattle.dblog_replay.proofs.laws.pieces_are_read.Goals as goal

pub returns-clause-one : goal.returns-clause-one
returns-clause-one c = pieces_one

pub returns-clause-some : goal.returns-clause-some
returns-clause-some c = pieces_exist

pub returns-clause-fit : goal.returns-clause-fit
returns-clause-fit c = pieces_fit
