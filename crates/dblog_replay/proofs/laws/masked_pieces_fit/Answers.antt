use Rattle.dblog_replay.proofs.MaskedLemmas as lemmas
use Rattle.dblog_replay.proofs.laws.masked_pieces_fit.Goals as goal

pub returns : goal.returns
returns c = lemmas.masked_pieces_fit
