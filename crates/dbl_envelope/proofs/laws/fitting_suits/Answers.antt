use Rattle.dbl_envelope.proofs.SuitLemmas as lemma
use Rattle.dbl_envelope.proofs.laws.fitting_suits.Goals as goal

pub returns : goal.returns
returns c = lemma.fitting_suits
