use Rattle.dbl_frames.proofs.StreamLemmas.{faulty_stays}
use Rattle.dbl_frames.proofs.laws.faults_stay.Goals as goal

pub returns : goal.returns
returns c = faulty_stays
