use Rattle.dbl_frames.proofs.StreamLemmas.{one_reading, some_reading}
use Rattle.dbl_frames.proofs.laws.frames_are_one.Goals as goal

pub returns-clause-some : goal.returns-clause-some
returns-clause-some c = some_reading

pub returns-clause-one : goal.returns-clause-one
returns-clause-one c = one_reading
