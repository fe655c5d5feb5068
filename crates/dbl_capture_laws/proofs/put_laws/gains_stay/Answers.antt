use Rattle.dbl_capture_laws.proofs.Puts.{gains_stay}
use Rattle.dbl_capture_laws.proofs.put_laws.gains_stay.Goals as goal

pub returns : goal.returns
returns c = gains_stay
