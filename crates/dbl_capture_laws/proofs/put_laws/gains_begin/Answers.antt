use Rattle.dbl_capture_laws.proofs.Puts.{gains_begin}
use Rattle.dbl_capture_laws.proofs.put_laws.gains_begin.Goals as goal

pub returns : goal.returns
returns c = gains_begin
