use Rattle.dbl_capture_laws.proofs.Awaited.{stood_offsets_are_within}
use Rattle.dbl_capture_laws.proofs.awaited_laws.stood_offsets_are_within.Goals as goal

pub returns : goal.returns
returns c = stood_offsets_are_within
