use Rattle.dbl_value.proofs.ClockForms.{stamp_texts_are_moments}
use Rattle.dbl_value.proofs.laws.stamp_texts_are_moments.Goals as goal

pub returns : goal.returns
returns c = stamp_texts_are_moments
