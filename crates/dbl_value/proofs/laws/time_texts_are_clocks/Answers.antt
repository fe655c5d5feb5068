use Rattle.dbl_value.proofs.ClockForms.{time_texts_are_clocks}
use Rattle.dbl_value.proofs.laws.time_texts_are_clocks.Goals as goal

pub returns : goal.returns
returns c = time_texts_are_clocks
