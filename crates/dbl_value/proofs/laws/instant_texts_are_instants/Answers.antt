use Rattle.dbl_value.proofs.InstantForms.{instant_texts_are_instants}
use Rattle.dbl_value.proofs.laws.instant_texts_are_instants.Goals as goal

pub returns : goal.returns
returns c = instant_texts_are_instants
