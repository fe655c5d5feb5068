use Rattle.dbl_source_model.proofs.SelectLemmas.{one_answer}
use Rattle.dbl_source_model.proofs.laws.answers_at_a_place_are_one.Goals as goal

pub returns : goal.returns
returns c = one_answer
