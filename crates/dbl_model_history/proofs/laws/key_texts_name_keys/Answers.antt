use Rattle.dbl_model_history.proofs.ImageLemmas.{key_one}
use Rattle.dbl_model_history.proofs.laws.key_texts_name_keys.Goals as goal

pub returns : goal.returns
returns c = key_one
