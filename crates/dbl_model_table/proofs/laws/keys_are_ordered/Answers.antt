use Rattle.dbl_model_table.proofs.KeyLemmas.{key_total, same_key-Decides}
use Rattle.dbl_model_table.proofs.laws.keys_are_ordered.Goals as goal

pub returns : goal.returns
returns c = (key_total, same_key-Decides)
