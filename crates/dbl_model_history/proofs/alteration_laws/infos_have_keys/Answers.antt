use Rattle.dbl_model_history.proofs.KeptKeysLemmas.{infos_have_keys}
use Rattle.dbl_model_history.proofs.alteration_laws.infos_have_keys.Goals as goal

pub returns : goal.returns
returns c = infos_have_keys
