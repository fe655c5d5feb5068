use Rattle.dbl_value_types.proofs.Decimals.{decimals_spell_integers}
use Rattle.dbl_value.proofs.laws.decimals_spell_integers.Goals as goal

pub returns : goal.returns
returns c = decimals_spell_integers
