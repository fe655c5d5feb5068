use Rattle.dbl_cli.proofs.SayLemmas.{one_command}
use Rattle.dbl_cli.proofs.laws.words_spell_one_command.Goals as goal

pub returns : goal.returns
returns c = one_command
