use Rattle.dbl_cli.proofs.SpelledLemmas.{spelled_or_not}
use Rattle.dbl_cli.proofs.laws.words_spell_or_not.Goals as goal

pub returns : goal.returns
returns c = spelled_or_not
