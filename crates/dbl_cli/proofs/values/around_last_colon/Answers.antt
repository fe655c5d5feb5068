use Rattle.dbl_cli.proofs.ColonLemmas.{split_at_last}
use Rattle.dbl_cli.proofs.values.around_last_colon.Goals as goal

pub returns : goal.returns
returns c = split_at_last c.args.text.now c.rsplit_once.result c.rsplit_once.ensures.cases
