use Rattle.std.proofs.Common.{◌∙◌, ap}
use Rattle.dbl_cli.specs.Checks.{is_end}
use Rattle.dbl_cli.proofs.CheckLemmas.{end_is}
use Rattle.dbl_cli.proofs.items.is_end.Goals as goal

pub returns-in-Some : goal.returns-in-Some
returns-in-Some c = end_is c.args.words.now c.in-Some.end c.in-Some.ensures.within ∙ ap is_end c.in-Some.ensures.words
