use Rattle.dbl_cli.specs.Checks.{is_equals}
use Rattle.dbl_cli.proofs.CheckLemmas.{some_position, no_position}
use Rattle.dbl_cli.proofs.items.name_in.Goals as goal

pub returns-in-Some-clause-joined : goal.returns-in-Some-clause-joined
returns-in-Some-clause-joined c = some_position is_equals c.args.rest.now c.in-Some.end c.in-Some.ensures

pub returns-in-None-clause-joined : goal.returns-in-None-clause-joined
returns-in-None-clause-joined c = no_position is_equals c.args.rest.now c.in-None.ensures
