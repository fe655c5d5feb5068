use Rattle.dblog_streams.proofs.ApplyLaws.{applies_one}
use Rattle.dblog_streams.proofs.InputLemmas.{apply_exists}
use Rattle.dblog_streams.proofs.laws.inputs_are_applied.Goals as goal

pub returns-clause-one : goal.returns-clause-one
returns-clause-one c = applies_one

pub returns-clause-some : goal.returns-clause-some
returns-clause-some c = apply_exists
