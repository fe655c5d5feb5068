use Rattle.dblog_streams.proofs.ReplayLaws.{strings_one}
use Rattle.dblog_streams.proofs.InputLemmas.{strings_exist}
use Rattle.dblog_streams.proofs.laws.strings_are_encoded.Goals as goal

pub returns-clause-one : goal.returns-clause-one
returns-clause-one c = strings_one

pub returns-clause-some : goal.returns-clause-some
returns-clause-some c = strings_exist
