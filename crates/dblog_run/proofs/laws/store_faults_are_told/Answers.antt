use Rattle.dblog_run.proofs.RefusalLaws.{faults_told}
use Rattle.dblog_run.proofs.laws.store_faults_are_told.Goals as goal

pub returns : goal.returns
returns c = faults_told
