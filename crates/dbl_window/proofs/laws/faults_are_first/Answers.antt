use Rattle.dbl_window.proofs.FirstFaults.{faults_first}
use Rattle.dbl_window.proofs.laws.faults_are_first.Goals as goal

pub returns : goal.returns
returns c = faults_first
