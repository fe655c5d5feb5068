use Rattle.dbl_demo_wal.proofs.ContentLemmas.{scripts_filled}
use Rattle.dbl_demo_wal.proofs.TableLemmas.{good_scripts}
use Rattle.dbl_demo_wal.proofs.sound_laws.workloads_are_filled.Goals as goal

pub returns-clause-filled : goal.returns-clause-filled
returns-clause-filled c = scripts_filled

pub returns-clause-few : goal.returns-clause-few
returns-clause-few c = good_scripts
