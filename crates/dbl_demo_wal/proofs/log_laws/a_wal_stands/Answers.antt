use Rattle.dbl_demo_wal.proofs.ExampleLemmas.{a_wal}
use Rattle.dbl_demo_wal.proofs.log_laws.a_wal_stands.Goals as goal

pub returns : goal.returns
returns c = a_wal
