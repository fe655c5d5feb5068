use Rattle.dbl_demo_wal.proofs.ExampleWal.{a_select}
use Rattle.dbl_demo_wal.proofs.select_laws.a_select_stands.Goals as goal

pub returns : goal.returns
returns c = a_select
