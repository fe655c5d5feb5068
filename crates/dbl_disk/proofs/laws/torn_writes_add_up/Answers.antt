use Rattle.dbl_disk.proofs.Tears.{one_less, one_more, only_stable, stable_only}
use Rattle.dbl_disk.proofs.laws.torn_writes_add_up.Goals as goal

pub returns-clause-none : goal.returns-clause-none
returns-clause-none c stable crashed = (only_stable stable crashed, stable_only stable crashed)

pub returns-clause-more : goal.returns-clause-more
returns-clause-more c stable crashed extents extent = (one_less stable extents extent crashed, λ made. one_more stable extents extent made.0 crashed made.1 made.2)
