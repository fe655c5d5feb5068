use Rattle.dbl_demo_laws.proofs.ComesLemmas.{comes_released}
use Rattle.dbl_demo_laws.proofs.laws.calls_undo_nothing.Goals as goal

pub returns : goal.returns
returns g c = λ old new upto own was come first released known. comes_released g.D.Disk old new come was known upto own first released
