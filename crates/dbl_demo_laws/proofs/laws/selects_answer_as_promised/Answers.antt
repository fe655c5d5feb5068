use Rattle.dbl_demo_laws.proofs.SelectLemmas.{lead_select}
use Rattle.dbl_demo_laws.proofs.laws.selects_answer_as_promised.Goals as goal

pub returns : goal.returns
returns g c = λ old new wal table above limit rows s is stands done answer. lead_select g.D.Disk old new wal is table above limit rows s stands done answer
