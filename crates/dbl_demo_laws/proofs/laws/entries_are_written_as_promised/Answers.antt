use Rattle.dbl_demo_laws.proofs.LeadLemmas.{lead_confirm, lead_mark}
use Rattle.dbl_demo_laws.proofs.laws.entries_are_written_as_promised.Goals as goal

pub returns : goal.returns
returns g c = λ old new wal upto s is stands place. record {
  marked = λ value done. lead_mark g.D.Disk old new wal is upto value s stands done place;
  confirmed = λ lsn done. lead_confirm g.D.Disk old new wal is upto lsn s stands done place;
}
