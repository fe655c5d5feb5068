use Rattle.dbl_demo_laws.proofs.LeadLemmas.{lead_entry, lead_head, lead_start}
use Rattle.dbl_demo_laws.proofs.laws.groups_answer_as_promised.Goals as goal

pub returns : goal.returns
returns g c = λ old new wal upto s is stands done. record {
  described = λ name entry answer. lead_entry g.D.Disk old new wal is upto s stands done name entry answer;
  headed = λ lsn answer. lead_head g.D.Disk old new wal is upto s stands done lsn answer;
  started = λ after started answer. lead_start g.D.Disk old new wal is upto s stands done after started answer;
}
