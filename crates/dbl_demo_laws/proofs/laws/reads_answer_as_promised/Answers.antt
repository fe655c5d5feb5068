use Rattle.dbl_demo_laws.proofs.ReadLemmas.{demo_after, lead_read}
use Rattle.dbl_demo_laws.proofs.laws.reads_answer_as_promised.Goals as goal

pub returns : goal.returns
returns g c = λ old new wal place s read is there stands live ended subsequent.
    lead_read g.D.Disk old new wal place is there s stands read (demo_after g.D.Disk old new wal place is there live read ended subsequent) subsequent
