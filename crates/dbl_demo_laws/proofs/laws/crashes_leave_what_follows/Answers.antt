use Rattle.dbl_demo_laws.proofs.LeadLemmas.{left_confirm, left_mark}
use Rattle.dbl_demo_laws.proofs.PromiseLemmas.{left_held}
use Rattle.dbl_demo_laws.proofs.laws.crashes_leave_what_follows.Goals as goal

pub returns : goal.returns
returns g c = λ old new upto. record {
  released = λ first. left_held g.D.Disk old new upto first;
  marked = λ value first. left_mark g.D.Disk old new upto value first;
  confirmed = λ lsn first. left_confirm g.D.Disk old new upto lsn first;
}
