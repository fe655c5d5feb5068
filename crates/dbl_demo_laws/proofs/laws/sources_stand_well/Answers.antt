use Rattle.dbl_demo_laws.specs.SourceLaws.{one_standing, only_left, right_so, rising_so}
use Rattle.dbl_demo_laws.proofs.laws.sources_stand_well.Goals as goal

pub returns : goal.returns
returns g c = λ demo s stands. record {
  one = λ t of_t. one_standing g.D.Disk demo s t stands of_t;
  rising = rising_so g.D.Disk demo s stands;
  right = λ r is. right_so g.D.Disk demo s r stands is;
  only = λ l may. only_left g.D.Disk demo s l stands may;
}
