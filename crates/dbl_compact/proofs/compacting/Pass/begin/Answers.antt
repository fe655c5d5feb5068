use Rattle.std.proofs.Common.{reverse, refl, ap}
use Rattle.dbl_compact.proofs.compacting.Pass.begin.Goals as goal

pub returns-clause-begins : goal.returns-clause-begins
returns-clause-begins c = λ index. record {
  same = c.in_ok-make.ensures.placeholder;
  read = c.in_ok-make.ensures.read;
  keeps = ap reverse c.new.ensures.items;
  refuses = refl;
}
