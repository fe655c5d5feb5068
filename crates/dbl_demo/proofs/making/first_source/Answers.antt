use Rattle.std.proofs.Common.{refl}
use Rattle.dbl_demo_laws.proofs.MakeLemmas.{made_first}
use Rattle.dbl_demo.proofs.NumberLemmas.{first_numbers}
use Rattle.dbl_demo.proofs.making.first_source.Goals as goal

pub returns-clause-made : goal.returns-clause-made
returns-clause-made g c = λ script w is of lists.
    made_first g.D.Disk script w is c.args.prepared of _ refl refl lists refl refl refl refl refl (first_numbers c.args.prepared.rows _ c.requires.numbers) refl refl
