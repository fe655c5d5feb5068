use Rattle.dbl_source_scripted.proofs.FairExample.{fair_stands}
use Rattle.dbl_source_scripted.proofs.laws.fair_sources_stand.Goals as goal

pub returns : goal.returns
returns c = fair_stands
