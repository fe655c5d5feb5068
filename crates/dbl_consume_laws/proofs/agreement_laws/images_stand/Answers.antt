use Rattle.dbl_consume_laws.proofs.Named.{images_stand}
use Rattle.dbl_consume_laws.proofs.agreement_laws.images_stand.Goals as goal

pub returns : goal.returns
returns c = images_stand
