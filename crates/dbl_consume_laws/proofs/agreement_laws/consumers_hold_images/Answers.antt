use Rattle.dbl_consume_laws.proofs.Named.{hold_images}
use Rattle.dbl_consume_laws.proofs.agreement_laws.consumers_hold_images.Goals as goal

pub returns : goal.returns
returns c = hold_images
