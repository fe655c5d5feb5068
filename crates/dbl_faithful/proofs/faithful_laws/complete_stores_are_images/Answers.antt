use Rattle.dbl_faithful.proofs.Complete.{complete_stores_are_images}
use Rattle.dbl_faithful.proofs.faithful_laws.complete_stores_are_images.Goals as goal

pub returns : goal.returns
returns c = complete_stores_are_images
