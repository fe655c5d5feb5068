use Rattle.dbl_faithful.proofs.Words.{complete_logs_are_images}
use Rattle.dbl_faithful.proofs.log_laws.complete_logs_are_images.Goals as goal

pub returns : goal.returns
returns c = complete_logs_are_images
