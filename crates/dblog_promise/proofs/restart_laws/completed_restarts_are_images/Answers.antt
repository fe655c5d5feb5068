use Rattle.dblog_promise.proofs.Chains.{completed_restarts_are_images}
use Rattle.dblog_promise.proofs.restart_laws.completed_restarts_are_images.Goals as goal

pub returns : goal.returns
returns c = completed_restarts_are_images
