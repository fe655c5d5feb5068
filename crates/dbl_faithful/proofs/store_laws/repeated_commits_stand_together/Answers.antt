use Rattle.dbl_faithful.proofs.StorePositions.{repeated_commits_stand_together}
use Rattle.dbl_faithful.proofs.store_laws.repeated_commits_stand_together.Goals as goal

pub returns : goal.returns
returns c = repeated_commits_stand_together
