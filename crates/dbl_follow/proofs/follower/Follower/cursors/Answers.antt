use Rattle.std.proofs.Common.{subst}
use Rattle.dbl_model_history.specs.Cursors.{AreCursorsOf}
use Rattle.dbl_follow.specs.Followed.{Following}
use Rattle.dbl_follow.proofs.follower.Follower.cursors.Goals as goal

pub returns-clause-are : goal.returns-clause-are
returns-clause-are c = subst (λ (f : Following). AreCursorsOf f.infos f.cursors) c.self.view_is c.self.invariant.cursors_are
