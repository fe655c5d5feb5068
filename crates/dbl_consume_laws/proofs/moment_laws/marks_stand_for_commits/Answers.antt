use Rattle.dbl_consume_laws.proofs.Moments.{marks_stand}
use Rattle.dbl_consume_laws.proofs.moment_laws.marks_stand_for_commits.Goals as goal

pub returns : goal.returns
returns c = marks_stand
