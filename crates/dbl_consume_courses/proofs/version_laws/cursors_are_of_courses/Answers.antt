use Rattle.dbl_consume_courses.proofs.VersionLemmas.{cursors_are}
use Rattle.dbl_consume_courses.proofs.version_laws.cursors_are_of_courses.Goals as goal

pub returns : goal.returns
returns c = cursors_are
