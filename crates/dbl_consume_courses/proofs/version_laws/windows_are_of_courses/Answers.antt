use Rattle.dbl_consume_courses.proofs.VersionLemmas.{windows_are}
use Rattle.dbl_consume_courses.proofs.version_laws.windows_are_of_courses.Goals as goal

pub returns : goal.returns
returns c = windows_are
