use Rattle.dbl_consume_courses.proofs.VersionLemmas.{version_one}
use Rattle.dbl_consume_courses.proofs.version_laws.unaltered_tables_have_version_one.Goals as goal

pub returns : goal.returns
returns c = version_one
