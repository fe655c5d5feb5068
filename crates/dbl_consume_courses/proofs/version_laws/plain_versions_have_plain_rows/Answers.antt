use Rattle.dbl_consume_courses.proofs.VersionLemmas.{plain_rows_are}
use Rattle.dbl_consume_courses.proofs.version_laws.plain_versions_have_plain_rows.Goals as goal

pub returns : goal.returns
returns c = plain_rows_are
