use Rattle.dbl_consume_courses.proofs.ThereWindows.{snapshots_keep_there}
use Rattle.dbl_consume_courses.proofs.there_laws.parts_of_snapshots_keep_rows_there.Goals as goal

pub returns : goal.returns
returns c = snapshots_keep_there
