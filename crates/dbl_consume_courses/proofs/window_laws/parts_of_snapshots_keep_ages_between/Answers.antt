use Rattle.dbl_consume_courses.proofs.WindowsBetween.{windows_between}
use Rattle.dbl_consume_courses.proofs.window_laws.parts_of_snapshots_keep_ages_between.Goals as goal

pub returns : goal.returns
returns c = windows_between
