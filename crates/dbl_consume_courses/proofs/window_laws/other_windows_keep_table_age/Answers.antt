use Rattle.dbl_consume_courses.proofs.OtherWindows.{other_windows}
use Rattle.dbl_consume_courses.proofs.window_laws.other_windows_keep_table_age.Goals as goal

pub returns : goal.returns
returns c = other_windows
