use Rattle.dbl_consume_courses.proofs.TableWindows.{snapshots_keep_table}
use Rattle.dbl_consume_courses.proofs.table_laws.parts_of_snapshots_keep_table_age.Goals as goal

pub returns : goal.returns
returns c = snapshots_keep_table
