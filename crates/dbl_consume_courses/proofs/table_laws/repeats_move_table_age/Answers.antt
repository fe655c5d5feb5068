use Rattle.dbl_consume_courses.proofs.TableRepeats.{repeats_move_table}
use Rattle.dbl_consume_courses.proofs.table_laws.repeats_move_table_age.Goals as goal

pub returns : goal.returns
returns c = repeats_move_table
