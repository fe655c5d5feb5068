use Rattle.dbl_consume_courses.proofs.TableRepeats.{alterations_move_table}
use Rattle.dbl_consume_courses.proofs.table_laws.alterations_move_table_age.Goals as goal

pub returns : goal.returns
returns c = alterations_move_table
