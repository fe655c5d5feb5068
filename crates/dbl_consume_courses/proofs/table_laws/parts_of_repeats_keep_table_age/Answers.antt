use Rattle.dbl_consume_courses.proofs.TableRepeats.{repeat_parts_keep_table}
use Rattle.dbl_consume_courses.proofs.table_laws.parts_of_repeats_keep_table_age.Goals as goal

pub returns : goal.returns
returns c = repeat_parts_keep_table
