use Rattle.dbl_consume_courses.proofs.TableLemmas.{commits_move_table}
use Rattle.dbl_consume_courses.proofs.table_laws.commits_move_table_age.Goals as goal

pub returns : goal.returns
returns c = commits_move_table
