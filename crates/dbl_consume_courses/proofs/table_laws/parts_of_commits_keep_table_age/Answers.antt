use Rattle.dbl_consume_courses.proofs.TableLemmas.{parts_keep_table}
use Rattle.dbl_consume_courses.proofs.table_laws.parts_of_commits_keep_table_age.Goals as goal

pub returns : goal.returns
returns c = parts_keep_table
