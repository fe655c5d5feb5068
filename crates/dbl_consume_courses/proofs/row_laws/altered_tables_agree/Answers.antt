use Rattle.dbl_consume_courses.proofs.AgreementLemmas.{tables_agree}
use Rattle.dbl_consume_courses.proofs.row_laws.altered_tables_agree.Goals as goal

pub returns : goal.returns
returns c = tables_agree
