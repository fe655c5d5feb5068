use Rattle.dbl_tables_rows.proofs.LeastLemmas.{holder_first}
use Rattle.dbl_tables_rows.proofs.rows.table_holder.Goals as goal

pub returns-in_default : goal.returns-in_default
returns-in_default c = holder_first c.args.session.now c.args.rows.now.cleared c.args.rows.now.holders _ c.in_default.is c.first_other.ensures.ordered c.first_other.ensures.first
