use Rattle.dbl_gen.proofs.TextLemmas.{rows_more, rows_done}
use Rattle.dbl_gen.proofs.writing.write_rows.Goals as goal

pub rows-preserved : goal.rows-preserved
rows-preserved c = rows_more _ _ _ c.rows.row c.args.rows c.rows-test.true c.rows.invariant c.in_ok-write_row.ensures

pub returns : goal.returns
returns c = rows_done _ _ c.rows.row c.args.rows c.rows-test.false c.rows.invariant
