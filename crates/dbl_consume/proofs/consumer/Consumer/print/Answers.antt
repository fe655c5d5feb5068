use Rattle.dbl_record.specs.Consumers.{consumer_of}
use Rattle.dbl_consume.specs.RowTexts.{all_rows}
use Rattle.dbl_consume.proofs.RowLemmas.{rows_of_tables}
use Rattle.dbl_consume.proofs.consumer.Consumer.print.Goals as goal

pub returns-clause-prints : goal.returns-clause-prints
returns-clause-prints g c = λ taken took.
    let tables = c.args.self.now.tables in
    (all_rows tables.entries, rows_of_tables (consumer_of c.args.self.now.placeholder taken) tables c.look_at_order.ensures.topics c.look_at_order.ensures.keys took, c.print.ensures.prints)
