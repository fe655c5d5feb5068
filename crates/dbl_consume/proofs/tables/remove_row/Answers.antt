use Rattle.std.proofs.Common.{None}
use Rattle.dbl_consume.proofs.TableLemmas.{row_changed}
use Rattle.dbl_consume.proofs.tables.remove_row.Goals as goal

pub returns : goal.returns
returns c = row_changed c.args.table.now c.remove.new.self c.args.key.now None c.remove.ensures.updates
